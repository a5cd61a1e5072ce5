use Rattle.std.proofs.Common.{sym, ◌∙◌}
use Rattle.markup_rules.specs.Outcome.{begun}
use Rattle.markup.specs.Tags.{opening_of, tag_tree}
use Rattle.glif.specs.Glyphs.{child_of}
use Rattle.glif.proofs.Keeping.{child_begun}
use Rattle.glif.proofs.part.start_child.Goals as goal

pub returns : goal.returns
returns c = λ root g before.
    let tag = c.args.tag.now in
    let read = c.in_ok-seen.ensures (child_of c.args.glyph.seen (tag_tree tag)) c.read_other_child.ensures in
    rw c.passing_at.ensures (λ children text. child_begun g (begun tag.at (opening_of tag)) c.args.glyph _ before (sym c.is_first_outline.ensures ∙ c.if-is_first_outline.false) read children text ∙ sym c.with_seen.ensures)
