use Rattle.std.proofs.Common.{sym, ap, ◌∙◌}
use Rattle.markup.specs.Tags.{tag_tree}
use Rattle.glif.specs.Opened.{opened}
use Rattle.glif.specs.Parts.{named}
use Rattle.glif.proofs.part.start_root.Goals as goal

pub returns : goal.returns
returns c = λ root.
    rw c.at_place.ensures (ap named (sym (c.in_ok-name.ensures (opened (tag_tree c.args.tag.now)) c.open_glyph.ensures)) ∙ sym c.named.ensures)
