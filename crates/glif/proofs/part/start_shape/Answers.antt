use Rattle.std.proofs.Common.{sym, ◌∙◌}
use Rattle.markup_rules.specs.Outcome.{begun}
use Rattle.markup.specs.Tags.{opening_of, tag_tree}
use Rattle.glif.specs.Glyphs.{shape_of}
use Rattle.glif.specs.Parts.{going_on}
use Rattle.glif.proofs.Keeping.{faulty_shape, shape_begun}
use Rattle.glif.proofs.part.start_shape.Goals as goal

pub returns-in-Err : goal.returns-in-Err
returns-in-Err c = λ root o g is.
    let tag = c.args.tag.now in
    rw c.passing_at.ensures (λ children text. faulty_shape o g c.args.outline (going_on (begun tag.at (opening_of tag)) children text) c.in-Err.spot is c.in-Err.is)

pub returns : goal.returns
returns c = λ root o g is.
    let tag = c.args.tag.now in
    let read = c.in_ok-shapes.ensures (shape_of c.in-Ok.shapes (tag_tree tag)) c.read_component_shape.ensures in
    rw c.passing_at-2.ensures (shape_begun o g (begun tag.at (opening_of tag)) c.args.outline c.in-Ok.shapes _ is c.in-Ok.is (sym c.is_named.ensures ∙ c.if-is_named.false) read)
