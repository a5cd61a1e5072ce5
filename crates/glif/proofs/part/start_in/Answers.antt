use Rattle.std.proofs.Common.{Err, ap, ◌∙◌, subst}
use Rattle.markup_rules.specs.Outcome.{begun}
use Rattle.markup.specs.Tags.{opening_of}
use Rattle.glif.specs.Parts.{IsPlace}
use Rattle.glif.specs.declared.part.Place.TheVariants as place
use Rattle.glif.proofs.Passing.{faulty_begun}
use Rattle.glif.proofs.part.start_in.Goals as goal

pub returns-in-Glyph-Err : goal.returns-in-Glyph-Err
returns-in-Glyph-Err c = λ root frames kept.
    let tag = c.args.tag.now in
    let before : IsPlace (place.Glyph (Err c.in-Glyph-Err.spot)) root frames = subst (λ p. IsPlace p root frames) (c.in-Glyph-Err.is ∙ ap place.Glyph c.in-Glyph-Err.field-0-is) kept in
    rw c.passing_at.ensures (faulty_begun (begun tag.at (opening_of tag)) c.in-Glyph-Err.spot root frames before)
