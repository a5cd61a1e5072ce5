use Rattle.std.proofs.Common.{sym, ap, ◌∙◌, Err}
use Rattle.std.specs.Prelude.{Result}
use Rattle.basics.specs.Reading.{◌>>=◌}
use Rattle.basics.specs.declared.fault.Spot.{Spot}
use Rattle.markup_rules.specs.Outcome.{ended}
use Rattle.glif.specs.declared.outline.Shapes.{Shapes}
use Rattle.glif.specs.Glyphs.{few}
use Rattle.glif.proofs.Keeping.{outline_ended}
use Rattle.glif.proofs.part.end_outline.Goals as goal

pub returns-in_ok-held-in-Ok : goal.returns-in_ok-held-in-Ok
returns-in_ok-held-in-Ok c = λ o g is.
    let shapes = c.in-Ok.shapes in
    let tested = c.in_ok-held-in-Ok.ensures (few (ended o) shapes) (c.few.ensures (ended o) is.at) in
    outline_ended o g c.args.outline _ is (ap (λ (r : Result Shapes Spot). r >>= λ shapes. few (ended o) shapes) c.in-Ok.is ∙ sym tested) ∙ sym c.with_outline.ensures

pub returns-in-Err : goal.returns-in-Err
returns-in-Err c = λ o g is.
    outline_ended o g c.args.outline (Err c.in-Err.spot) is (ap (λ (r : Result Shapes Spot). r >>= λ shapes. few (ended o) shapes) c.in-Err.is)
