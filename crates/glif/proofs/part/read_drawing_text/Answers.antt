use Rattle.std.proofs.Common.{Some}
use Rattle.glif.specs.Parts.{IsPlace}
use Rattle.glif.proofs.Passing.{none_open}
use Rattle.glif.proofs.part.read_drawing_text.Goals as goal

pub returns : goal.returns
returns c =
    let kept = c.in_ok-part.ensures in
    rw kept.1 (c.whole.ensures kept.0 (none_open (IsPlace c.in_ok-part.part.place (Some kept.0)) c.in_ok-part.part.passed kept.2))
