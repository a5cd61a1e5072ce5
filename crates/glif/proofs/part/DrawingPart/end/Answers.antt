use Rattle.std.proofs.Common.{◌≡◌, subst, arith}
use Rattle.glif.specs.Parts.{IsPassed, IsPlace}
use Rattle.glif.proofs.part.DrawingPart.end.Goals as goal

pub returns : goal.returns
returns c = λ s kept.
    let none : c.args.self.now.passed ≡ 0 = omega (arith, c.if-self-gt0.false) in
    let here : IsPlace c.args.self.now.place s.root s.frames = subst (λ n. IsPassed (IsPlace c.args.self.now.place s.root) n s.frames) none kept in
    rw none (c.in_ok-self.ensures s (rw c.replace-place.ensures.value here))
