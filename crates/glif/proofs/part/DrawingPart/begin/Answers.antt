use Rattle.std.proofs.Common.{◌≡◌, subst, arith}
use Rattle.markup_rules.specs.Outcome.{begun}
use Rattle.markup.specs.Tags.{opening_of}
use Rattle.glif.specs.Parts.{IsPassed, IsPlace}
use Rattle.glif.proofs.Passing.{point_kept}
use Rattle.glif.proofs.part.DrawingPart.begin.Goals as goal

pub returns-in-Contour : goal.returns-in-Contour
returns-in-Contour c = λ root frames kept.
    let tag = c.args.tag.now in
    let none : c.args.self.now.passed ≡ 0 = omega (arith, c.if-self-gt0.false) in
    point_kept c.args.self.now c.in-Contour.contour _ root frames (begun tag.at (opening_of tag)) kept none c.in-Contour.is c.in_ok-take.ensures

pub returns : goal.returns
returns c = λ root frames kept.
    let none : c.args.self.now.passed ≡ 0 = omega (arith, c.if-self-gt0.false) in
    let here : IsPlace c.args.self.now.place root frames = subst (λ n. IsPassed (IsPlace c.args.self.now.place root) n frames) none kept in
    c.in_ok-self.ensures root frames (rw c.replace-place.ensures.value here)
