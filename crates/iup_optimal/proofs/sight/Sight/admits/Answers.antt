use Rattle.std.proofs.Common.{◌↔◌, IsTrue, pos, of_z, ap, subst, arith}
use Rattle.std.proofs.lemmas.Int.{ints}
use Rattle.std.specs.Int.{w64}
use Rattle.iup_optimal.specs.declared.side.Relative.{Relative}
use Rattle.iup_optimal.specs.Sides.{AllowsAt, Allows}
use Rattle.iup_optimal.proofs.SideLemmas.{same_number}
use Rattle.iup_optimal.proofs.SightLemmas.{admits_above, admits_below, admits_level, admits_still}
use Rattle.iup_optimal.proofs.sight.Sight.admits.Goals as goal

pub returns-then-relative-gt0 : goal.returns-then-relative-gt0
returns-then-relative-gt0 c =
    subst (λ (l : Relative). IsTrue c.allows.result ↔ AllowsAt c.args.self.now l) c.between-relative.ensures.value
    (admits_above c.args.self.now c.between-relative.result c.allows.result (omega (arith, ints, c.between-relative.ensures.within.way.low, c.between-relative.ensures.within.way.high)) c.allows.ensures)

pub returns-then-relative-lt0 : goal.returns-then-relative-lt0
returns-then-relative-lt0 c =
    let other = subst (λ (l : Relative). IsTrue c.allows-then-relative-lt0.result ↔ Allows c.args.self.now.below l) c.turned.ensures.value c.allows-then-relative-lt0.ensures in
    subst (λ (l : Relative). IsTrue c.allows-then-relative-lt0.result ↔ AllowsAt c.args.self.now l) c.between-relative.ensures.value
    (admits_below c.args.self.now c.between-relative.result c.allows-then-relative-lt0.result (omega (arith, ints, c.between-relative.ensures.within.way.low, c.between-relative.ensures.within.way.high)) other)

pub returns-then-relative-eq0 : goal.returns-then-relative-eq0
returns-then-relative-eq0 c =
    let same = same_number c.between-relative.result.step (pos 0) (omega (arith, ints, c.between-relative.ensures.within.step.low, c.between-relative.ensures.within.step.high)) (omega (arith, ints)) c.if-relative-eq0.true in
    subst (λ (l : Relative). IsTrue c.args.self.now.level ↔ AllowsAt c.args.self.now l) c.between-relative.ensures.value
    (admits_level c.args.self.now c.between-relative.result (omega (arith, ints, c.between-relative.ensures.within.way.low, c.between-relative.ensures.within.way.high)) same)

pub returns-else-relative-eq0 : goal.returns-else-relative-eq0
returns-else-relative-eq0 c =
    subst (λ (l : Relative). IsTrue c.args.self.now.still ↔ AllowsAt c.args.self.now l) c.between-relative.ensures.value
    (admits_still c.args.self.now c.between-relative.result (omega (arith, ints, c.between-relative.ensures.within.way.low, c.between-relative.ensures.within.way.high))
    (λ same. c.if-relative-eq0.false (ap (λ z. of_z w64 z) same)))
