use Rattle.std.proofs.Common.{FitsSigned, to_z-of_z, of_z, ap, arith, rules}
use Rattle.std.proofs.lemmas.Int.{ints}
use Rattle.std.specs.Int.{w64}
use Rattle.iup_optimal.proofs.SideLemmas.{same_number, beyond_same, beyond_other, within_other}
use Rattle.iup_optimal.proofs.side.Farthest.seeing.Goals as goal

pub returns-then-self-point-clause-allows : goal.returns-then-self-point-clause-allows
returns-then-self-point-clause-allows c end =
    let torn_fits : FitsSigned w64 c.args.self.torn = search rules in
    let same = same_number c.args.point.step c.args.self.at.step (search rules) (search rules) c.if-point-self.true in
    simp to_z-of_z (beyond_same c.args.self c.args.point end c.requires same (omega (arith, ints)))

pub returns-then-self-point-2-clause-allows : goal.returns-then-self-point-2-clause-allows
returns-then-self-point-2-clause-allows c end =
    let way_fits : FitsSigned w64 c.args.self.at.way = search rules in
    simp to_z-of_z (beyond_other c.args.self c.args.point end (λ same. c.if-point-self.false (ap (λ z. of_z w64 z) same)) (omega (arith, ints)))

pub returns-then-self-point-3-clause-allows : goal.returns-then-self-point-3-clause-allows
returns-then-self-point-3-clause-allows c end =
    let way_fits : FitsSigned w64 c.args.point.way = search rules in
    simp to_z-of_z (within_other c.args.self c.args.point end (λ same. c.if-point-self.false (ap (λ z. of_z w64 z) same)) (omega (arith, ints)) (omega (arith, ints)))
