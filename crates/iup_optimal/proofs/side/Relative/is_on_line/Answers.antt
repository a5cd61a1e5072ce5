use Rattle.std.proofs.Common.{◌*ℤ◌, FitsSigned, to_z-of_z, arith, rules}
use Rattle.std.proofs.lemmas.Int.{ints}
use Rattle.std.specs.Int.{w64}
use Rattle.iup_optimal.proofs.SideLemmas.{tests_same}
use Rattle.iup_optimal.proofs.side.Relative.is_on_line.Goals as goal

pub returns : goal.returns
returns c =
    let own_way : FitsSigned w64 c.args.self.way = omega (arith, ints) in
    let own_step : FitsSigned w64 c.args.self.step = omega (arith, ints) in
    let other_way : FitsSigned w64 c.args.other.way = omega (arith, ints) in
    let other_step : FitsSigned w64 c.args.other.step = omega (arith, ints) in
    let one_fits : FitsSigned w64 (c.args.self.step *ℤ c.args.other.way) = search rules in
    let two_fits : FitsSigned w64 (c.args.self.way *ℤ c.args.other.step) = search rules in
    simp to_z-of_z (tests_same (c.args.self.step *ℤ c.args.other.way) (c.args.self.way *ℤ c.args.other.step) one_fits two_fits)
