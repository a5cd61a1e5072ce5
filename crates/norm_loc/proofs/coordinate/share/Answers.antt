use Rattle.std.proofs.Common.{◌≡◌, pos, ◌*ℤ◌, ℤ, ◌<ℤ◌, FitsSigned, rules, to_z-of_z, arith}
use Rattle.std.proofs.lemmas.Int.{ints}
use Rattle.std.specs.Int.{w64}
use Rattle.std.specs.Int.RustNames.{unsigned_abs}
use Rattle.fixpoint.specs.Rounding.{round_up}
use Rattle.std.specs.Prelude.{int_lt, true}
use Rattle.norm_loc.specs.Normalising.{share}
use Rattle.norm_loc.proofs.RoundingBounds.{share_bounds}
use Rattle.norm_loc.proofs.coordinate.share.Goals as goal

above : (d : ℤ) → int_lt (pos 0) d ≡ true → pos 0 <ℤ d
above d test = omega (arith, ints)

pub mul_div_up-requires-clause-fits : goal.mul_div_up-requires-clause-fits
mul_div_up-requires-clause-fits c =
    let part : FitsSigned w64 c.args.part = c.ranges.part in
    let whole : FitsSigned w64 c.args.whole = c.ranges.whole in
    let test : int_lt (pos 0) c.args.whole ≡ true = simp to_z-of_z at c.if-whole-gt0.true in
    let positive : pos 0 <ℤ c.args.whole = above c.args.whole test in
    let bounds = share_bounds c.args.part c.args.whole positive c.requires.low c.requires.high in
    let fits : FitsSigned w64 (round_up (pos 16384 *ℤ c.args.part) (unsigned_abs c.args.whole)) = omega (arith, ints, bounds) in
    simp to_z-of_z fits

pub returns-then-whole-gt0-clause-value : goal.returns-then-whole-gt0-clause-value
unfolding share
returns-then-whole-gt0-clause-value c =
    let part : FitsSigned w64 c.args.part = c.ranges.part in
    let whole : FitsSigned w64 c.args.whole = c.ranges.whole in
    let value : c.mul_div_up.result ≡ round_up (pos 16384 *ℤ c.args.part) (unsigned_abs c.args.whole) = simp to_z-of_z at c.mul_div_up.ensures in
    search rules

pub returns-then-whole-gt0-clause-low : goal.returns-then-whole-gt0-clause-low
returns-then-whole-gt0-clause-low c =
    let part : FitsSigned w64 c.args.part = c.ranges.part in
    let whole : FitsSigned w64 c.args.whole = c.ranges.whole in
    let value : c.mul_div_up.result ≡ round_up (pos 16384 *ℤ c.args.part) (unsigned_abs c.args.whole) = simp to_z-of_z at c.mul_div_up.ensures in
    let test : int_lt (pos 0) c.args.whole ≡ true = simp to_z-of_z at c.if-whole-gt0.true in
    let positive : pos 0 <ℤ c.args.whole = above c.args.whole test in
    let bounds = share_bounds c.args.part c.args.whole positive c.requires.low c.requires.high in
    let fits : FitsSigned w64 c.mul_div_up.result = omega (arith, ints, bounds) in
    simp to_z-of_z (omega (arith, ints, bounds))

pub returns-then-whole-gt0-clause-high : goal.returns-then-whole-gt0-clause-high
returns-then-whole-gt0-clause-high c =
    let part : FitsSigned w64 c.args.part = c.ranges.part in
    let whole : FitsSigned w64 c.args.whole = c.ranges.whole in
    let value : c.mul_div_up.result ≡ round_up (pos 16384 *ℤ c.args.part) (unsigned_abs c.args.whole) = simp to_z-of_z at c.mul_div_up.ensures in
    let test : int_lt (pos 0) c.args.whole ≡ true = simp to_z-of_z at c.if-whole-gt0.true in
    let positive : pos 0 <ℤ c.args.whole = above c.args.whole test in
    let bounds = share_bounds c.args.part c.args.whole positive c.requires.low c.requires.high in
    let fits : FitsSigned w64 c.mul_div_up.result = omega (arith, ints, bounds) in
    simp to_z-of_z (omega (arith, ints, bounds))

pub returns-else-whole-gt0-clause-value : goal.returns-else-whole-gt0-clause-value
unfolding share
returns-else-whole-gt0-clause-value c = search rules
