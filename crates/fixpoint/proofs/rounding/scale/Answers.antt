use Rattle.std.proofs.Common.{◌≡◌, pos, ◌*ℤ◌, ◌≤ℤ◌, ℤ, ◌<ℤ◌, FitsSigned, to_z-of_z, arith}
use Rattle.std.proofs.lemmas.Int.{ints}
use Rattle.std.specs.Int.{w64}
use Rattle.std.specs.Int.RustNames.{unsigned_abs}
use Rattle.fixpoint.specs.Rounding.{round_up}
use Rattle.fixpoint.proofs.RoundingLemmas.{scaled_within}
use Rattle.fixpoint.proofs.rounding.scale.Goals as goal

-- the part lies between nothing and the whole
within : (s a b : ℤ) → pos 0 ≤ℤ s → pos 0 ≤ℤ a → a ≤ℤ b → pos 0 <ℤ b → (pos 0 ≤ℤ round_up (s *ℤ a) (unsigned_abs b)) × (round_up (s *ℤ a) (unsigned_abs b) ≤ℤ s)
within s a b whole part fraction positive =
    scaled_within s a (unsigned_abs b) (omega (arith, ints)) whole part (omega (arith, ints))

pub mul_div_up-requires-clause-fits : goal.mul_div_up-requires-clause-fits
mul_div_up-requires-clause-fits c =
    let s : FitsSigned w64 c.args.s = c.ranges.s in
    let a : FitsSigned w64 c.args.a = c.ranges.a in
    let b : FitsSigned w64 c.args.b = c.ranges.b in
    let part = within c.args.s c.args.a c.args.b c.requires.whole c.requires.part c.requires.within c.requires.positive in
    let fits : FitsSigned w64 (round_up (c.args.s *ℤ c.args.a) (unsigned_abs c.args.b)) = omega (arith, ints, part) in
    simp to_z-of_z fits

pub returns-clause-low : goal.returns-clause-low
returns-clause-low c =
    let s : FitsSigned w64 c.args.s = c.ranges.s in
    let a : FitsSigned w64 c.args.a = c.ranges.a in
    let b : FitsSigned w64 c.args.b = c.ranges.b in
    let part = within c.args.s c.args.a c.args.b c.requires.whole c.requires.part c.requires.within c.requires.positive in
    let value : c.mul_div_up.result ≡ round_up (c.args.s *ℤ c.args.a) (unsigned_abs c.args.b) = simp to_z-of_z at c.mul_div_up.ensures in
    omega (arith, ints, part)

pub returns-clause-high : goal.returns-clause-high
returns-clause-high c =
    let s : FitsSigned w64 c.args.s = c.ranges.s in
    let a : FitsSigned w64 c.args.a = c.ranges.a in
    let b : FitsSigned w64 c.args.b = c.ranges.b in
    let part = within c.args.s c.args.a c.args.b c.requires.whole c.requires.part c.requires.within c.requires.positive in
    let value : c.mul_div_up.result ≡ round_up (c.args.s *ℤ c.args.a) (unsigned_abs c.args.b) = simp to_z-of_z at c.mul_div_up.ensures in
    omega (arith, ints, part)
