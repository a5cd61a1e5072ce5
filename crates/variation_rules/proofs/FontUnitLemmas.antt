-- Numbers of 16 bits are quantities in font units, and the other way round.
use Rattle.std.proofs.Common.{ℤ, FitsSigned, arith}
use Rattle.std.proofs.lemmas.Int.{ints}
use Rattle.std.specs.Int.{w16}
use Rattle.variation_rules.specs.FontUnits.{IsFWord}

pub fits_from_fword : (z : ℤ) → IsFWord z → FitsSigned w16 z
fits_from_fword z word = omega (arith, ints)
