-- Quantities in font design units (OpenType, "Data types": FWORD).
use Rattle.std.specs.Prelude.{ℕ, ℤ, pos, negsuc, neg_ℤ, ◌≤ℤ◌}
use Rattle.fixpoint.specs.declared.plane.Pair.{Pair}
use Rattle.variation_rules.specs.declared.inferred.Reference.{Reference}

-- a quantity that fits 16 bits
pub record IsFWord (z : ℤ) : Type 0 where
  pub low : negsuc 32767 ≤ℤ z
  pub high : z ≤ℤ pos 32767

-- a point or a delta of the plane of such quantities
pub record AreFWords (pair : Pair) : Type 0 where
  pub x : IsFWord pair.x
  pub y : IsFWord pair.y

-- a reference with such a coordinate and such a delta
pub record IsReference (reference : Reference) : Type 0 where
  pub at : IsFWord reference.at
  pub delta : IsFWord reference.delta

-- the difference of two such quantities
pub record IsDifference (z : ℤ) : Type 0 where
  pub low : negsuc 65534 ≤ℤ z
  pub high : z ≤ℤ pos 65535

-- a quantity of so many 65536ths, either way
pub record IsWithin (bound : ℕ) (z : ℤ) : Type 0 where
  pub low : neg_ℤ (pos bound) ≤ℤ z
  pub high : z ≤ℤ pos bound
