-- The tuples that can be written, and what they are as tuple variations.
use Rattle.std.specs.Prelude.{◌≡◌, ℕ, ℤ, pos, negsuc, ◌<◌, ◌≤◌, ◌≤ℤ◌, List, length, All, true, FitsSigned}
use Rattle.std.specs.Int.{w16}
use Rattle.fixpoint.specs.declared.plane.Pair.{Pair}
use Rattle.arrayvec.specs.ArrayVec.{array_vec_len}
use Rattle.variation_rules.specs.PackedPoints.{RisesWithin}
use Rattle.variation_rules.specs.Scalar.{is_ignored}
use Rattle.variation_rules.specs.declared.region.Triple.{Triple}
use Rattle.variation_rules.specs.declared.tuple.TupleVariation.{TupleVariation}
use Rattle.gvar_table.specs.declared.tuple.Tuple.{Tuple}

-- a normalised coordinate, from -1 to 1
pub record IsCoordinate (raw : ℤ) : Type 0 where
  pub low : negsuc 16383 ≤ℤ raw
  pub high : raw ≤ℤ pos 16384

-- one axis of a region; where the scalar passes over it, all three coordinates are 0
pub record IsRegionAxis (triple : Triple) : Type 0 where
  pub start : IsCoordinate triple.start
  pub peak : IsCoordinate triple.peak
  pub end : IsCoordinate triple.end
  pub ignored : is_ignored triple ≡ true → triple ≡ record { start = pos 0; peak = pos 0; end = pos 0 }

-- both numbers of a delta are of 16 bits
pub record IsDelta (delta : Pair) : Type 0 where
  pub x : FitsSigned w16 delta.x
  pub y : FitsSigned w16 delta.y

-- some points of a glyph that has so many, the four phantom points among them, and a delta for each
pub record ArePointDeltas (count : ℕ) (points : List ℕ) (deltas : List Pair) : Type 0 where
  pub some : 0 < length points
  pub rise : RisesWithin 0 count points
  pub one_each : length deltas ≡ length points
  pub words : All IsDelta deltas

-- a tuple in a font of so many axes, for a glyph of so many points
pub record IsTupleOf (axes count : ℕ) (tuple : Tuple) : Type 0 where
  pub axis_each : array_vec_len tuple.support ≡ axes
  pub region : All IsRegionAxis tuple.support.items
  pub moves : ArePointDeltas count tuple.points tuple.deltas

-- the tuples of one glyph
pub record AreTuplesOf (axes count : ℕ) (tuples : List Tuple) : Type 0 where
  pub some_axes : 0 < axes
  pub few_axes : axes ≤ 8
  pub phantom_points : 4 ≤ count
  pub few_points : count ≤ 4004
  pub few : length tuples ≤ 127
  pub each : All (IsTupleOf axes count) tuples

-- what a tuple says
abbrev pub variation_of : Tuple → TupleVariation
variation_of tuple = record { region = tuple.support.items; points = tuple.points; deltas = tuple.deltas }
