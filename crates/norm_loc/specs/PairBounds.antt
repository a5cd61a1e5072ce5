-- What holds of the pairs of every axis: they lead from -1 to 1, and stay between.
use Rattle.std.specs.Prelude.{◌≡◌, ◌≤◌, ℤ, pos, neg_ℤ, ◌≤ℤ◌, List, [], ◌∷◌, length, All}
use Rattle.norm_loc.specs.declared.follow.Direction.TheVariants.{Forward}
use Rattle.norm_loc.specs.Following.{KeysRise}

-- a normalised coordinate, from -1 to 1
pub record IsCoordinate (z : ℤ) : Type 0 where
  pub low : neg_ℤ (pos 16384) ≤ℤ z
  pub high : z ≤ℤ pos 16384

pub record IsPair (p : ℤ × ℤ) : Type 0 where
  pub key : IsCoordinate p.0
  pub value : IsCoordinate p.1

-- the first number of the last pair, from this one on
abbrev pub last_key : ℤ × ℤ → List (ℤ × ℤ) → ℤ
last_key p [] = p.0
last_key p (q ∷ pairs) = last_key q pairs

-- the first pair is that of -1, and the last one that of 1
abbrev pub CoverAxis : List (ℤ × ℤ) → Type 0
CoverAxis [] = ⊥
CoverAxis (p ∷ pairs) = (p.0 ≡ neg_ℤ (pos 16384)) × (last_key p pairs ≡ pos 16384)

-- Pairs of coordinates that rise strictly by their first numbers, from -1 to 1: there are at most as many as
-- coordinates.
pub record AreSegments (pairs : List (ℤ × ℤ)) : Type 0 where
  pub each : All IsPair pairs
  pub rise : KeysRise Forward pairs
  pub cover : CoverAxis pairs
  pub few : length pairs ≤ 32769
