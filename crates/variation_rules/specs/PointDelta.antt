-- The delta of one point of a contour, told by the deltas that a tuple gives to points of it.
use Rattle.std.specs.Prelude.{◌≡◌, ℕ, ◌+◌, ◌*◌, ◌%◌, ◌<◌, ◌≤◌, List, length, Option, Some, None, slice_index_or}
use Rattle.fixpoint.specs.declared.plane.Pair.{Pair}
use Rattle.variation_rules.specs.InferredDelta.{Between, AreNearest, around, still}
use Rattle.variation_rules.specs.FontUnits.{AreFWords}
use Rattle.variation_rules.specs.declared.filling.Moved.{Moved}
use Rattle.variation_rules.specs.declared.filling.Neighbour.{Neighbour}

pub record AreMovedFWords (moved : Moved) : Type 0 where
  pub point : AreFWords moved.point
  pub delta : AreFWords moved.delta

-- a point here has the delta that is inferred from two points that move, in x and in y
pub record IsInferred (first second : Moved) (point delta : Pair) : Type 0 where
  pub x : Between first.point.x first.delta.x second.point.x second.delta.x point.x delta.x
  pub y : Between first.point.y first.delta.y second.point.y second.delta.y point.y delta.y

-- the delta that the list gives, None past its end
abbrev pub given_at : List (Option Pair) → ℕ → Option Pair
given_at given i = slice_index_or given i None

-- the point has the delta given, or the one inferred from its nearest neighbours, or none moves
pub record IsDeltaAt (points : List Pair) (given : ℕ → Option Pair) (i : ℕ) (delta : Pair) : Type 0 where
  pub named : (own : Pair) → given i ≡ Some own → delta ≡ own
  pub unmoved : ((k : ℕ) → k < length points → given k ≡ None) → delta ≡ still
  pub inferred : (u q v : ℕ) (first second : Pair) → q % length points ≡ i → AreNearest (length points) given u q v
      → given (u % length points) ≡ Some first → given (v % length points) ≡ Some second
      → IsInferred (record { point = around points u; delta = first }) (record { point = around points v; delta = second }) (around points i) delta

-- on the cycle rolled out, the last place before that of i, one round on, which is given a delta
pub record IsBefore (given : List (Option Pair)) (i : ℕ) (found : Neighbour) : Type 0 where
  pub near : i ≤ found.place
  pub before : found.place < i + length given
  pub is_given : given_at given (found.place % length given) ≡ Some found.delta
  pub none_between : (x : ℕ) → found.place < x → x < i + length given → given_at given (x % length given) ≡ None

-- and the first after it
pub record IsAfter (given : List (Option Pair)) (i : ℕ) (found : Neighbour) : Type 0 where
  pub after : i + length given < found.place
  pub near : found.place ≤ i + 2 * length given
  pub is_given : given_at given (found.place % length given) ≡ Some found.delta
  pub none_between : (x : ℕ) → i + length given < x → x < found.place → given_at given (x % length given) ≡ None
