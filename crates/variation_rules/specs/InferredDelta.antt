-- The inferred delta of a point that a tuple doesn't name (OpenType, "Inferred deltas for un-referenced
-- point numbers"), as a whole number.
use Rattle.std.specs.Prelude.{◌≡◌, ◌≢◌, ℕ, ℤ, pos, ◌%◌, ◌<◌, ◌+ℤ◌, ◌-ℤ◌, ◌*ℤ◌, ◌<ℤ◌, ◌≤ℤ◌, List, length, Option, Some, None, IsSome, slice_index_or}
use Rattle.fixpoint.specs.declared.plane.Pair.{Pair}

-- the delta d lies on the straight line through the references' coordinates and deltas, by cross multiplication
abbrev pub OnLine : ℤ → ℤ → ℤ → ℤ → ℤ → ℤ → Type 0
OnLine c1 d1 c2 d2 c d = (d *ℤ (c2 -ℤ c1)) ≡ ((d1 *ℤ (c2 -ℤ c1)) +ℤ ((c -ℤ c1) *ℤ (d2 -ℤ d1)))

-- A point at coordinate c gets the delta d from two references at c1 and c2 with deltas d1 and d2.
pub record Between (c1 d1 c2 d2 c d : ℤ) : Type 0 where
  pub agree : c1 ≡ c2 → d1 ≡ d2 → d ≡ d1
  pub differ : c1 ≡ c2 → d1 ≢ d2 → d ≡ pos 0
  pub below_first : c1 <ℤ c2 → c ≤ℤ c1 → d ≡ d1
  pub above_second : c1 <ℤ c2 → c2 ≤ℤ c → d ≡ d2
  pub below_second : c2 <ℤ c1 → c ≤ℤ c2 → d ≡ d2
  pub above_first : c2 <ℤ c1 → c1 ≤ℤ c → d ≡ d1
  pub rising : c1 <ℤ c → c <ℤ c2 → OnLine c1 d1 c2 d2 c d
  pub falling : c2 <ℤ c → c <ℤ c1 → OnLine c1 d1 c2 d2 c d

-- no movement
abbrev pub still : Pair
still = record { x = pos 0; y = pos 0 }

-- the pair at a place of the cycle, counted on round it
abbrev pub around : List Pair → ℕ → Pair
around pairs i = slice_index_or pairs (i % length pairs) still

-- the deltas at the places u, q and v of the cycle: that at q is inferred from those at u and v, in x and in y
pub record Inferred (points deltas : List Pair) (u q v : ℕ) : Type 0 where
  pub x : Between (around points u).x (around deltas u).x (around points v).x (around deltas v).x (around points q).x (around deltas q).x
  pub y : Between (around points u).y (around deltas u).y (around points v).y (around deltas v).y (around points q).y (around deltas q).y

-- on the cycle of n places rolled out, u and v are the nearest that are given a delta before and after q
pub record AreNearest (n : ℕ) (given : ℕ → Option Pair) (u q v : ℕ) : Type 0 where
  pub before : u < q
  pub after : q < v
  pub first : IsSome (given (u % n))
  pub second : IsSome (given (v % n))
  pub none_between : (x : ℕ) → u < x → x < v → given (x % n) ≡ None

-- The deltas of a contour's points, where the tuple gives some: a point has the delta given, or the one inferred
-- from its nearest neighbours; in a contour without a given delta nothing moves.
pub record FillsContour (points : List Pair) (given : ℕ → Option Pair) (deltas : List Pair) : Type 0 where
  pub one_each : length deltas ≡ length points
  pub named : (i : ℕ) (delta : Pair) → i < length points → given i ≡ Some delta → around deltas i ≡ delta
  pub unmoved : ((i : ℕ) → i < length points → given i ≡ None) → (i : ℕ) → i < length points → around deltas i ≡ still
  pub inferred : (u q v : ℕ) → 0 < length points → AreNearest (length points) given u q v → Inferred points deltas u q v
