-- What bounds the size of every set that infers the deltas from below: for each start, the numbers of arcs that lead
-- from it to each place of the round.
use Rattle.std.specs.Prelude.{◌≡◌, ℕ, zero, suc, ◌+◌, ◌%◌, ◌<◌, ◌≤◌, ◌⊎◌, List, length, slice_index}
use Rattle.fixpoint.specs.declared.plane.Pair.{Pair}
use Rattle.iup.specs.Arcs.{Spans, Arc}

-- a way of so many steps
abbrev pub Path : (ℕ → ℕ → Type 0) → ℕ → ℕ → ℕ → Type 0
Path E a b zero = a ≡ b
Path E a b (suc k) = (c : ℕ) × E a c × Path E c b k

-- steps lead ahead by one round of n places at most, and are the same in each round
pub record IsCyclic (E : ℕ → ℕ → Type 0) (n : ℕ) : Type 0 where
  pub ahead : (a b : ℕ) → E a b → a < b
  pub within : (a b : ℕ) → E a b → b ≤ a + n
  pub up : (a b : ℕ) → E a b → E (a + n) (b + n)
  pub down : (a b : ℕ) → E (a + n) (b + n) → E a b

-- an arc leads from one place to another
pub record Reaches (points deltas : List Pair) (a b : ℕ) : Type 0 where
  pub ahead : a < b
  pub within : b ≤ a + length points
  pub spans : Spans points deltas a b

-- One number for each place of the round that begins at s: 0 at s, no arc raises it by more than 1, and it is at
-- least m at the end.
pub record IsRightRow (points deltas : List Pair) (m s : ℕ) (row : List ℕ) : Type 0 where
  pub size : length row ≡ length points + 1
  pub zero_first : slice_index row 0 ≡ 0
  pub steps : (a k : ℕ) → 0 < k → a + k ≤ length points → Arc points deltas ((s + a) % length points) k → slice_index row (a + k) ≤ slice_index row a + 1
  pub last : m ≤ slice_index row (length points)

-- the numbers are the least numbers of arcs from s to each place of the round
pub record IsLeastRow (points deltas : List Pair) (s : ℕ) (row : List ℕ) : Type 0 where
  pub size : length row ≡ length points + 1
  pub leads : (b : ℕ) → b ≤ length points → Path (Reaches points deltas) s (s + b) (slice_index row b)
  pub least : (b k : ℕ) → b ≤ length points → Path (Reaches points deltas) s (s + b) k → slice_index row b ≤ k

-- the arc of k points from s passes strictly over p, which is j points on
pub record PassesOver (points deltas : List Pair) (p s j k : ℕ) : Type 0 where
  pub after : 0 < j
  pub before : j < k
  pub within : k ≤ length points
  pub over : (s + j) % length points ≡ p
  pub arc : Arc points deltas s k

-- the starts of a pivot: itself, and each point from which some arc passes strictly over it
abbrev pub IsStartPoint : List Pair → List Pair → ℕ → ℕ → Type 0
IsStartPoint points deltas p s = (s ≡ p) ⊎ ((j : ℕ) × (k : ℕ) × PassesOver points deltas p s j k)

-- each start of the pivot has a right row
abbrev pub Bounds : List Pair → List Pair → ℕ → ℕ → Type 0
Bounds points deltas m p = (s : ℕ) → s < length points → IsStartPoint points deltas p s → (row : List ℕ) × IsRightRow points deltas m s row
