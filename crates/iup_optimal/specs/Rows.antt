-- The least numbers of steps from a start to the places after it, and from the places before an end to it.
use Rattle.std.specs.Prelude.{◌≡◌, ℕ, ◌+◌, ◌-◌, ◌<◌, ◌≤◌, ◌↔◌, All, Any, List, length, map, slice_index}
use Rattle.fixpoint.specs.declared.plane.Pair.{Pair}
use Rattle.iup.specs.Arcs.{RisesFrom}
use Rattle.iup.specs.Bounds.{Path, IsLeastRow, IsStartPoint}
use Rattle.iup_optimal.specs.declared.row.Row.{Row}

-- a number of steps is the least of all that lead from one place to another
pub record IsLeastWay (E : ℕ → ℕ → Type 0) (from to k : ℕ) : Type 0 where
  pub leads : Path E from to k
  pub least : (other : ℕ) → Path E from to other → k ≤ other

-- numbers of steps that lead from s to each place of the round, and no step from a place before b leads on by fewer
pub record IsRowVia (E : ℕ → ℕ → Type 0) (s n b : ℕ) (row : List ℕ) : Type 0 where
  pub size : length row ≡ n + 1
  pub zero_first : slice_index row 0 ≡ 0
  pub leads : (a : ℕ) → a ≤ n → Path E s (s + a) (slice_index row a)
  pub small : (a : ℕ) → a ≤ n → slice_index row a ≤ a
  pub steps : (a c : ℕ) → a < b → a < c → c ≤ n → E (s + a) (s + c) → slice_index row c ≤ slice_index row a + 1

-- the numbers so far are the least to the end from it and each place before it, the nearest first
pub record IsRowBack (E : ℕ → ℕ → Type 0) (end : ℕ) (row : List ℕ) : Type 0 where
  pub each : (b : ℕ) → b < length row → IsLeastWay E (end - b) end (slice_index row b)
  pub small : (b : ℕ) → b < length row → slice_index row b ≤ b

-- the starts of rows
abbrev pub starts_of : List Row → List ℕ
starts_of rows = map (λ row. row.start) rows

-- One row for each start of the pivot among the points so far, in rising order, each of the least numbers of arcs.
pub record AreRowsTo (points deltas : List Pair) (p s : ℕ) (rows : List Row) : Type 0 where
  pub rising : RisesFrom 0 s (starts_of rows)
  pub starts : (x : ℕ) → x < s → (Any (λ row. row.start ≡ x) rows ↔ IsStartPoint points deltas p x)
  pub least : All (λ row. IsLeastRow points deltas row.start row.bounds) rows
