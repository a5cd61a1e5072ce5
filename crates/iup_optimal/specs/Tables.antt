-- A table of the arcs of a contour: for each point, whether the arc of one point, of two and so on holds.
use Rattle.std.specs.Prelude.{ℕ, ◌+◌, ◌/◌, ◌%◌, ◌<◌, ◌≤◌, ◌↔◌, List, Option, length}
use Rattle.std.specs.Option.{MatchOption}
use Rattle.fixpoint.specs.declared.plane.Pair.{Pair}
use Rattle.iup.specs.Arcs.{Arc}
use Rattle.iup.specs.Bounds.{Reaches}
use Rattle.iup_optimal.specs.BitSets.{Has}

-- the entries so far tell the arcs, those of the first point first, and the others are empty
pub record TellsArcs (points deltas : List Pair) (so_far : ℕ) (arcs : List ℕ) : Type 0 where
  pub tells : (m : ℕ) → m < so_far → Has arcs m ↔ Arc points deltas (m / length points) (m % length points + 1)
  pub none : (m : ℕ) → so_far ≤ m → Has arcs m → ⊥

-- a place is the nearest from one on to which an arc leads
pub record IsNearestEnd (points deltas : List Pair) (from low to : ℕ) : Type 0 where
  pub not_before : low ≤ to
  pub reach : Reaches points deltas from to
  pub nearest : (z : ℕ) → low ≤ z → z < to → Reaches points deltas from z → ⊥

-- the nearest such place, if there is one
abbrev pub IsNextEnd : List Pair → List Pair → ℕ → ℕ → Option ℕ → Type 0
IsNextEnd points deltas from low end = MatchOption end ((z : ℕ) → low ≤ z → Reaches points deltas from z → ⊥) (IsNearestEnd points deltas from low)
