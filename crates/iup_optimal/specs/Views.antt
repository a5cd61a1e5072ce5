-- What is seen from the first point of an arc, in x and in y.
use Rattle.std.specs.Prelude.{◌≡◌, ℕ, ◌<◌, ◌↔◌, ◌⊎◌, List}
use Rattle.fixpoint.specs.declared.plane.Pair.{Pair}
use Rattle.variation_rules.specs.declared.inferred.Reference.{Reference}
use Rattle.variation_rules.specs.FontUnits.{IsReference}
use Rattle.iup_optimal.specs.declared.view.View.{View}
use Rattle.iup_optimal.specs.Sides.{IsSight, Admits, BetweenThem, x_of, y_of}

pub record IsView (view : View) : Type 0 where
  pub across : IsSight view.across
  pub upward : IsSight view.upward

-- What the view from a place admits, where the points up to another are seen.
pub record SeenTo (points deltas : List Pair) (from to : ℕ) (view : View) : Type 0 where
  pub is_view : IsView view
  pub first_x : view.across.first ≡ x_of points deltas from
  pub first_y : view.upward.first ≡ y_of points deltas from
  pub admits_x : (end : Reference) → IsReference end → (Admits view.across end ↔ ((q : ℕ) → from < q → q < to → BetweenThem (x_of points deltas from) end (x_of points deltas q)))
  pub admits_y : (end : Reference) → IsReference end → (Admits view.upward end ↔ ((q : ℕ) → from < q → q < to → BetweenThem (y_of points deltas from) end (y_of points deltas q)))

-- no end of an arc is left open, in x or in y
abbrev pub AllowsNone : View → Type 0
AllowsNone view = ((end : Reference) → Admits view.across end → ⊥) ⊎ ((end : Reference) → Admits view.upward end → ⊥)
