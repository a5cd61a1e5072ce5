-- The conditions of a rule (Designspace, "condition"), or the first fault.
use Rattle.std.specs.Prelude.{ℕ, ℤ, pos, neg_ℤ, int_lt, Bool, false, ◌||◌, List, codes, Option, Some, None, Result, Ok, if◌then◌else◌}
use Rattle.markup_rules.specs.Tree.{Tree}
use Rattle.basics.specs.Reading.{◌>>=◌, each}
use Rattle.basics.specs.declared.fault.Spot.{Spot}
use Rattle.attributes.specs.Attributes.{needed, optional_decimal}
use Rattle.norm_loc.specs.AxisMaps.{design_of}
use Rattle.norm_loc.specs.Normalising.{Limits, normalised}
use Rattle.design_axes.specs.Elements.{named}
use Rattle.design_axes.specs.declared.axis.Axis.{Axis}
use Rattle.rule_boxes.specs.declared.condition.Condition.{Condition}
use Rattle.designspace.specs.Dimensions.{axis_from, unknown_axis}
use Rattle.designspace.specs.declared.condition.Bounds.{Bounds}

-- the least value of a bound that is there exceeds v
abbrev pub exceeds : Option ℤ → ℤ → Bool
exceeds None v = false
exceeds (Some n) v = int_lt v n

-- the greatest value of a bound that is there lies below v
abbrev pub lies_below : Option ℤ → ℤ → Bool
lies_below None v = false
lies_below (Some n) v = int_lt n v

abbrev pub are_crossed : Option ℤ → Option ℤ → Bool
are_crossed None greatest = false
are_crossed (Some least) greatest = lies_below greatest least

-- no design value is between the bounds; this is decided before they are normalised, which brings them into the span
unfoldable pub is_empty : Limits → Bounds → Bool
is_empty design bounds =
    exceeds bounds.minimum design.max || (lies_below bounds.maximum design.min || are_crossed bounds.minimum bounds.maximum)

-- the normalised bound, or else the end of the axis
abbrev pub bound_or : Limits → ℤ → Option ℤ → ℤ
bound_or design end None = end
bound_or design end (Some v) = normalised design v

-- a condition that never holds has its bounds the wrong way round
unfoldable pub condition_on : ℕ → Limits → Bounds → Condition
condition_on axis design bounds =
    if is_empty design bounds then record { axis = axis; low = pos 16384; high = neg_ℤ (pos 16384) }
    else record { axis = axis; low = bound_or design (neg_ℤ (pos 16384)) bounds.minimum; high = bound_or design (pos 16384) bounds.maximum }

unfoldable pub bounds_of : Tree → Result Bounds Spot
bounds_of tree = do
  minimum ← optional_decimal (codes "minimum") tree
  maximum ← optional_decimal (codes "maximum") tree
  Ok (record { minimum = minimum; maximum = maximum })

abbrev pub condition_by : Tree → List ℕ → Option (ℕ × Axis) → Result Condition Spot
condition_by tree name None = unknown_axis name tree
condition_by tree name (Some found) = bounds_of tree >>= λ bounds. Ok (condition_on found.0 (design_of found.1.map) bounds)

unfoldable pub condition_of : List Axis → Tree → Result Condition Spot
condition_of axes tree = needed (codes "name") tree >>= λ name. condition_by tree name (axis_from 0 name axes)

-- the conditions of a set
unfoldable pub set_of : List Axis → Tree → Result (List Condition) Spot
set_of axes tree = each (condition_of axes) (named (codes "condition") tree)
