-- The grid of the design space: each axis is cut where a condition begins to hold or ceases to. Nothing changes within a
-- cell of the grid, so its size bounds how many boxes rules can need.
use Rattle.std.specs.Prelude.{ℕ, zero, suc, ◌+◌, ◌*◌, ℤ, pos, ◌+ℤ◌, neg_ℤ, int_le, Bool, ◌&&◌, ◌||◌, List, Option, Some, None, nat_lt, nat_eq, if◌then◌else◌}
use Rattle.std.specs.List.{flat_map, list_any}
use Rattle.std.specs.Ordering.{int_eq}
use Rattle.rule_boxes.specs.declared.condition.Condition.{Condition}

-- the conditions of all sets of all rules, in order
abbrev pub conditions_of : List (List (List Condition)) → List Condition
conditions_of rules = flat_map (λ sets. flat_map (λ set. set) sets) rules

-- The condition, which is on the axis and met by some value, begins to hold at this value, or ceases to.
abbrev pub turns_at : ℕ → ℤ → Condition → Bool
turns_at axis value condition = (nat_eq condition.axis axis && int_le condition.low condition.high)
    && (int_eq value condition.low || int_eq value (condition.high +ℤ pos 1))

-- the axis is cut at this value, between it and the one below
abbrev pub is_cut : List Condition → ℕ → ℤ → Bool
is_cut conditions axis value = list_any (turns_at axis value) conditions

-- how many of so many values after this one are cuts
unfoldable pub cuts_after : (ℤ → Bool) → ℤ → ℕ → ℕ
cuts_after test from zero = 0
cuts_after test from (suc count) = (if test (from +ℤ pos 1) then 1 else 0) + cuts_after test (from +ℤ pos 1) count

-- the least normalised coordinate, -1 in F2DOT14, and how many there are above it
abbrev pub least : ℤ
least = neg_ℤ (pos 16384)

abbrev pub steps : ℕ
steps = 32768

-- the intervals of an axis: one more than it has cuts above -16384 and at most 16384
unfoldable pub intervals_on : List Condition → ℕ → ℕ
intervals_on conditions axis = suc (cuts_after (is_cut conditions axis) least steps)

-- The first product of the intervals of this many axes from one on, in their order, that is above 32,768; those of
-- earlier axes have this product.
abbrev pub first_above : List Condition → ℕ → ℕ → ℕ → Option ℕ
first_above conditions product axis zero = None
first_above conditions product axis (suc axes) =
    if nat_lt 32768 (product * intervals_on conditions axis) then Some (product * intervals_on conditions axis)
    else first_above conditions (product * intervals_on conditions axis) (axis + 1) axes

-- the first product of the intervals of the axes, in their order, that is above 32,768
abbrev pub grid_above : ℕ → List (List (List Condition)) → Option ℕ
grid_above axes rules = first_above (conditions_of rules) 1 0 axes
