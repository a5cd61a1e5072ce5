-- Boxes as the code cuts and joins them: areas of eight intervals, one an axis. The axes beyond the last one are whole.
use Rattle.std.specs.Prelude.{ℤ, pos, ◌+ℤ◌, ◌-ℤ◌, neg_ℤ, int_le, int_lt, Bool, true, ◌&&◌, List, [], ◌∷◌, Option, Some, None, replicate, if◌then◌else◌, slice_index_or, slice_set}
use Rattle.std.specs.Int.{int_min, int_max}
use Rattle.rule_boxes.specs.declared.condition.Condition.{Condition}
use Rattle.rule_boxes.specs.declared.area.Interval.{Interval}

-- from -1 to 1
abbrev pub whole_axis : Interval
whole_axis = record { low = neg_ℤ (pos 16384); high = pos 16384 }

abbrev pub whole : List Interval
whole = replicate 8 whole_axis

-- what stands for an interval past the end of an area
abbrev pub no_interval : Interval
no_interval = record { low = pos 0; high = pos 0 }

abbrev pub in_interval : Interval → ℤ → Bool
in_interval interval value = int_le interval.low value && int_le value interval.high

-- the area has the location, on the axes that both have
abbrev pub has : List Interval → List ℤ → Bool
has [] at = true
has (interval ∷ area) [] = true
has (interval ∷ area) (value ∷ at) = in_interval interval value && has area at

-- the values of both intervals; none where the low end is above the high one
abbrev pub shared : Interval → Interval → Interval
shared a b = record { low = int_max a.low b.low; high = int_min a.high b.high }

-- the areas have a location in common
abbrev pub do_meet : List Interval → List Interval → Bool
do_meet (a ∷ area) (b ∷ other) = int_le (shared a b).low (shared a b).high && do_meet area other
do_meet [] other = true
do_meet (a ∷ area) [] = true

-- what of an interval is below the set's, and what is above it
abbrev pub below : Interval → Interval → Option Interval
below set interval = if int_lt interval.low set.low then Some (record { low = interval.low; high = set.low -ℤ pos 1 }) else None

abbrev pub above : Interval → Interval → Option Interval
above set interval = if int_lt set.high interval.high then Some (record { low = set.high +ℤ pos 1; high = interval.high }) else None

-- where a condition holds on its axis
abbrev pub interval_of : Condition → Interval
interval_of condition = record { low = condition.low; high = condition.high }

-- the part of an area in which a condition holds, and in which all conditions of a set do
abbrev pub with_condition : List Interval → Condition → List Interval
with_condition area condition =
    slice_set area condition.axis (shared (interval_of condition) (slice_index_or area condition.axis no_interval))

abbrev pub with_conditions : List Interval → List Condition → List Interval
with_conditions area [] = area
with_conditions area (condition ∷ conditions) = with_conditions (with_condition area condition) conditions
