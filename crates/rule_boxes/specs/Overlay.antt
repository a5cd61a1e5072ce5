-- How rules are laid over the design space: zones, each an area with a flag for each rule, are cut where a set ends, and
-- the flag of its rule is set in those within.
use Rattle.std.specs.Prelude.{ℕ, ◌+◌, true, false, List, [], ◌∷◌, ◌++◌, Option, Some, None, replicate, take, if◌then◌else◌, slice_index_or, slice_set}
use Rattle.std.specs.List.{flat_map}
use Rattle.rule_boxes.specs.declared.condition.Condition.{Condition}
use Rattle.rule_boxes.specs.declared.area.Interval.{Interval}
use Rattle.rule_boxes.specs.declared.area.Zone.{Zone}
use Rattle.rule_boxes.specs.Areas.{whole, no_interval, shared, do_meet, below, above, with_conditions}

abbrev pub with_interval : Zone → ℕ → Interval → Zone
with_interval zone axis interval = record zone { area = slice_set zone.area axis interval }

abbrev pub interval_on : Zone → ℕ → Interval
interval_on zone axis = slice_index_or zone.area axis no_interval

-- the zone with another interval, where there is one
abbrev pub part_of : Zone → ℕ → Option Interval → List Zone
part_of zone axis None = []
part_of zone axis (Some interval) = with_interval zone axis interval ∷ []

-- the two parts of a zone that lie outside the set's interval on an axis, and the one within
abbrev pub cut_off : Interval → ℕ → Zone → List Zone
cut_off set axis zone = part_of zone axis (below set (interval_on zone axis)) ++ part_of zone axis (above set (interval_on zone axis))

abbrev pub narrowed : Interval → ℕ → Zone → Zone
narrowed set axis zone = with_interval zone axis (shared set (interval_on zone axis))

-- the same on all axes of the set, from this one on
abbrev pub outside_from : List Interval → ℕ → Zone → List Zone
outside_from [] axis zone = []
outside_from (set ∷ sets) axis zone = cut_off set axis zone ++ outside_from sets (axis + 1) (narrowed set axis zone)

abbrev pub inside_from : List Interval → ℕ → Zone → Zone
inside_from [] axis zone = zone
inside_from (set ∷ sets) axis zone = inside_from sets (axis + 1) (narrowed set axis zone)

abbrev pub with_rule : ℕ → Zone → Zone
with_rule rule zone = record zone { rules = slice_set zone.rules rule true }

-- a zone after a set of a rule, which cuts it only where the rule doesn't hold yet
abbrev pub laid : ℕ → List Interval → Zone → List Zone
laid rule set zone = if slice_index_or zone.rules rule false then zone ∷ []
    else (if do_meet set zone.area then outside_from set 0 zone ++ with_rule rule (inside_from set 0 zone) ∷ [] else zone ∷ [])

abbrev pub laid_all : ℕ → List Interval → List Zone → List Zone
laid_all rule set zones = flat_map (laid rule set) zones

-- the area of a set, on so many axes
abbrev pub area_of : ℕ → List Condition → List Interval
area_of axes set = take axes (with_conditions whole set)

-- zones after all sets of a rule, and after all rules from this number on
abbrev pub laid_sets : ℕ → ℕ → List (List Condition) → List Zone → List Zone
laid_sets axes rule [] zones = zones
laid_sets axes rule (set ∷ sets) zones = laid_sets axes rule sets (laid_all rule (area_of axes set) zones)

abbrev pub laid_rules : ℕ → ℕ → List (List (List Condition)) → List Zone → List Zone
laid_rules axes rule [] zones = zones
laid_rules axes rule (sets ∷ rules) zones = laid_rules axes (rule + 1) rules (laid_sets axes rule sets zones)

-- the whole design space, in which no rule holds yet
abbrev pub bare : Zone
bare = record { area = whole; rules = replicate 64 false }

unfoldable pub overlaid : ℕ → List (List (List Condition)) → List Zone
overlaid axes rules = laid_rules axes 0 rules (bare ∷ [])
