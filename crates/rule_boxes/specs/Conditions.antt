-- When a rule holds (Designspace, "rules"). A location is the list of its normalised coordinates, one an axis.
use Rattle.std.specs.Prelude.{ℤ, int_le, Bool, ◌&&◌, List}
use Rattle.std.specs.List.{list_all, list_any}
use Rattle.region_support.specs.MasterOrder.{value_on}
use Rattle.rule_boxes.specs.declared.condition.Condition.{Condition}

-- the coordinate on the axis is between the two, both ends included
abbrev pub meets : Condition → List ℤ → Bool
meets condition at = int_le condition.low (value_on condition.axis at) && int_le (value_on condition.axis at) condition.high

-- all conditions of the set hold
abbrev pub set_holds : List Condition → List ℤ → Bool
set_holds set at = list_all (λ condition. meets condition at) set

-- one set of the rule holds
abbrev pub rule_holds : List (List Condition) → List ℤ → Bool
rule_holds rule at = list_any (λ set. set_holds set at) rule
