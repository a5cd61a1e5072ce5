-- Laying sets over zones leaves the axes beyond those of the sets whole.
use Rattle.std.proofs.Common.{refl, ◌∙◌, inl, inr, ℕ, ◌+◌, ◌<◌, ◌≤◌, false, List, [], ◌∷◌, length, get_or, set, Option, Some, None, arith}
use Rattle.std.specs.List.{AllByRecursion}
use Rattle.std.proofs.lemmas.Bool.{cases_Bool}
use Rattle.std.proofs.lemmas.List.{drop-set-lt}
use Rattle.rule_boxes.specs.declared.area.Interval.{Interval}
use Rattle.rule_boxes.specs.declared.area.Zone.{Zone}
use Rattle.rule_boxes.specs.declared.condition.Condition.{Condition}
use Rattle.rule_boxes.specs.Areas.{shared, do_meet, below, above}
use Rattle.rule_boxes.specs.Overlay.{with_interval, interval_on, part_of, cut_off, narrowed, outside_from, inside_from, with_rule, laid, laid_all, area_of, laid_sets, laid_rules, bare, overlaid}
use Rattle.rule_boxes.specs.Merging.{IsWholeAfter}
use Rattle.rule_boxes.proofs.AreaLemmas.{length_area}
use Rattle.rule_boxes.proofs.FineLemmas.{each_append}

abbrev pub AreWhole : ℕ → List Zone → Type 0
AreWhole axes zones = AllByRecursion (IsWholeAfter axes) zones

whole_with : (axes : ℕ) (zone : Zone) (axis : ℕ) (interval : Interval) → axis < axes → IsWholeAfter axes zone → IsWholeAfter axes (with_interval zone axis interval)
whole_with axes zone axis interval here whole = drop-set-lt axes zone.area axis interval here ∙ whole

whole_part : (axes : ℕ) (zone : Zone) (axis : ℕ) (part : Option Interval) → axis < axes → IsWholeAfter axes zone → AreWhole axes (part_of zone axis part)
whole_part axes zone axis None here whole = tt
whole_part axes zone axis (Some interval) here whole = (whole_with axes zone axis interval here whole, tt)

whole_outside : (axes : ℕ) (sets : List Interval) (axis : ℕ) (zone : Zone) → axis + length sets ≤ axes → IsWholeAfter axes zone → AreWhole axes (outside_from sets axis zone)
whole_outside axes [] axis zone few whole = tt
whole_outside axes (s ∷ sets) axis zone few whole =
    let old = interval_on zone axis in
    let low = whole_part axes zone axis (below s old) (omega arith) whole in
    let high = whole_part axes zone axis (above s old) (omega arith) whole in
    each_append (IsWholeAfter axes) (cut_off s axis zone) (outside_from sets (axis + 1) (narrowed s axis zone))
    (each_append (IsWholeAfter axes) (part_of zone axis (below s old)) (part_of zone axis (above s old)) low high)
    (whole_outside axes sets (axis + 1) (narrowed s axis zone) (omega arith) (whole_with axes zone axis (shared s old) (omega arith) whole))

whole_inside : (axes : ℕ) (sets : List Interval) (axis : ℕ) (zone : Zone) → axis + length sets ≤ axes → IsWholeAfter axes zone → IsWholeAfter axes (inside_from sets axis zone)
whole_inside axes [] axis zone few whole = whole
whole_inside axes (s ∷ sets) axis zone few whole =
    whole_inside axes sets (axis + 1) (narrowed s axis zone) (omega arith) (whole_with axes zone axis (shared s (interval_on zone axis)) (omega arith) whole)

whole_laid : (axes rule : ℕ) (sets : List Interval) (zone : Zone) → length sets ≤ axes → IsWholeAfter axes zone → AreWhole axes (laid rule sets zone)
whole_laid axes rule sets zone few whole = elim (cases_Bool (get_or zone.rules rule false)) [
  | inl is_set ↦ rw is_set (whole, tt)
  | inr unset ↦ elim (cases_Bool (do_meet sets zone.area)) [
    | inl meet ↦ rw (unset, meet) (each_append (IsWholeAfter axes) (outside_from sets 0 zone) (with_rule rule (inside_from sets 0 zone) ∷ []) (whole_outside axes sets 0 zone (omega arith) whole) (whole_inside axes sets 0 zone (omega arith) whole, tt))
    | inr apart ↦ rw (unset, apart) (whole, tt)
  ]
]

whole_all : (axes rule : ℕ) (sets : List Interval) (zones : List Zone) → length sets ≤ axes → AreWhole axes zones → AreWhole axes (laid_all rule sets zones)
whole_all axes rule sets [] few whole = tt
whole_all axes rule sets (zone ∷ zones) few whole =
    each_append (IsWholeAfter axes) (laid rule sets zone) (laid_all rule sets zones) (whole_laid axes rule sets zone few whole.0) (whole_all axes rule sets zones few whole.1)

whole_sets : (axes rule : ℕ) (sets : List (List Condition)) (zones : List Zone) → axes ≤ 8 → AreWhole axes zones → AreWhole axes (laid_sets axes rule sets zones)
whole_sets axes rule [] zones few whole = whole
whole_sets axes rule (set ∷ sets) zones few whole =
    whole_sets axes rule sets (laid_all rule (area_of axes set) zones) few (whole_all axes rule (area_of axes set) zones (omega (arith, length_area axes set few)) whole)

whole_rules : (axes rule : ℕ) (rules : List (List (List Condition))) (zones : List Zone) → axes ≤ 8 → AreWhole axes zones → AreWhole axes (laid_rules axes rule rules zones)
whole_rules axes rule [] zones few whole = whole
whole_rules axes rule (sets ∷ rules) zones few whole = whole_rules axes (rule + 1) rules (laid_sets axes rule sets zones) few (whole_sets axes rule sets zones few whole)

pub whole_overlaid : (axes : ℕ) (rules : List (List (List Condition))) → axes ≤ 8 → AreWhole axes (overlaid axes rules)
unfolding overlaid
whole_overlaid axes rules few = whole_rules axes 0 rules (bare ∷ []) few (refl, tt)
