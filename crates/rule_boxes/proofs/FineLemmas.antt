-- Laying sets over zones leaves each zone with values on every axis, none beyond -1 and 1.
use Rattle.std.proofs.Common.{refl, ◌∙◌, inl, inr, ℕ, zero, suc, ◌+◌, ◌≤◌, true, false, List, [], ◌∷◌, ◌++◌, length, get_or, set, replicate, Option, Some, None, arith}
use Rattle.std.specs.Prelude.{int_lt, IfSome}
use Rattle.std.specs.List.{AllByRecursion}
use Rattle.std.proofs.lemmas.Int.{ints}
use Rattle.std.proofs.lemmas.Bool.{cases_Bool}
use Rattle.std.proofs.lemmas.List.{length-set}
use Rattle.rule_boxes.specs.declared.area.Interval.{Interval}
use Rattle.rule_boxes.specs.declared.area.Zone.{Zone}
use Rattle.rule_boxes.specs.declared.condition.Condition.{Condition}
use Rattle.rule_boxes.specs.Areas.{whole_axis, shared, do_meet, below, above}
use Rattle.rule_boxes.specs.Overlay.{with_interval, interval_on, part_of, cut_off, narrowed, outside_from, inside_from, with_rule, laid, laid_all, area_of, laid_sets, laid_rules, bare, overlaid}
use Rattle.rule_boxes.specs.Merging.{IsFine, IsFineZone, AreFine}
use Rattle.rule_boxes.proofs.IntervalLemmas.{Share, fine_shared}
use Rattle.rule_boxes.proofs.AreaLemmas.{fine_set, fine_get, length_area}
use Rattle.rule_boxes.proofs.LayingLaws.{Over, over_here, over_share, over_next}

pub each_append : {X : Type 0} (P : X → Type 0) (xs ys : List X) → AllByRecursion P xs → AllByRecursion P ys → AllByRecursion P (xs ++ ys)
each_append P [] ys first second = second
each_append P (x ∷ xs) ys first second = (first.0, each_append P xs ys first.1 second)

fine_below : (s b : Interval) → Share s b → IsFine b → IfSome (below s b) IsFine
fine_below s b share fine =
    let record { low = l; some = m; high = h } = fine in
    let some = share.some in
    elim (cases_Bool (int_lt b.low s.low)) [
      | inl is ↦ rw is (record { low = l; some = grind (arith, ints); high = grind (arith, ints) })
      | inr isnt ↦ rw isnt tt
    ]

fine_above : (s b : Interval) → Share s b → IsFine b → IfSome (above s b) IsFine
fine_above s b share fine =
    let record { low = l; some = m; high = h } = fine in
    let some = share.some in
    elim (cases_Bool (int_lt s.high b.high)) [
      | inl is ↦ rw is (record { low = grind (arith, ints); some = grind (arith, ints); high = h })
      | inr isnt ↦ rw isnt tt
    ]

-- a fine zone with another fine interval
pub fine_with : (zone : Zone) (axis : ℕ) (interval : Interval) → IsFineZone zone → IsFine interval → IsFineZone (with_interval zone axis interval)
fine_with zone axis interval zone_fine fine = record {
  axes = length-set zone.area axis interval ∙ zone_fine.axes;
  flags = zone_fine.flags;
  each = fine_set axis zone.area interval zone_fine.each fine;
}

fine_part : (zone : Zone) (axis : ℕ) (part : Option Interval) → IsFineZone zone → IfSome part IsFine → AreFine (part_of zone axis part)
fine_part zone axis None zone_fine fine = tt
fine_part zone axis (Some interval) zone_fine fine = (fine_with zone axis interval zone_fine fine, tt)

pub fine_next : (s : Interval) (sets : List Interval) (axis : ℕ) (zone : Zone) → Over (s ∷ sets) axis zone → IsFineZone zone → IsFineZone (narrowed s axis zone)
fine_next s sets axis zone over fine =
    fine_with zone axis (shared s (interval_on zone axis)) fine (fine_shared s (interval_on zone axis) (over_share s sets axis zone over) (fine_get axis zone.area (over_here s sets axis zone over) fine.each))

fine_outside : (sets : List Interval) (axis : ℕ) (zone : Zone) → Over sets axis zone → IsFineZone zone → AreFine (outside_from sets axis zone)
fine_outside [] axis zone over fine = tt
fine_outside (s ∷ sets) axis zone over fine =
    let old = interval_on zone axis in
    let old_fine : IsFine old = fine_get axis zone.area (over_here s sets axis zone over) fine.each in
    let share = over_share s sets axis zone over in
    each_append IsFineZone (cut_off s axis zone) (outside_from sets (axis + 1) (narrowed s axis zone))
    (each_append IsFineZone (part_of zone axis (below s old)) (part_of zone axis (above s old)) (fine_part zone axis (below s old) fine (fine_below s old share old_fine)) (fine_part zone axis (above s old) fine (fine_above s old share old_fine)))
    (fine_outside sets (axis + 1) (narrowed s axis zone) (over_next s sets axis zone over) (fine_next s sets axis zone over fine))

fine_inside : (sets : List Interval) (axis : ℕ) (zone : Zone) → Over sets axis zone → IsFineZone zone → IsFineZone (inside_from sets axis zone)
fine_inside [] axis zone over fine = fine
fine_inside (s ∷ sets) axis zone over fine = fine_inside sets (axis + 1) (narrowed s axis zone) (over_next s sets axis zone over) (fine_next s sets axis zone over fine)

fine_rule : (rule : ℕ) (zone : Zone) → IsFineZone zone → IsFineZone (with_rule rule zone)
fine_rule rule zone fine = record { axes = fine.axes; flags = length-set zone.rules rule true ∙ fine.flags; each = fine.each }

fine_laid : (rule : ℕ) (sets : List Interval) (zone : Zone) → length sets ≤ 8 → IsFineZone zone → AreFine (laid rule sets zone)
fine_laid rule sets zone few fine = elim (cases_Bool (get_or zone.rules rule false)) [
  | inl is_set ↦ rw is_set (fine, tt)
  | inr unset ↦ elim (cases_Bool (do_meet sets zone.area)) [
    | inl meet ↦
        let axes = fine.axes in
        let over : Over sets 0 zone = record { axes = omega arith; meet = meet } in
        rw (unset, meet) (each_append IsFineZone (outside_from sets 0 zone) (with_rule rule (inside_from sets 0 zone) ∷ []) (fine_outside sets 0 zone over fine) (fine_rule rule (inside_from sets 0 zone) (fine_inside sets 0 zone over fine), tt))
    | inr apart ↦ rw (unset, apart) (fine, tt)
  ]
]

pub fine_all : (rule : ℕ) (sets : List Interval) (zones : List Zone) → length sets ≤ 8 → AreFine zones → AreFine (laid_all rule sets zones)
fine_all rule sets [] few fine = tt
fine_all rule sets (zone ∷ zones) few fine = each_append IsFineZone (laid rule sets zone) (laid_all rule sets zones) (fine_laid rule sets zone few fine.0) (fine_all rule sets zones few fine.1)

pub fine_sets : (axes rule : ℕ) (sets : List (List Condition)) (zones : List Zone) → axes ≤ 8 → AreFine zones → AreFine (laid_sets axes rule sets zones)
fine_sets axes rule [] zones few fine = fine
fine_sets axes rule (set ∷ sets) zones few fine =
    fine_sets axes rule sets (laid_all rule (area_of axes set) zones) few (fine_all rule (area_of axes set) zones (omega (arith, length_area axes set few)) fine)

fine_rules : (axes rule : ℕ) (rules : List (List (List Condition))) (zones : List Zone) → axes ≤ 8 → AreFine zones → AreFine (laid_rules axes rule rules zones)
fine_rules axes rule [] zones few fine = fine
fine_rules axes rule (sets ∷ rules) zones few fine = fine_rules axes (rule + 1) rules (laid_sets axes rule sets zones) few (fine_sets axes rule sets zones few fine)

fine_wholes : (n : ℕ) → AllByRecursion IsFine (replicate n whole_axis)
fine_wholes zero = tt
fine_wholes (suc n) = (record { low = omega (arith, ints); some = omega (arith, ints); high = omega (arith, ints) }, fine_wholes n)

pub fine_bare : IsFineZone bare
fine_bare = record { axes = refl; flags = refl; each = fine_wholes 8 }

pub fine_overlaid : (axes : ℕ) (rules : List (List (List Condition))) → axes ≤ 8 → AreFine (overlaid axes rules)
unfolding overlaid
fine_overlaid axes rules few = fine_rules axes 0 rules (bare ∷ []) few (fine_bare, tt)
