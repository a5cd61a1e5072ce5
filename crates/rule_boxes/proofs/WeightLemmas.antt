-- How many cells of the grid a zone has, and that laying sets over zones parts them among the parts.
use Rattle.std.proofs.Common.{◌≡◌, refl, sym, ◌∙◌, ap, inl, inr, ℕ, zero, suc, ◌+◌, ◌*◌, ◌<◌, ◌≤◌, ℤ, ◌≤ℤ◌, Bool, false, List, [], ◌∷◌, ◌++◌, length, get_or, set, Option, Some, None, arith, add_assoc, zero-add, add-zero}
use Rattle.std.specs.List.{AllByRecursion}
use Rattle.std.proofs.Math.Nat.{add-mul, mul_left_comm, one-le-mul, zero-mul}
use Rattle.std.proofs.lemmas.Int.{ints}
use Rattle.std.proofs.lemmas.Bool.{cases_Bool}
use Rattle.rule_boxes.specs.declared.area.Interval.{Interval}
use Rattle.rule_boxes.specs.declared.area.Zone.{Zone}
use Rattle.rule_boxes.specs.declared.condition.Condition.{Condition}
use Rattle.rule_boxes.specs.Areas.{no_interval, shared, do_meet, below, above}
use Rattle.rule_boxes.specs.Overlay.{interval_on, part_of, cut_off, narrowed, outside_from, inside_from, with_rule, laid, laid_all, area_of, laid_sets, laid_rules}
use Rattle.rule_boxes.specs.Merging.{IsFineZone, AreFine}
use Rattle.rule_boxes.proofs.IntervalLemmas.{Share}
use Rattle.rule_boxes.proofs.AreaLemmas.{fine_get, length_area}
use Rattle.rule_boxes.proofs.LayingLaws.{Over, over_here, over_share, over_next}
use Rattle.rule_boxes.proofs.FineLemmas.{fine_next, fine_all, fine_sets}
use Rattle.rule_boxes.proofs.CutLemmas.{share, share_part, share_some, shares, IsAligned}

-- the cells of an area, its first axis counted as this number
abbrev pub weight_from : (ℕ → ℤ → Bool) → ℕ → List Interval → ℕ
weight_from test axis [] = 1
weight_from test axis (interval ∷ area) = share (test axis) interval * weight_from test (axis + 1) area

-- the same but for one axis
abbrev weight_others : (ℕ → ℤ → Bool) → ℕ → ℕ → List Interval → ℕ
weight_others test from axis [] = 1
weight_others test from zero (interval ∷ area) = weight_from test (from + 1) area
weight_others test from (suc axis) (interval ∷ area) = share (test from) interval * weight_others test (from + 1) axis area

-- the cells of all zones
abbrev pub weights : (ℕ → ℤ → Bool) → List Zone → ℕ
weights test [] = 0
weights test (zone ∷ zones) = weight_from test 0 zone.area + weights test zones

weight_set : (test : ℕ → ℤ → Bool) (from axis number : ℕ) (area : List Interval) (interval : Interval) → axis < length area → number ≡ from + axis
    → weight_from test from (set area axis interval) ≡ share (test number) interval * weight_others test from axis area
weight_set test from axis number [] interval here is = absurd (omega arith)
weight_set test from zero number (i ∷ area) interval here is =
    let same : from ≡ number = omega arith in
    ap (λ (n : ℕ). share (test n) interval * weight_from test (from + 1) area) same
weight_set test from (suc axis) number (i ∷ area) interval here is =
    ap (λ (w : ℕ). share (test from) i * w) (weight_set test (from + 1) axis number area interval (omega arith) (omega arith))
    ∙ mul_left_comm (share (test from) i) (share (test number) interval) (weight_others test (from + 1) axis area)

weight_get : (test : ℕ → ℤ → Bool) (from axis number : ℕ) (area : List Interval) → axis < length area → number ≡ from + axis
    → weight_from test from area ≡ share (test number) (get_or area axis no_interval) * weight_others test from axis area
weight_get test from axis number [] here is = absurd (omega arith)
weight_get test from zero number (i ∷ area) here is =
    let same : from ≡ number = omega arith in
    ap (λ (n : ℕ). share (test n) i * weight_from test (from + 1) area) same
weight_get test from (suc axis) number (i ∷ area) here is =
    ap (λ (w : ℕ). share (test from) i * w) (weight_get test (from + 1) axis number area (omega arith) (omega arith))
    ∙ mul_left_comm (share (test from) i) (share (test number) (get_or area axis no_interval)) (weight_others test (from + 1) axis area)

pub weights-append : (test : ℕ → ℤ → Bool) (xs ys : List Zone) → weights test (xs ++ ys) ≡ weights test xs + weights test ys
weights-append test [] ys = sym (zero-add (weights test ys))
weights-append test (x ∷ xs) ys =
    ap (λ (n : ℕ). weight_from test 0 x.area + n) (weights-append test xs ys) ∙ sym (add_assoc (weight_from test 0 x.area) (weights test xs) (weights test ys))

part_weight : (test : ℕ → ℤ → Bool) (zone : Zone) (axis : ℕ) (part : Option Interval) → axis < length zone.area
    → weights test (part_of zone axis part) ≡ share_part (test axis) part * weight_others test 0 axis zone.area
part_weight test zone axis None here = sym (zero-mul (weight_others test 0 axis zone.area))
part_weight test zone axis (Some interval) here = add-zero (weight_from test 0 (set zone.area axis interval)) ∙ weight_set test 0 axis axis zone.area interval here (omega arith)

-- an interval with values has its ends at cuts
abbrev pub AlignedIf : (ℤ → Bool) → Interval → Type 0
AlignedIf test interval = interval.low ≤ℤ interval.high → IsAligned test interval

abbrev pub AlignedFrom : (ℕ → ℤ → Bool) → ℕ → List Interval → Type 0
AlignedFrom test axis [] = Unit {0}
AlignedFrom test axis (interval ∷ area) = AlignedIf (test axis) interval × AlignedFrom test (axis + 1) area

share_has : (s b : Interval) → Share s b → s.low ≤ℤ s.high
share_has s b shared_some = let some = shared_some.some in grind (arith, ints)

sum_of : (low high within whole rest w1 w2 w3 w4 : ℕ) → low + (high + within) ≡ whole → w1 ≡ low * rest → w2 ≡ high * rest → w3 ≡ within * rest → w4 ≡ whole * rest → (w1 + w2) + w3 ≡ w4
sum_of low high within whole rest w1 w2 w3 w4 parts a b c d =
    let spread : whole * rest ≡ low * rest + (high * rest + within * rest) = ap (λ (n : ℕ). n * rest) (sym parts) ∙ (add-mul low (high + within) rest ∙ ap (λ (n : ℕ). low * rest + n) (add-mul high within rest)) in
    omega (arith, spread)

outside_weight : (test : ℕ → ℤ → Bool) (sets : List Interval) (axis : ℕ) (zone : Zone) → Over sets axis zone → IsFineZone zone → AlignedFrom test axis sets
    → weights test (outside_from sets axis zone) + weight_from test 0 (inside_from sets axis zone).area ≡ weight_from test 0 zone.area
outside_weight test [] axis zone over fine aligned = zero-add (weight_from test 0 zone.area)
outside_weight test (s ∷ sets) axis zone over fine aligned =
    let here = over_here s sets axis zone over in
    let old = interval_on zone axis in
    let inside = narrowed s axis zone in
    let share_them = over_share s sets axis zone over in
    let rest = outside_weight test sets (axis + 1) inside (over_next s sets axis zone over) (fine_next s sets axis zone over fine) aligned.1 in
    let others = weight_others test 0 axis zone.area in
    let low = part_weight test zone axis (below s old) here in
    let high = part_weight test zone axis (above s old) here in
    let within : weight_from test 0 inside.area ≡ share (test axis) (shared s old) * others = weight_set test 0 axis axis zone.area (shared s old) here (omega arith) in
    let whole : weight_from test 0 zone.area ≡ share (test axis) old * others = weight_get test 0 axis axis zone.area here (omega arith) in
    let parts = shares (test axis) s old (aligned.0 (share_has s old share_them)) (fine_get axis zone.area here fine.each) share_them in
    let sum = sum_of (share_part (test axis) (below s old)) (share_part (test axis) (above s old)) (share (test axis) (shared s old)) (share (test axis) old) others
    (weights test (part_of zone axis (below s old))) (weights test (part_of zone axis (above s old))) (weight_from test 0 inside.area) (weight_from test 0 zone.area) parts low high within whole in
    let first = weights-append test (part_of zone axis (below s old)) (part_of zone axis (above s old)) in
    let all = weights-append test (cut_off s axis zone) (outside_from sets (axis + 1) inside) in
    omega (arith, rest, sum, first, all)

laid_weight : (test : ℕ → ℤ → Bool) (rule : ℕ) (sets : List Interval) (zone : Zone) → length sets ≤ 8 → IsFineZone zone → AlignedFrom test 0 sets → weights test (laid rule sets zone) ≡ weight_from test 0 zone.area
laid_weight test rule sets zone few fine aligned = elim (cases_Bool (get_or zone.rules rule false)) [
  | inl is_set ↦ rw is_set (add-zero (weight_from test 0 zone.area))
  | inr unset ↦ elim (cases_Bool (do_meet sets zone.area)) [
    | inl meet ↦
        let axes = fine.axes in
        let over : Over sets 0 zone = record { axes = omega arith; meet = meet } in
        let inside = inside_from sets 0 zone in
        let outside = outside_weight test sets 0 zone over fine aligned in
        let all = weights-append test (outside_from sets 0 zone) (with_rule rule inside ∷ []) in
        rw (unset, meet) (all ∙ (ap (λ (n : ℕ). weights test (outside_from sets 0 zone) + n) (add-zero (weight_from test 0 inside.area)) ∙ outside))
    | inr apart ↦ rw (unset, apart) (add-zero (weight_from test 0 zone.area))
  ]
]

laid_all_weight : (test : ℕ → ℤ → Bool) (rule : ℕ) (sets : List Interval) (zones : List Zone) → length sets ≤ 8 → AreFine zones → AlignedFrom test 0 sets → weights test (laid_all rule sets zones) ≡ weights test zones
laid_all_weight test rule sets [] few fine aligned = refl
laid_all_weight test rule sets (zone ∷ zones) few fine aligned =
    weights-append test (laid rule sets zone) (laid_all rule sets zones) ∙ (λ k. laid_weight test rule sets zone few fine.0 aligned k + laid_all_weight test rule sets zones few fine.1 aligned k)

-- whatever the set, its area has its ends at cuts
abbrev pub SetAligned : (ℕ → ℤ → Bool) → ℕ → List Condition → Type 0
SetAligned test axes set = AlignedFrom test 0 (area_of axes set)

laid_sets_weight : (test : ℕ → ℤ → Bool) (axes rule : ℕ) (sets : List (List Condition)) (zones : List Zone) → axes ≤ 8 → AreFine zones → AllByRecursion (SetAligned test axes) sets
    → weights test (laid_sets axes rule sets zones) ≡ weights test zones
laid_sets_weight test axes rule [] zones few fine aligned = refl
laid_sets_weight test axes rule (set ∷ sets) zones few fine aligned =
    let area = area_of axes set in
    let long = length_area axes set few in
    laid_sets_weight test axes rule sets (laid_all rule area zones) few (fine_all rule area zones (omega arith) fine) aligned.1
    ∙ laid_all_weight test rule area zones (omega arith) fine aligned.0

pub laid_rules_weight : (test : ℕ → ℤ → Bool) (axes rule : ℕ) (rules : List (List (List Condition))) (zones : List Zone) → axes ≤ 8 → AreFine zones → AllByRecursion (λ sets. AllByRecursion (SetAligned test axes) sets) rules
    → weights test (laid_rules axes rule rules zones) ≡ weights test zones
laid_rules_weight test axes rule [] zones few fine aligned = refl
laid_rules_weight test axes rule (sets ∷ rules) zones few fine aligned =
    laid_rules_weight test axes (rule + 1) rules (laid_sets axes rule sets zones) few (fine_sets axes rule sets zones few fine) aligned.1
    ∙ laid_sets_weight test axes rule sets zones few fine aligned.0

weight_some : (test : ℕ → ℤ → Bool) (axis : ℕ) (area : List Interval) → 1 ≤ weight_from test axis area
weight_some test axis [] = omega arith
weight_some test axis (i ∷ area) = one-le-mul (share_some (test axis) i) (weight_some test (axis + 1) area)

-- each zone has a cell at least
pub length-le-weights : (test : ℕ → ℤ → Bool) (zones : List Zone) → length zones ≤ weights test zones
length-le-weights test [] = omega arith
length-le-weights test (zone ∷ zones) = omega (arith, weight_some test 0 zone.area, length-le-weights test zones)
