-- What laying the sets of rules over zones makes of the rules at a location.
use Rattle.std.proofs.Common.{◌≡◌, refl, sym, ◌∙◌, ap, inl, inr, ℕ, ◌+◌, ◌<◌, ◌≤◌, ℤ, pos, Bool, true, false, List, [], ◌∷◌, ◌++◌, length, get_or, set, drop, map, Option, Some, None, arith, append-nil, append_assoc}
use Rattle.std.specs.Prelude.{int_le, ◌&&◌, not}
use Rattle.std.proofs.lemmas.Bool.{and_parts, cases_Bool, both_ways}
use Rattle.std.proofs.lemmas.List.{length-set, drop_more, drop-set-lt, set-get_or}
use Rattle.region_support.specs.MasterOrder.{value_on}
use Rattle.rule_boxes.specs.declared.area.Interval.{Interval}
use Rattle.rule_boxes.specs.declared.area.Zone.{Zone}
use Rattle.rule_boxes.specs.Areas.{no_interval, in_interval, has, shared, do_meet, below, above}
use Rattle.rule_boxes.specs.Overlay.{interval_on, part_of, cut_off, narrowed, outside_from, inside_from, with_rule, laid}
use Rattle.rule_boxes.specs.Merging.{given, rules_at}
use Rattle.rule_boxes.proofs.IntervalLemmas.{Share, tells, join, within_both, in_part}
use Rattle.rule_boxes.proofs.AreaLemmas.{others, has_set, has_others, meets_where}

-- A set from this axis on, of a zone with which it has a location in common.
pub record Over (sets : List Interval) (axis : ℕ) (zone : Zone) : Type 0 where
  pub axes : axis + length sets ≤ length zone.area
  pub meet : do_meet sets (drop axis zone.area) ≡ true

pub over_here : (s : Interval) (sets : List Interval) (axis : ℕ) (zone : Zone) → Over (s ∷ sets) axis zone → axis < length zone.area
over_here s sets axis zone over = let axes = over.axes in omega arith

meet_here : (s : Interval) (sets : List Interval) (axis : ℕ) (zone : Zone) → Over (s ∷ sets) axis zone
    → (int_le (shared s (interval_on zone axis)).low (shared s (interval_on zone axis)).high && do_meet sets (drop (axis + 1) zone.area)) ≡ true
meet_here s sets axis zone over =
    sym (ap (λ (area : List Interval). do_meet (s ∷ sets) area) (drop_more zone.area axis no_interval (over_here s sets axis zone over))) ∙ over.meet

pub over_share : (s : Interval) (sets : List Interval) (axis : ℕ) (zone : Zone) → Over (s ∷ sets) axis zone → Share s (interval_on zone axis)
over_share s sets axis zone over = record { some = (and_parts (int_le (shared s (interval_on zone axis)).low (shared s (interval_on zone axis)).high) (do_meet sets (drop (axis + 1) zone.area)) (meet_here s sets axis zone over)).0 }

pub over_next : (s : Interval) (sets : List Interval) (axis : ℕ) (zone : Zone) → Over (s ∷ sets) axis zone → Over sets (axis + 1) (narrowed s axis zone)
over_next s sets axis zone over =
    let next = shared s (interval_on zone axis) in
    let axes = over.axes in
    record {
      axes = omega (arith, length-set zone.area axis next);
      meet = ap (λ (area : List Interval). do_meet sets area) (drop-set-lt (axis + 1) zone.area axis next (omega arith))
          ∙ (and_parts (int_le next.low next.high) (do_meet sets (drop (axis + 1) zone.area)) (meet_here s sets axis zone over)).1;
    }

pub rules_at-append : (at : List ℤ) (xs ys : List Zone) → rules_at at (xs ++ ys) ≡ rules_at at xs ++ rules_at at ys
rules_at-append at [] ys = refl
rules_at-append at (x ∷ xs) ys = ap (λ (l : List (List Bool)). given (has x.area at) x.rules ++ l) (rules_at-append at xs ys) ∙ sym (append_assoc (given (has x.area at) x.rules) (rules_at at xs) (rules_at at ys))

-- the rules of a zone with another interval on an axis, where there is one
part_law : (zone : Zone) (axis : ℕ) (part : Option Interval) (at : List ℤ) → axis < length zone.area → axis < length at
    → rules_at at (part_of zone axis part) ≡ given (in_part part (value_on axis at) && others axis zone.area at) zone.rules
part_law zone axis None at here there = refl
part_law zone axis (Some interval) at here there =
    append-nil (given (has (set zone.area axis interval) at) zone.rules) ∙ ap (λ (b : Bool). given b zone.rules) (has_set axis zone.area at interval here there)

and_false : (b : Bool) → false ≡ (b && false)
and_false true = refl
and_false false = refl

and_true : (b : Bool) → b ≡ (b && true)
and_true true = refl
and_true false = refl

-- outside the set a zone's parts have what the zone has
pub outside_law : (sets : List Interval) (axis : ℕ) (zone : Zone) (at : List ℤ) → Over sets axis zone → axis + length sets ≡ length at
    → rules_at at (outside_from sets axis zone) ≡ given (has zone.area at && not (has sets (drop axis at))) zone.rules
outside_law [] axis zone at over same = ap (λ (b : Bool). given b zone.rules) (and_false (has zone.area at))
outside_law (s ∷ sets) axis zone at over same =
    let here = over_here s sets axis zone over in
    let there : axis < length at = omega arith in
    let old = interval_on zone axis in
    let value = value_on axis at in
    let others_have = others axis zone.area at in
    let inside = narrowed s axis zone in
    let rest = outside_law sets (axis + 1) inside at (over_next s sets axis zone over) (omega arith) in
    let low = part_law zone axis (below s old) at here there in
    let high = part_law zone axis (above s old) at here there in
    let both : rules_at at (cut_off s axis zone) ≡ given (in_part (below s old) value && others_have) zone.rules ++ given (in_part (above s old) value && others_have) zone.rules =
    rules_at-append at (part_of zone axis (below s old)) (part_of zone axis (above s old)) ∙ (λ k. low k ++ high k) in
    let narrow : has inside.area at ≡ (in_interval (shared s old) value && others_have) = has_set axis zone.area at (shared s old) here there in
    let r = has sets (drop (axis + 1) at) in
    let rest_is : rules_at at (outside_from sets (axis + 1) inside) ≡ given ((in_interval (shared s old) value && others_have) && not r) zone.rules =
    rest ∙ ap (λ (b : Bool). given (b && not r) zone.rules) narrow in
    rules_at-append at (cut_off s axis zone) (outside_from sets (axis + 1) inside)
    ∙ ((λ k. both k ++ rest_is k)
    ∙ (join (in_interval old value) (in_interval s value) (in_part (below s old) value) (in_part (above s old) value) (in_interval (shared s old) value) others_have r zone.rules (tells s old value (over_share s sets axis zone over))
    ∙ (ap (λ (b : Bool). given (b && not (in_interval s value && r)) zone.rules) (sym (has_others axis zone.area at here there))
    ∙ ap (λ (l : List ℤ). given (has zone.area at && not (has (s ∷ sets) l)) zone.rules) (sym (drop_more at axis (pos 0) there)))))

-- within the set is what both have
pub inside_law : (sets : List Interval) (axis : ℕ) (zone : Zone) (at : List ℤ) → Over sets axis zone → axis + length sets ≡ length at
    → has (inside_from sets axis zone).area at ≡ (has zone.area at && has sets (drop axis at))
inside_law [] axis zone at over same = and_true (has zone.area at)
inside_law (s ∷ sets) axis zone at over same =
    let here = over_here s sets axis zone over in
    let there : axis < length at = omega arith in
    let old = interval_on zone axis in
    let value = value_on axis at in
    let others_have = others axis zone.area at in
    let inside = narrowed s axis zone in
    let r = has sets (drop (axis + 1) at) in
    inside_law sets (axis + 1) inside at (over_next s sets axis zone over) (omega arith)
    ∙ (ap (λ (b : Bool). b && r) (has_set axis zone.area at (shared s old) here there)
    ∙ (within_both (in_interval old value) (in_interval s value) (in_part (below s old) value) (in_part (above s old) value) (in_interval (shared s old) value) others_have r (tells s old value (over_share s sets axis zone over))
    ∙ (ap (λ (b : Bool). b && (in_interval s value && r)) (sym (has_others axis zone.area at here there))
    ∙ ap (λ (l : List ℤ). has zone.area at && has (s ∷ sets) l) (sym (drop_more at axis (pos 0) there)))))

pub inside_rules : (sets : List Interval) (axis : ℕ) (zone : Zone) → (inside_from sets axis zone).rules ≡ zone.rules
inside_rules [] axis zone = refl
inside_rules (s ∷ sets) axis zone = inside_rules sets (axis + 1) (narrowed s axis zone)

-- the flags at a location after a set of the rule, which holds there or not
abbrev pub after_set : ℕ → Bool → List Bool → List Bool
after_set rule true rules = set rules rule true
after_set rule false rules = rules

cut_rules : (here holds : Bool) (rule : ℕ) (rules : List Bool)
    → given (here && not holds) rules ++ (given (here && holds) (set rules rule true) ++ []) ≡ map (after_set rule holds) (given here rules)
cut_rules true true rule rules = refl
cut_rules true false rule rules = refl
cut_rules false true rule rules = refl
cut_rules false false rule rules = refl

kept_rules : (here holds : Bool) (rule : ℕ) (rules : List Bool) → (here ≡ true → holds ≡ true → set rules rule true ≡ rules)
    → given here rules ++ [] ≡ map (after_set rule holds) (given here rules)
kept_rules true true rule rules same = ap (λ (l : List Bool). l ∷ []) (sym (same refl refl))
kept_rules true false rule rules same = refl
kept_rules false true rule rules same = refl
kept_rules false false rule rules same = refl

-- a flag that is set already stays
after_same : (rules : List Bool) (rule : ℕ) → get_or rules rule false ≡ true → set rules rule true ≡ rules
after_same rules rule is_set = ap (λ (b : Bool). set rules rule b) (sym is_set) ∙ set-get_or rules rule false

-- a zone after a set of a rule
pub laid_law : (rule : ℕ) (sets : List Interval) (zone : Zone) (at : List ℤ) → length sets ≡ length at → length at ≤ length zone.area
    → rules_at at (laid rule sets zone) ≡ map (after_set rule (has sets at)) (given (has zone.area at) zone.rules)
laid_law rule sets zone at same axes = elim (cases_Bool (get_or zone.rules rule false)) [
  | inl is_set ↦ rw is_set (kept_rules (has zone.area at) (has sets at) rule zone.rules (λ _ _. after_same zone.rules rule is_set))
  | inr unset ↦ elim (cases_Bool (do_meet sets zone.area)) [
    | inl meet ↦
        let over : Over sets 0 zone = record { axes = omega arith; meet = meet } in
        let inside = inside_from sets 0 zone in
        let flagged : rules_at at (with_rule rule inside ∷ []) ≡ given (has zone.area at && has sets at) (set zone.rules rule true) ++ [] =
        λ k. given (inside_law sets 0 zone at over (omega arith) k) (set (inside_rules sets 0 zone k) rule true) ++ [] in
        rw (unset, meet) (rules_at-append at (outside_from sets 0 zone) (with_rule rule inside ∷ [])
        ∙ ((λ k. outside_law sets 0 zone at over (omega arith) k ++ flagged k) ∙ cut_rules (has zone.area at) (has sets at) rule zone.rules))
    | inr apart ↦
        rw (unset, apart) (kept_rules (has zone.area at) (has sets at) rule zone.rules
        (λ in_area in_set. absurd (both_ways (do_meet sets zone.area) apart (meets_where sets zone.area at (omega arith) in_area in_set))))
  ]
]
