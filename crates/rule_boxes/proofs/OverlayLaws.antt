-- The zones of the overlaid rules tell at each location which rules hold.
use Rattle.std.proofs.Common.{◌≡◌, refl, sym, ◌∙◌, ap, ℕ, zero, suc, ◌+◌, ◌-◌, ◌<◌, ◌≤◌, ℤ, Bool, true, false, List, [], ◌∷◌, ◌++◌, length, set, replicate, map, cond, arith, append_assoc}
use Rattle.std.specs.Prelude.{◌||◌}
use Rattle.std.specs.List.{AllByRecursion}
use Rattle.std.proofs.lemmas.List.{set-set, set_at, map-append, map-id, length_push}
use Rattle.region_support.specs.Regions.{IsNormalised}
use Rattle.rule_boxes.specs.declared.area.Interval.{Interval}
use Rattle.rule_boxes.specs.declared.area.Zone.{Zone}
use Rattle.rule_boxes.specs.declared.condition.Condition.{Condition}
use Rattle.rule_boxes.specs.Conditions.{set_holds, rule_holds}
use Rattle.rule_boxes.specs.Cells.{holding_from}
use Rattle.rule_boxes.specs.Areas.{has}
use Rattle.rule_boxes.specs.Overlay.{laid, laid_all, area_of, laid_sets, laid_rules, bare, overlaid}
use Rattle.rule_boxes.specs.Merging.{given, rules_at, AreFine, numbers_from}
use Rattle.rule_boxes.proofs.AreaLemmas.{area_law, length_area, has_whole}
use Rattle.rule_boxes.proofs.LayingLaws.{rules_at-append, after_set, laid_law}
use Rattle.rule_boxes.proofs.FineLemmas.{fine_all, fine_sets, fine_bare}

-- A location of the design space at which the sets of rules may be asked: their conditions are on its axes.
pub record IsAsked (at : List ℤ) : Type 0 where
  pub few : length at ≤ 8
  pub normal : AllByRecursion IsNormalised at

abbrev pub OnAxes : ℕ → List Condition → Type 0
OnAxes axes set = AllByRecursion (λ condition. condition.axis < axes) set

laid_all_law : (rule : ℕ) (sets : List Interval) (zones : List Zone) (at : List ℤ) → length sets ≡ length at → length at ≤ 8 → AreFine zones
    → rules_at at (laid_all rule sets zones) ≡ map (after_set rule (has sets at)) (rules_at at zones)
laid_all_law rule sets [] at same few fine = refl
laid_all_law rule sets (zone ∷ zones) at same few fine =
    let axes = fine.0.axes in
    let first = laid_law rule sets zone at same (omega arith) in
    let rest = laid_all_law rule sets zones at same few fine.1 in
    rules_at-append at (laid rule sets zone) (laid_all rule sets zones)
    ∙ ((λ k. first k ++ rest k) ∙ sym (map-append (after_set rule (has sets at)) (given (has zone.area at) zone.rules) (rules_at at zones)))

-- a set of the rule and all later ones
after_twice : (rule : ℕ) (first rest : Bool) (lists : List (List Bool)) → map (after_set rule rest) (map (after_set rule first) lists) ≡ map (after_set rule (first || rest)) lists
after_twice rule first rest [] = refl
after_twice rule first rest (flags ∷ lists) = λ k. once first rest k ∷ after_twice rule first rest lists k where
  once : (first rest : Bool) → after_set rule rest (after_set rule first flags) ≡ after_set rule (first || rest) flags
  once true true = set-set flags rule true true
  once true false = refl
  once false true = refl
  once false false = refl

after_none : (rule : ℕ) (lists : List (List Bool)) → lists ≡ map (after_set rule false) lists
after_none rule [] = refl
after_none rule (flags ∷ lists) = ap (λ (l : List (List Bool)). flags ∷ l) (after_none rule lists)

laid_sets_law : (rule : ℕ) (sets : List (List Condition)) (zones : List Zone) (at : List ℤ) → IsAsked at → AllByRecursion (OnAxes (length at)) sets → AreFine zones
    → rules_at at (laid_sets (length at) rule sets zones) ≡ map (after_set rule (rule_holds sets at)) (rules_at at zones)
laid_sets_law rule [] zones at asked on_axes fine = after_none rule (rules_at at zones)
laid_sets_law rule (set ∷ sets) zones at asked on_axes fine =
    let area = area_of (length at) set in
    let few = asked.few in
    let long : length area ≡ length at = length_area (length at) set few in
    laid_sets_law rule sets (laid_all rule area zones) at asked on_axes.1 (fine_all rule area zones (omega arith) fine)
    ∙ (ap (map (after_set rule (rule_holds sets at))) (laid_all_law rule area zones at long few fine ∙ ap (λ (b : Bool). map (after_set rule b) (rules_at at zones)) (area_law set at few asked.normal on_axes.0))
    ∙ after_twice rule (set_holds set at) (rule_holds sets at) (rules_at at zones))

-- the flags at a location after all rules from this number on
abbrev pub after_rules : ℕ → List (List (List Condition)) → List ℤ → List Bool → List Bool
after_rules rule [] at flags = flags
after_rules rule (sets ∷ rules) at flags = after_rules (rule + 1) rules at (after_set rule (rule_holds sets at) flags)

map_twice : {A B C : Type 0} (f : B → C) (g : A → B) (xs : List A) → map f (map g xs) ≡ map (λ x. f (g x)) xs
map_twice f g [] = refl
map_twice f g (x ∷ xs) = ap (λ l. f (g x) ∷ l) (map_twice f g xs)

laid_rules_law : (rule : ℕ) (rules : List (List (List Condition))) (zones : List Zone) (at : List ℤ) → IsAsked at → AllByRecursion (λ sets. AllByRecursion (OnAxes (length at)) sets) rules → AreFine zones
    → rules_at at (laid_rules (length at) rule rules zones) ≡ map (after_rules rule rules at) (rules_at at zones)
laid_rules_law rule [] zones at asked on_axes fine = sym (map-id (rules_at at zones))
laid_rules_law rule (sets ∷ rules) zones at asked on_axes fine =
    laid_rules_law (rule + 1) rules (laid_sets (length at) rule sets zones) at asked on_axes.1 (fine_sets (length at) rule sets zones asked.few fine)
    ∙ (ap (map (after_rules (rule + 1) rules at)) (laid_sets_law rule sets zones at asked on_axes.0 fine)
    ∙ map_twice (after_rules (rule + 1) rules at) (after_set rule (rule_holds sets at)) (rules_at at zones))

-- whether each of the rules holds
abbrev pub answers : List (List (List Condition)) → List ℤ → List Bool
answers rules at = map (λ sets. rule_holds sets at) rules

-- the flag of a rule that is looked at next
set_next : (front : List Bool) (n : ℕ) (holds : Bool) → after_set (length front) holds (front ++ replicate (suc n) false) ≡ (front ++ holds ∷ []) ++ replicate n false
set_next front n true = set_at front false (replicate n false) true (length front) refl ∙ sym (append_assoc front (true ∷ []) (replicate n false))
set_next front n false = sym (append_assoc front (false ∷ []) (replicate n false))

flags_law : (front : List Bool) (n : ℕ) (rules : List (List (List Condition))) (at : List ℤ)
    → after_rules (length front) rules at (front ++ replicate (length rules + n) false) ≡ front ++ (answers rules at ++ replicate n false)
flags_law front n [] at = ap (λ (m : ℕ). front ++ replicate m false) (omega arith)
flags_law front n (sets ∷ rules) at =
    let holds = rule_holds sets at in
    let count : length (sets ∷ rules) + n ≡ suc (length rules + n) = omega arith in
    let next : after_set (length front) holds (front ++ replicate (length (sets ∷ rules) + n) false) ≡ (front ++ holds ∷ []) ++ replicate (length rules + n) false =
    ap (λ (m : ℕ). after_set (length front) holds (front ++ replicate m false)) count ∙ set_next front (length rules + n) holds in
    ap (after_rules (length front + 1) rules at) next
    ∙ (ap (λ (m : ℕ). after_rules m rules at ((front ++ holds ∷ []) ++ replicate (length rules + n) false)) (sym (length_push front holds))
    ∙ (flags_law (front ++ holds ∷ []) n rules at ∙ append_assoc front (holds ∷ []) (answers rules at ++ replicate n false)))

no_numbers : (number n : ℕ) → numbers_from number (replicate n false) ≡ []
no_numbers number zero = refl
no_numbers number (suc n) = no_numbers (number + 1) n

numbers_law : (number n : ℕ) (rules : List (List (List Condition))) (at : List ℤ) → numbers_from number (answers rules at ++ replicate n false) ≡ holding_from number rules at
numbers_law number n [] at = no_numbers number n
numbers_law number n (sets ∷ rules) at =
    let rest = numbers_law (number + 1) n rules at in
    ap (λ (later : List ℕ). cond (rule_holds sets at) (number ∷ later) later) rest

-- At a location the zones of the overlaid rules have one list of flags: that of the rules that hold there.
pub record IsTold (rules : List (List (List Condition))) (at : List ℤ) (lists : List (List Bool)) : Type 0 where
  pub flags : List Bool
  pub one : lists ≡ flags ∷ []
  pub numbers : numbers_from 0 flags ≡ holding_from 0 rules at

pub overlaid_law : (rules : List (List (List Condition))) (at : List ℤ) → IsAsked at → AllByRecursion (λ sets. AllByRecursion (OnAxes (length at)) sets) rules → length rules ≤ 64
    → IsTold rules at (rules_at at (overlaid (length at) rules))
unfolding overlaid
overlaid_law rules at asked on_axes few =
    let left = 64 - length rules in
    let start : rules_at at (bare ∷ []) ≡ replicate 64 false ∷ [] = ap (λ (b : Bool). given b (replicate 64 false) ++ []) (has_whole at asked.normal) in
    let count : 64 ≡ length rules + left = omega arith in
    let laid : rules_at at (laid_rules (length at) 0 rules (bare ∷ [])) ≡ after_rules 0 rules at (replicate 64 false) ∷ [] =
    laid_rules_law 0 rules (bare ∷ []) at asked on_axes (fine_bare, tt) ∙ ap (map (after_rules 0 rules at)) start in
    let flags : after_rules 0 rules at (replicate 64 false) ≡ answers rules at ++ replicate left false =
    ap (λ (m : ℕ). after_rules 0 rules at (replicate m false)) count ∙ flags_law [] left rules at in
    record {
      flags = answers rules at ++ replicate left false;
      one = laid ∙ ap (λ (l : List Bool). l ∷ []) flags;
      numbers = numbers_law 0 left rules at;
    }
