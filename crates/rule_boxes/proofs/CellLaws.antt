-- The boxes of merged zones are those of the rules.
use Rattle.std.proofs.Common.{◌≡◌, ◌≢◌, refl, sym, ◌∙◌, ap, subst, inl, inr, ℕ, zero, suc, ◌+◌, ◌<◌, ◌≤◌, ◌⊎◌, ℤ, ◌≤ℤ◌, Bool, true, false, List, [], ◌∷◌, ◌++◌, length, get_or, map, filter, take, cond, None, arith}
use Rattle.std.specs.Prelude.{int_le, ◌&&◌}
use Rattle.std.specs.List.{All, AllByRecursion, AllZip, flat_map}
use Rattle.std.specs.List.Sorted.{IsStrictlyIncreasing}
use Rattle.std.proofs.lemmas.Int.{ints}
use Rattle.std.proofs.lemmas.Bool.{cases_Bool, and_from, true≢false, false≢true}
use Rattle.std.proofs.lemmas.List.{length-map, length-take, get_or-map}
use Rattle.std.proofs.lemmas.List.Elements.{All-from_recursion, All-from_get_or, recursion_from_All}
use Rattle.region_support.specs.Regions.{IsNormalised}
use Rattle.rule_boxes.specs.declared.area.Interval.{Interval}
use Rattle.rule_boxes.specs.declared.area.Zone.{Zone}
use Rattle.rule_boxes.specs.declared.cell.Cell.{Cell}
use Rattle.rule_boxes.specs.declared.condition.Condition.{Condition}
use Rattle.rule_boxes.specs.Cells.{IsLocation, is_between, has_location, lists_at, holding, some_list, IsCell, AreCells}
use Rattle.rule_boxes.specs.Grid.{grid_above, conditions_of}
use Rattle.rule_boxes.specs.Answers.{HaveAxes}
use Rattle.rule_boxes.specs.Areas.{has}
use Rattle.rule_boxes.specs.Overlay.{overlaid}
use Rattle.rule_boxes.specs.Merging.{has_some, given, rules_at, IsFine, IsFineZone, AreFine, IsMerged, numbers_from, cell_of, cells_of}
use Rattle.rule_boxes.proofs.AreaLemmas.{has_take}
use Rattle.rule_boxes.proofs.FineLemmas.{fine_overlaid, each_append}
use Rattle.rule_boxes.proofs.GridLaw.{few_zones}
use Rattle.rule_boxes.proofs.WholeLemmas.{whole_overlaid}
use Rattle.rule_boxes.proofs.OverlayLaws.{IsAsked, OnAxes, IsTold, overlaid_law}
use Rattle.rule_boxes.proofs.RisingLemmas.{each_at, each_weaker, holding_increasing, holding_known}
use Rattle.rule_boxes.proofs.ApartLemmas.{cells_apart}

between_has : (area : List Interval) (at : List ℤ) → is_between (map (λ interval. interval.low) area) (map (λ interval. interval.high) area) at ≡ has area at
between_has [] at = refl
between_has (i ∷ area) [] = refl
between_has (i ∷ area) (value ∷ at) = ap (λ (b : Bool). (int_le i.low value && int_le value i.high) && b) (between_has area at)

cell_has : (axes : ℕ) (zone : Zone) (at : List ℤ) → length at ≤ axes → has_location (cell_of axes zone) at ≡ has zone.area at
cell_has axes zone at few = between_has (take axes zone.area) at ∙ has_take axes zone.area at few

-- the lists of the boxes are the numbers of the flags of their zones
lists_law : (axes : ℕ) (zones : List Zone) (at : List ℤ) → length at ≤ axes → lists_at (cells_of axes zones) at ≡ map (numbers_from 0) (rules_at at zones)
lists_law axes [] at few = refl
lists_law axes (zone ∷ zones) at few =
    (λ k. cond (cell_has axes zone at few k) (numbers_from 0 zone.rules ∷ lists_law axes zones at few k) (lists_law axes zones at few k))
    ∙ one (has zone.area at) (rules_at at zones) where
      one : (here : Bool) (rest : List (List Bool)) → cond here (numbers_from 0 zone.rules ∷ map (numbers_from 0) rest) (map (numbers_from 0) rest) ≡ map (numbers_from 0) (given here zone.rules ++ rest)
      one true rest = refl
      one false rest = refl

some_numbers : (number : ℕ) (flags : List Bool) → has_some flags ≡ true → numbers_from number flags ∷ [] ≡ some_list (numbers_from number flags)
some_numbers number [] some = absurd (false≢true some)
some_numbers number (true ∷ flags) some = refl
some_numbers number (false ∷ flags) some = some_numbers (number + 1) flags some

no_numbers : (number : ℕ) (flags : List Bool) → has_some flags ≡ false → [] ≡ some_list (numbers_from number flags)
no_numbers number [] none = refl
no_numbers number (true ∷ flags) none = absurd (true≢false none)
no_numbers number (false ∷ flags) none = no_numbers (number + 1) flags none

filtered_numbers : (flags : List Bool) → map (numbers_from 0) (filter has_some (flags ∷ [])) ≡ some_list (numbers_from 0 flags)
filtered_numbers flags = elim (cases_Bool (has_some flags)) [
  | inl some ↦ rw some (some_numbers 0 flags some)
  | inr none ↦ rw none (no_numbers 0 flags none)
]

-- conditions on the axes of a location
abbrev pub AreOn : ℕ → List (List (List Condition)) → Type 0
AreOn axes rules = AllByRecursion (λ sets. AllByRecursion (OnAxes axes) sets) rules

told_few : (rules : List (List (List Condition))) (at : List ℤ) (lists : List (List Bool)) → IsTold rules at lists → length lists ≤ 1
told_few rules at lists told = let one : length lists ≡ 1 = ap length told.one in omega arith

-- at a location the boxes tell which rules hold
cells_tell : (rules : List (List (List Condition))) (zones : List Zone) (at : List ℤ) → IsAsked at → AreOn (length at) rules → length rules ≤ 64 → IsMerged (overlaid (length at) rules) zones
    → lists_at (cells_of (length at) zones) at ≡ some_list (holding rules at)
cells_tell rules zones at asked on_axes few merged =
    let told = overlaid_law rules at asked on_axes few in
    let old = rules_at at (overlaid (length at) rules) in
    let kept : rules_at at zones ≡ filter has_some (told.flags ∷ []) =
    merged.lists at (fine_overlaid (length at) rules asked.few) (told_few rules at old told) ∙ ap (filter has_some) told.one in
    lists_law (length at) zones at (omega arith) ∙ (ap (map (numbers_from 0)) kept ∙ (filtered_numbers told.flags ∙ ap some_list told.numbers))

pub place_tells : (axes : ℕ) (rules : List (List (List Condition))) (zones : List Zone) (at : List ℤ) → axes ≤ 8 → AreOn axes rules → length rules ≤ 64 → IsMerged (overlaid axes rules) zones → IsLocation axes at
    → lists_at (cells_of axes zones) at ≡ some_list (holding rules at)
place_tells axes rules zones at few on_axes few_rules merged place =
    let count = place.count in
    let P : ℕ → Type 0 = λ n. AreOn n rules → IsMerged (overlaid n rules) zones → lists_at (cells_of n zones) at ≡ some_list (holding rules at) in
    let asked : IsAsked at = record { few = omega arith; normal = recursion_from_All IsNormalised at place.normalised } in
    subst P count (λ on_them them. cells_tell rules zones at asked on_them few_rules them) on_axes merged

-- the ends of a zone's box
low_normal : (axes : ℕ) (area : List Interval) → AllByRecursion IsFine area → AllByRecursion IsNormalised (map (λ interval. interval.low) (take axes area))
low_normal zero area fine = tt
low_normal (suc axes) [] fine = tt
low_normal (suc axes) (i ∷ area) fine =
    let record { low = a; some = b; high = c } = fine.0 in
    ((a, omega (arith, ints)), low_normal axes area fine.1)

high_normal : (axes : ℕ) (area : List Interval) → AllByRecursion IsFine area → AllByRecursion IsNormalised (map (λ interval. interval.high) (take axes area))
high_normal zero area fine = tt
high_normal (suc axes) [] fine = tt
high_normal (suc axes) (i ∷ area) fine =
    let record { low = a; some = b; high = c } = fine.0 in
    ((omega (arith, ints), c), high_normal axes area fine.1)

ends_ordered : (axes : ℕ) (area : List Interval) → AllByRecursion IsFine area → AllZip ◌≤ℤ◌ (map (λ interval. interval.low) (take axes area)) (map (λ interval. interval.high) (take axes area))
ends_ordered zero area fine = tt
ends_ordered (suc axes) [] fine = tt
ends_ordered (suc axes) (i ∷ area) fine = (fine.0.some, ends_ordered axes area fine.1)

-- the box has its low end
low_within : (axes : ℕ) (area : List Interval) → AllByRecursion IsFine area → has area (map (λ interval. interval.low) (take axes area)) ≡ true
low_within zero [] fine = refl
low_within zero (i ∷ area) fine = refl
low_within (suc axes) [] fine = refl
low_within (suc axes) (i ∷ area) fine =
    let some = fine.0.some in
    let here : (int_le i.low i.low && int_le i.low i.high) ≡ true = grind (arith, ints) in
    and_from (int_le i.low i.low && int_le i.low i.high) (has area (map (λ interval. interval.low) (take axes area))) here (low_within axes area fine.1)

low_place : (axes : ℕ) (zone : Zone) → axes ≤ 8 → IsFineZone zone → IsLocation axes (cell_of axes zone).low.items
low_place axes zone few fine =
    let long = fine.axes in
    record {
      count = omega (arith, length-map (take axes zone.area) (λ (interval : Interval). interval.low), length-take axes zone.area);
      normalised = All-from_recursion IsNormalised (map (λ interval. interval.low) (take axes zone.area)) (low_normal axes zone.area fine.each);
    }

high_place : (axes : ℕ) (zone : Zone) → axes ≤ 8 → IsFineZone zone → IsLocation axes (cell_of axes zone).high.items
high_place axes zone few fine =
    let long = fine.axes in
    record {
      count = omega (arith, length-map (take axes zone.area) (λ (interval : Interval). interval.high), length-take axes zone.area);
      normalised = All-from_recursion IsNormalised (map (λ interval. interval.high) (take axes zone.area)) (high_normal axes zone.area fine.each);
    }

-- one of the lists
abbrev IsIn : List ℕ → List (List ℕ) → Type 0
IsIn numbers [] = ⊥
IsIn numbers (other ∷ lists) = (numbers ≡ other) ⊎ IsIn numbers lists

list_in : (cells : List Cell) (k : ℕ) (d : Cell) (at : List ℤ) → k < length cells → has_location (get_or cells k d) at ≡ true → IsIn (get_or cells k d).rules (lists_at cells at)
list_in [] k d at here has_it = absurd (omega arith)
list_in (cell ∷ cells) zero d at here has_it = rw has_it (inl refl)
list_in (cell ∷ cells) (suc k) d at here has_it =
    let later = list_in cells k d at (omega arith) has_it in
    elim (cases_Bool (has_location cell at)) [ inl is ↦ rw is (inr later) | inr isnt ↦ rw isnt later ]

only_list : (numbers wanted : List ℕ) → IsIn numbers (some_list wanted) → (numbers ≡ wanted) × (wanted ≢ [])
only_list numbers [] is_in = absurd is_in
only_list numbers (n ∷ ns) (inl same) = (same, λ none. cc)
only_list numbers (n ∷ ns) (inr more) = absurd more

-- the box of a zone, at an index
cell_at : (axes : ℕ) (rules : List (List (List Condition))) (zones : List Zone) (k : ℕ) (d : Zone) → axes ≤ 8 → AreOn axes rules → length rules ≤ 64 → IsMerged (overlaid axes rules) zones → AreFine zones → k < length zones
    → IsCell axes (length rules) (cell_of axes (get_or zones k d))
cell_at axes rules zones k d few on_axes few_rules merged fine here =
    let zone = get_or zones k d in
    let cell = cell_of axes zone in
    let zone_fine : IsFineZone zone = each_at IsFineZone zones k d fine here in
    let low = low_place axes zone few zone_fine in
    let at = cell.low.items in
    let count = low.count in
    let it_is : get_or (cells_of axes zones) k cell ≡ cell = get_or-map (cell_of axes) zones k d cell here in
    let has_it : has_location (get_or (cells_of axes zones) k cell) at ≡ true =
    ap (λ (c : Cell). has_location c at) it_is ∙ (cell_has axes zone at (omega arith) ∙ low_within axes zone.area zone_fine.each) in
    let is_in : IsIn (get_or (cells_of axes zones) k cell).rules (lists_at (cells_of axes zones) at) = list_in (cells_of axes zones) k cell at (omega (arith, length-map zones (cell_of axes))) has_it in
    let told = only_list (get_or (cells_of axes zones) k cell).rules (holding rules at) (subst (IsIn (get_or (cells_of axes zones) k cell).rules) (place_tells axes rules zones at few on_axes few_rules merged low) is_in) in
    let same : cell.rules ≡ holding rules at = ap (λ (c : Cell). c.rules) (sym it_is) ∙ told.0 in
    record {
      low = low;
      high = high_place axes zone few zone_fine;
      ordered = ends_ordered axes zone.area zone_fine.each;
      some = λ none. told.1 (sym same ∙ none);
      rising = subst IsStrictlyIncreasing (sym same) (holding_increasing rules at);
      known = subst (All (λ number. number < length rules)) (sym same) (holding_known rules at);
    }

each_cell : (axes : ℕ) (rules : List (List (List Condition))) (zones : List Zone) → axes ≤ 8 → AreOn axes rules → length rules ≤ 64 → IsMerged (overlaid axes rules) zones → AreFine zones → All (IsCell axes (length rules)) (cells_of axes zones)
each_cell axes rules zones few on_axes few_rules merged fine =
    let past : Zone = record { area = []; rules = [] } in
    All-from_get_or (IsCell axes (length rules)) (cells_of axes zones) (cell_of axes past) (λ k here.
    let within : k < length zones = omega (arith, length-map zones (cell_of axes)) in
    subst (IsCell axes (length rules)) (sym (get_or-map (cell_of axes) zones k past (cell_of axes past) within)) (cell_at axes rules zones k past few on_axes few_rules merged fine within))

pub are_cells : (axes : ℕ) (rules : List (List (List Condition))) (zones : List Zone) → axes ≤ 8 → AreOn axes rules → length rules ≤ 64 → IsMerged (overlaid axes rules) zones → length (overlaid axes rules) ≤ 32768 → AreCells axes rules (cells_of axes zones)
are_cells axes rules zones few on_axes few_rules merged small =
    let fine : AreFine zones = merged.fine (fine_overlaid axes rules few) in
    let fewer = merged.few in
    record {
      lists = λ at place. place_tells axes rules zones at few on_axes few_rules merged place;
      each = each_cell axes rules zones few on_axes few_rules merged fine;
      apart = cells_apart axes zones few fine (merged.axes axes (whole_overlaid axes rules few)) merged.apart;
      few = omega (arith, length-map zones (cell_of axes));
    }

-- conditions on the axes, for all sets of all rules
pub on_axes_from : (axes : ℕ) (rules : List (List (List Condition))) → HaveAxes axes rules → AreOn axes rules
on_axes_from axes rules have =
    each_weaker (λ sets. All (λ set. All (λ condition. condition.axis < axes) set) sets) (λ sets. AllByRecursion (OnAxes axes) sets) rules
    (λ sets on_sets. each_weaker (λ set. All (λ condition. condition.axis < axes) set) (OnAxes axes) sets (λ set on_set. recursion_from_All (λ condition. condition.axis < axes) set on_set)
    (recursion_from_All (λ set. All (λ condition. condition.axis < axes) set) sets on_sets))
    (recursion_from_All (λ sets. All (λ set. All (λ condition. condition.axis < axes) set) sets) rules have)

more_axes : (axes : ℕ) (rules : List (List (List Condition))) → axes ≤ 8 → AreOn axes rules → AreOn 8 rules
more_axes axes rules few on_axes =
    each_weaker (λ sets. AllByRecursion (OnAxes axes) sets) (λ sets. AllByRecursion (OnAxes 8) sets) rules
    (λ sets on_sets. each_weaker (OnAxes axes) (OnAxes 8) sets (λ set on_set. each_weaker (λ condition. condition.axis < axes) (λ condition. condition.axis < 8) set (λ condition h. omega arith) on_set) on_sets)
    on_axes

each_flat : {X Y : Type 0} (P : Y → Type 0) (f : X → List Y) (xs : List X) → AllByRecursion (λ x. AllByRecursion P (f x)) xs → AllByRecursion P (flat_map f xs)
each_flat P f [] each = tt
each_flat P f (x ∷ xs) each = each_append P (f x) (flat_map f xs) each.0 (each_flat P f xs each.1)

conditions_on : (axes : ℕ) (rules : List (List (List Condition))) → AreOn axes rules → AllByRecursion (λ condition. condition.axis < axes) (conditions_of rules)
conditions_on axes rules on_axes =
    each_flat (λ condition. condition.axis < axes) (λ sets. flat_map (λ set. set) sets) rules
    (each_weaker (λ sets. AllByRecursion (OnAxes axes) sets) (λ sets. AllByRecursion (λ condition. condition.axis < axes) (flat_map (λ set. set) sets)) rules
    (λ sets on_sets. each_flat (λ condition. condition.axis < axes) (λ set. set) sets on_sets) on_axes)

-- where the grid is small, the boxes of the merged zones are those of the rules
pub answer_law : (axes : ℕ) (rules : List (List (List Condition))) (zones : List Zone) → axes ≤ 8 → HaveAxes axes rules → length rules ≤ 64 → grid_above axes rules ≡ None → IsMerged (overlaid axes rules) zones
    → (grid_above axes rules ≡ None) × AreCells axes rules (cells_of axes zones)
answer_law axes rules zones few have few_rules none merged =
    let on_axes = on_axes_from axes rules have in
    (none, are_cells axes rules zones few on_axes few_rules merged (few_zones axes rules few (conditions_on axes rules on_axes) (more_axes axes rules few on_axes) none))
