-- Areas: what a change on one axis makes of them, and which locations are in the area of a set.
use Rattle.std.proofs.Common.{◌≡◌, refl, sym, ◌∙◌, ap, ℕ, zero, suc, ◌<◌, ◌≤◌, ℤ, Bool, true, false, List, [], ◌∷◌, length, get_or, set, take, replicate, arith}
use Rattle.std.specs.Prelude.{int_le, ◌&&◌}
use Rattle.std.specs.List.{AllByRecursion}
use Rattle.std.proofs.lemmas.Int.{ints}
use Rattle.std.proofs.lemmas.Bool.{and_parts, and_from}
use Rattle.std.proofs.lemmas.List.{length-set, length-take}
use Rattle.region_support.specs.MasterOrder.{value_on}
use Rattle.region_support.specs.Regions.{IsNormalised}
use Rattle.rule_boxes.specs.declared.area.Interval.{Interval}
use Rattle.rule_boxes.specs.declared.condition.Condition.{Condition}
use Rattle.rule_boxes.specs.Conditions.{meets, set_holds}
use Rattle.rule_boxes.specs.Areas.{whole_axis, whole, no_interval, in_interval, has, shared, do_meet, interval_of, with_condition, with_conditions}
use Rattle.rule_boxes.specs.Merging.{IsFine}
use Rattle.rule_boxes.specs.Overlay.{area_of}
use Rattle.rule_boxes.proofs.IntervalLemmas.{share_from, shared_law}

-- the location is in the area, but for one axis
abbrev pub others : ℕ → List Interval → List ℤ → Bool
others axis [] at = true
others axis (interval ∷ area) [] = true
others zero (interval ∷ area) (value ∷ at) = has area at
others (suc axis) (interval ∷ area) (value ∷ at) = in_interval interval value && others axis area at

and_swap : (a b c : Bool) → (a && (b && c)) ≡ (b && (a && c))
and_swap true b c = refl
and_swap false true c = refl
and_swap false false c = refl

and_flat : (a b c : Bool) → ((a && b) && c) ≡ (b && (a && c))
and_flat true b c = refl
and_flat false true c = refl
and_flat false false c = refl

pub has_set : (axis : ℕ) (area : List Interval) (at : List ℤ) (interval : Interval) → axis < length area → axis < length at
    → has (set area axis interval) at ≡ (in_interval interval (value_on axis at) && others axis area at)
has_set axis [] at interval here there = absurd (omega arith)
has_set axis (i ∷ area) [] interval here there = absurd (omega arith)
has_set zero (i ∷ area) (value ∷ at) interval here there = refl
has_set (suc axis) (i ∷ area) (value ∷ at) interval here there =
    ap (λ (b : Bool). in_interval i value && b) (has_set axis area at interval (omega arith) (omega arith)) ∙ and_swap (in_interval i value) (in_interval interval (value_on axis at)) (others axis area at)

pub has_others : (axis : ℕ) (area : List Interval) (at : List ℤ) → axis < length area → axis < length at
    → has area at ≡ (in_interval (get_or area axis no_interval) (value_on axis at) && others axis area at)
has_others axis [] at here there = absurd (omega arith)
has_others axis (i ∷ area) [] here there = absurd (omega arith)
has_others zero (i ∷ area) (value ∷ at) here there = refl
has_others (suc axis) (i ∷ area) (value ∷ at) here there =
    ap (λ (b : Bool). in_interval i value && b) (has_others axis area at (omega arith) (omega arith)) ∙ and_swap (in_interval i value) (in_interval (get_or area axis no_interval) (value_on axis at)) (others axis area at)

-- axes beyond those of the location don't count
pub has_take : (axes : ℕ) (area : List Interval) (at : List ℤ) → length at ≤ axes → has (take axes area) at ≡ has area at
has_take zero [] at few = refl
has_take zero (i ∷ area) [] few = refl
has_take zero (i ∷ area) (value ∷ at) few = absurd (omega arith)
has_take (suc axes) [] at few = refl
has_take (suc axes) (i ∷ area) [] few = refl
has_take (suc axes) (i ∷ area) (value ∷ at) few = ap (λ (b : Bool). in_interval i value && b) (has_take axes area at (omega arith))

whole_value : (value : ℤ) → IsNormalised value → in_interval whole_axis value ≡ true
whole_value value normal = let low = normal.0 in let high = normal.1 in grind (arith, ints)

has_wholes : (axes : ℕ) (at : List ℤ) → AllByRecursion IsNormalised at → has (replicate axes whole_axis) at ≡ true
has_wholes zero at normal = refl
has_wholes (suc axes) [] normal = refl
has_wholes (suc axes) (value ∷ at) normal = and_from (in_interval whole_axis value) (has (replicate axes whole_axis) at) (whole_value value normal.0) (has_wholes axes at normal.1)

pub has_whole : (at : List ℤ) → AllByRecursion IsNormalised at → has whole at ≡ true
has_whole at normal = has_wholes 8 at normal

-- the part in which a condition holds
condition_law : (area : List Interval) (condition : Condition) (at : List ℤ) → condition.axis < length area → condition.axis < length at
    → has (with_condition area condition) at ≡ (meets condition at && has area at)
condition_law area condition at here there =
    let own = interval_of condition in
    let old = get_or area condition.axis no_interval in
    let value = value_on condition.axis at in
    has_set condition.axis area at (shared own old) here there
    ∙ (ap (λ (b : Bool). b && others condition.axis area at) (shared_law own old value)
    ∙ (assoc (in_interval own value) (in_interval old value) (others condition.axis area at)
    ∙ ap (λ (b : Bool). in_interval own value && b) (sym (has_others condition.axis area at here there)))) where
      assoc : (a b c : Bool) → ((a && b) && c) ≡ (a && (b && c))
      assoc true b c = refl
      assoc false b c = refl

pub length_conditions : (area : List Interval) (set : List Condition) → length (with_conditions area set) ≡ length area
length_conditions area [] = refl
length_conditions area (condition ∷ conditions) =
    length_conditions (with_condition area condition) conditions ∙ length-set area condition.axis (shared (interval_of condition) (get_or area condition.axis no_interval))

pub conditions_law : (area : List Interval) (set : List Condition) (at : List ℤ) → length at ≤ length area → AllByRecursion (λ condition. condition.axis < length at) set
    → has (with_conditions area set) at ≡ (has area at && set_holds set at)
conditions_law area [] at axes on_axes = and_true (has area at) where
  and_true : (b : Bool) → b ≡ (b && true)
  and_true true = refl
  and_true false = refl
conditions_law area (condition ∷ conditions) at axes on_axes =
    let here : condition.axis < length at = on_axes.0 in
    let kept : length (with_condition area condition) ≡ length area = length-set area condition.axis (shared (interval_of condition) (get_or area condition.axis no_interval)) in
    conditions_law (with_condition area condition) conditions at (omega arith) on_axes.1
    ∙ (ap (λ (b : Bool). b && set_holds conditions at) (condition_law area condition at (omega arith) here) ∙ and_flat (meets condition at) (has area at) (set_holds conditions at))

-- a location of the design space is in the area of a set exactly where the set holds
pub area_law : (set : List Condition) (at : List ℤ) → length at ≤ 8 → AllByRecursion IsNormalised at → AllByRecursion (λ condition. condition.axis < length at) set
    → has (area_of (length at) set) at ≡ set_holds set at
area_law set at few normal on_axes =
    has_take (length at) (with_conditions whole set) at (omega arith)
    ∙ (conditions_law whole set at few on_axes
    ∙ ap (λ (b : Bool). b && set_holds set at) (has_whole at normal))

pub length_area : (axes : ℕ) (set : List Condition) → axes ≤ 8 → length (area_of axes set) ≡ axes
length_area axes set few = omega (arith, length-take axes (with_conditions whole set), length_conditions whole set)

-- areas that both have a location meet
pub meets_where : (set area : List Interval) (at : List ℤ) → length set ≤ length at → has area at ≡ true → has set at ≡ true → do_meet set area ≡ true
meets_where [] area at long in_area in_set = refl
meets_where (s ∷ set) [] at long in_area in_set = refl
meets_where (s ∷ set) (i ∷ area) [] long in_area in_set = absurd (omega arith)
meets_where (s ∷ set) (i ∷ area) (value ∷ at) long in_area in_set =
    let a = and_parts (in_interval i value) (has area at) in_area in
    let b = and_parts (in_interval s value) (has set at) in_set in
    and_from (int_le (shared s i).low (shared s i).high) (do_meet set area) (share_from s i value a.0 b.0).some (meets_where set area at (omega arith) a.1 b.1)

-- what holds of all intervals of an area holds after a change by one of which it holds
pub fine_set : (axis : ℕ) (area : List Interval) (interval : Interval) → AllByRecursion IsFine area → IsFine interval → AllByRecursion IsFine (set area axis interval)
fine_set axis [] interval each fine = tt
fine_set zero (i ∷ area) interval each fine = (fine, each.1)
fine_set (suc axis) (i ∷ area) interval each fine = (each.0, fine_set axis area interval each.1 fine)

pub fine_get : (axis : ℕ) (area : List Interval) → axis < length area → AllByRecursion IsFine area → IsFine (get_or area axis no_interval)
fine_get axis [] here each = absurd (omega arith)
fine_get zero (i ∷ area) here each = each.0
fine_get (suc axis) (i ∷ area) here each = fine_get axis area (omega arith) each.1
