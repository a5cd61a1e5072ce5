-- What the sorted keys of masters say of their numbers.
use Rattle.std.proofs.Common.{◌≡◌, ◌≢◌, refl, sym, ◌∙◌, ap, subst, ℕ, zero, suc, ℤ, ◌+◌, ◌≤◌, ◌<◌, Bool, true, false, true≢false, List, [], ◌∷◌, ◌++◌, length, map, get_or, Option, Some, None, Ordering, Less, Equal, Greater, append_assoc, arith}
use Rattle.std.specs.Prelude.{IsPermutation, IsSorted, All, if◌then◌else◌, option_map, unsigned_abs}
use Rattle.std.specs.Cmp.{IsTotalOrder, bool_cmp_total}
use Rattle.std.specs.Cmp.Lexicographic.{slice_cmp}
use Rattle.std.specs.List.{AllByRecursion, list_any}
use Rattle.std.specs.Ordering.{nat_cmp, bool_cmp, is_lt, ordering_then}
use Rattle.std.proofs.lemmas.Cmp.{on_total, then_total, back_total, lists_total, nat_cmp_total, nat_list_cmp_total}
use Rattle.std.proofs.lemmas.List.Elements.{All-from_recursion, recursion_from_All, All-map}
use Rattle.std.proofs.lemmas.List.Sorted.{ranks_by, sorted_far, IsPermutation-map, All-permutation}
use Rattle.arrayvec.specs.ArrayVec.{ArrayVec, array_vec_len}
use Rattle.variation_rules.specs.PackedPoints.{count_from}
use Rattle.region_support.specs.MasterOrder.{is_default, axes_of, rank, points_from, axes_from, values_of, is_above}
use Rattle.region_support.specs.Coordinates.{coordinates_of}
use Rattle.region_support.specs.Keys.{key_of}
use Rattle.region_support.specs.Sorting.{location_at, first_repeat, model_fault, order_of, IsOrder}
use Rattle.region_support.specs.declared.key.Key.{Key}
use Rattle.region_support.specs.declared.sorting.ModelStop.{ModelStop}
use Rattle.region_support.specs.declared.sorting.ModelStop.TheVariants.{SameLocation, NoDefault}
use Rattle.region_support.proofs.SortLemmas.{compare_at, turned, turned_equal, RisesIn, AreApart, coordinates_after, is_order, apart_moved, order_is, order_law}

-- the keys of locations, the first one counted as this number
abbrev pub keys_from : List (List ℤ) → ℕ → List (List ℤ) → List Key
keys_from all number [] = []
keys_from all number (at ∷ ats) = key_of all number at ∷ keys_from all (number + 1) ats

-- the order that the fields have one after the other
abbrev pub key_cmp : Key → Key → Ordering
key_cmp a b =
    ordering_then (nat_cmp a.rank b.rank)
    (ordering_then (nat_cmp b.points.0 a.points.0)
    (ordering_then (slice_cmp nat_cmp a.axes.items b.axes.items)
    (ordering_then (slice_cmp bool_cmp a.sides.items b.sides.items)
    (ordering_then (slice_cmp nat_cmp a.distances.items b.distances.items)
    (nat_cmp a.number b.number)))))

key_total : IsTotalOrder key_cmp
key_total =
    then_total (on_total (λ (k : Key). k.rank) nat_cmp_total)
    (then_total (back_total (on_total (λ (k : Key). k.points.0) nat_cmp_total))
    (then_total (on_total (λ (k : Key). k.axes.items) nat_list_cmp_total)
    (then_total (on_total (λ (k : Key). k.sides.items) (lists_total bool_cmp_total))
    (then_total (on_total (λ (k : Key). k.distances.items) nat_list_cmp_total)
    (on_total (λ (k : Key). k.number) nat_cmp_total)))))

-- no key is below an earlier one
abbrev AreSorted : List Key → Type 0
AreSorted [] = Unit {0}
AreSorted (k ∷ ks) = AllByRecursion (λ m. is_lt (key_cmp m k) ≡ false) ks × AreSorted ks

sorted_from_far : (ks : List Key) → ((i j : ℕ) (d : Key) → i ≤ j → j < length ks → is_lt (key_cmp (get_or ks j d) (get_or ks i d)) ≡ false) → AreSorted ks
sorted_from_far [] far = tt
sorted_from_far (k ∷ ks) far = (
  recursion_from_All (λ m. is_lt (key_cmp m k) ≡ false) ks (λ j d below. far zero (suc j) d (omega arith) (omega arith)),
  sorted_from_far ks (λ i j d before below. far (suc i) (suc j) d (omega arith) (omega arith)),
)

are_sorted : (ks : List Key) → IsSorted key_cmp ks → AreSorted ks
are_sorted ks sorted =
    sorted_from_far ks (λ i j d before below. sorted_far (λ x y. is_lt (key_cmp x y)) (ranks_by key_total (λ (k : Key). k)) ks sorted i j d before below)

-- the number decides last
number_last : (a b c d e f : Ordering) → ordering_then a (ordering_then b (ordering_then c (ordering_then d (ordering_then e f)))) ≡ ordering_then (ordering_then a (ordering_then b (ordering_then c (ordering_then d e)))) f
number_last Less b c d e f = refl
number_last Greater b c d e f = refl
number_last Equal Less c d e f = refl
number_last Equal Greater c d e f = refl
number_last Equal Equal Less d e f = refl
number_last Equal Equal Greater d e f = refl
number_last Equal Equal Equal Less e f = refl
number_last Equal Equal Equal Greater e f = refl
number_last Equal Equal Equal Equal e f = refl

-- the key is that of its number's location
abbrev IsOwn : List (List ℤ) → Key → Type 0
IsOwn all k = k ≡ key_of all k.number (location_at all k.number)

own_compared : (all : List (List ℤ)) (m k : Key) → IsOwn all m → IsOwn all k → key_cmp m k ≡ ordering_then (compare_at all m.number k.number) (nat_cmp m.number k.number)
own_compared all m k first second =
    let a = location_at all m.number in
    let b = location_at all k.number in
    ap (λ (j : Key). key_cmp j k) first ∙ (ap (λ (j : Key). key_cmp (key_of all m.number a) j) second
    ∙ number_last (nat_cmp (rank a) (rank b)) (nat_cmp (points_from all 0 b) (points_from all 0 a)) (slice_cmp nat_cmp (axes_from 0 a) (axes_from 0 b)) (slice_cmp bool_cmp (map is_above (values_of a)) (map is_above (values_of b))) (slice_cmp nat_cmp (map unsigned_abs (values_of a)) (map unsigned_abs (values_of b))) (nat_cmp m.number k.number))

earlier_is_less : (all : List (List ℤ)) (m k : Key) → IsOwn all m → IsOwn all k → is_lt (key_cmp m k) ≡ false → compare_at all k.number m.number ≢ Equal → compare_at all k.number m.number ≡ Less
earlier_is_less all m k first second sorted apart = by (compare_at all m.number k.number) refl
  where
    by : (r : Ordering) → compare_at all m.number k.number ≡ r → compare_at all k.number m.number ≡ Less
    by Less e = absurd (true≢false (sym (ap (λ (r : Ordering). is_lt (ordering_then r (nat_cmp m.number k.number))) e) ∙ (sym (ap is_lt (own_compared all m k first second)) ∙ sorted)))
    by Equal e = absurd (apart (turned_equal all m.number k.number e))
    by Greater e = turned all m.number k.number e

rises_each : (all : List (List ℤ)) (k : Key) (ks : List Key) → IsOwn all k → AllByRecursion (IsOwn all) ks → AllByRecursion (λ m. is_lt (key_cmp m k) ≡ false) ks → AllByRecursion (λ n. compare_at all k.number n ≢ Equal) (map (λ (m : Key). m.number) ks) → AllByRecursion (λ n. compare_at all k.number n ≡ Less) (map (λ (m : Key). m.number) ks)
rises_each all k [] own each sorted apart = tt
rises_each all k (m ∷ ks) own each sorted apart = (earlier_is_less all m k each.0 own sorted.0 apart.0, rises_each all k ks own each.1 sorted.1 apart.1)

rises : (all : List (List ℤ)) (ks : List Key) → AllByRecursion (IsOwn all) ks → AreSorted ks → AreApart all (map (λ (m : Key). m.number) ks) → RisesIn all (map (λ (m : Key). m.number) ks)
rises all [] own sorted apart = tt
rises all (k ∷ ks) own sorted apart = (rises_each all k ks own.0 own.1 sorted.0 apart.0, rises all ks own.1 sorted.1 apart.1)

-- the keys that the locations have
numbers_from : (all : List (List ℤ)) (n : ℕ) (ats : List (List ℤ)) → map (λ (k : Key). k.number) (keys_from all n ats) ≡ count_from (length ats) n
numbers_from all n [] = refl
numbers_from all n (at ∷ ats) = let rest = numbers_from all (n + 1) ats in λ i. n ∷ rest i

own_from : (before more : List (List ℤ)) → AllByRecursion (IsOwn (before ++ more)) (keys_from (before ++ more) (length before) more)
own_from before [] = tt
own_from before (at ∷ more) =
    let joined : (before ++ (at ∷ [])) ++ more ≡ before ++ (at ∷ more) = append_assoc before (at ∷ []) more in
    let counted : length (before ++ (at ∷ [])) ≡ length before + 1 = length_more before at in
    let P : List (List ℤ) × ℕ → Type 0 = λ p. AllByRecursion (IsOwn p.0) (keys_from p.0 p.1 more) in
    let both : ◌≡◌ {A = List (List ℤ) × ℕ} ((before ++ (at ∷ [])) ++ more, length (before ++ (at ∷ []))) (before ++ (at ∷ more), length before + 1) = λ i. (joined i, counted i) in (
      ap (λ (w : List ℤ). key_of (before ++ (at ∷ more)) (length before) w) (sym (coordinates_after before at more)),
      subst P both (own_from (before ++ (at ∷ [])) more),
    )
  where
    length_more : (xs : List (List ℤ)) (x : List ℤ) → length (xs ++ (x ∷ [])) ≡ length xs + 1
    length_more [] x = refl
    length_more (y ∷ xs) x = omega (arith, length_more xs x)

-- where there is an order, the default is there and no location repeats an earlier one
pub fault_none : (all : List (List ℤ)) → model_fault all ≡ None → (list_any is_default all ≡ true) × (first_repeat [] all ≡ None)
fault_none all none = by (list_any is_default all) refl
  where
    stop_if : Bool → Option ModelStop
    stop_if b = if b then option_map (λ (pair : ℕ × ℕ). SameLocation pair.0 pair.1) (first_repeat [] all) else Some NoDefault

    unmapped : (o : Option (ℕ × ℕ)) → option_map (λ (pair : ℕ × ℕ). SameLocation pair.0 pair.1) o ≡ None → o ≡ None
    unmapped (Some pair) e = absurd (some_not_none e)
      where
        some_not_none : Some (SameLocation pair.0 pair.1) ≡ None → ⊥
        some_not_none e = cc
    unmapped None e = refl

    some_stop : Some NoDefault ≡ None → ⊥
    some_stop e = cc

    by : (b : Bool) → list_any is_default all ≡ b → (list_any is_default all ≡ true) × (first_repeat [] all ≡ None)
    by true e = (e, unmapped (first_repeat [] all) (sym (ap (λ (b : Bool). if b then option_map (λ (pair : ℕ × ℕ). SameLocation pair.0 pair.1) (first_repeat [] all) else Some NoDefault) e) ∙ none))
    by false e = absurd (some_stop (sym (ap (λ (b : Bool). if b then option_map (λ (pair : ℕ × ℕ). SameLocation pair.0 pair.1) (first_repeat [] all) else Some NoDefault) e) ∙ none))

-- The numbers of the sorted keys are the order.
pub keys_order : (all : List (List ℤ)) (sorted : List Key) → AllByRecursion (λ at. length at ≡ axes_of all) all → model_fault all ≡ None → IsPermutation (keys_from all 0 all) sorted → IsSorted key_cmp sorted → IsOrder all (map (λ (k : Key). k.number) sorted)
keys_order all sorted same none moved in_order =
    let found = fault_none all none in
    let numbers : IsPermutation (count_from (length all) 0) (map (λ (k : Key). k.number) sorted) =
    subst (λ (l : List ℕ). IsPermutation l (map (λ (k : Key). k.number) sorted)) (numbers_from all 0 all) (IsPermutation-map (λ (k : Key). k.number) (keys_from all 0 all) sorted moved) in
    let own : AllByRecursion (IsOwn all) sorted =
    recursion_from_All (IsOwn all) sorted (All-permutation (IsOwn all) (keys_from all 0 all) sorted moved (All-from_recursion (IsOwn all) (keys_from all 0 all) (own_from [] all))) in
    is_order all (map (λ (k : Key). k.number) sorted) same found.0 numbers
    (rises all sorted own (are_sorted sorted in_order) (apart_moved all (axes_of all) (map (λ (k : Key). k.number) sorted) same found.1 numbers))

-- and so they are those of the definition
pub order_value : (all : List (List ℤ)) (ns : List ℕ) → AllByRecursion (λ at. length at ≡ axes_of all) all → model_fault all ≡ None → IsOrder all ns → ns ≡ order_of all
order_value all ns same none order =
    let found = fault_none all none in order_law all ns (order_of all) order (order_is all same found.0 found.1)

-- the lengths of vectors are those of their lists
pub coordinates_lengths : (axes : ℕ) (locations : List (ArrayVec ℤ)) → All (λ at. array_vec_len at ≡ axes) locations → AllByRecursion (λ at. length at ≡ axes) (coordinates_of locations)
coordinates_lengths axes locations each =
    recursion_from_All (λ at. length at ≡ axes) (coordinates_of locations) (All-map (λ at. length at ≡ axes) (λ (at : ArrayVec ℤ). at.items) locations each)
