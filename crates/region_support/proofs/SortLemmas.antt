-- The numbers of locations in their order: the definition finds it, and there is no other.
use Rattle.std.proofs.Common.{◌≡◌, ◌≢◌, refl, sym, ◌∙◌, ap, subst, ℕ, ℤ, pos, ◌+◌, Bool, true, false, true≢false, ◌⊎◌, inl, inr, List, [], ◌∷◌, ◌++◌, length, map, Option, Some, None, Ordering, Less, Equal, Greater, append_assoc, arith}
use Rattle.std.specs.Prelude.{IsPermutation, if◌then◌else◌, position, ◌||◌, ◌&&◌}
use Rattle.std.specs.Cmp.{IsTotalOrder, first_so, second_so}
use Rattle.std.specs.List.{AllByRecursion, IsDistinct, list_any, position_from}
use Rattle.std.specs.Ordering.{is_lt, ordering_reverse}
use Rattle.std.proofs.lemmas.Cmp.{on_total, lists_equiv, int_eq_equiv}
use Rattle.std.proofs.lemmas.List.Elements.{All-from_recursion, recursion_from_All}
use Rattle.std.proofs.lemmas.List.Sorted.{IsPermutation-refl, IsPermutation-sym, IsPermutation-cons, IsPermutation-trans, IsPermutation-map, IsPermutation-append_left, IsPermutation-append_comm, All-permutation, list_any-IsPermutation}
use Rattle.std.proofs.lemmas.Map.Keys.{IsDistinct-IsPermutation, IsDistinct-head, IsDistinct-tail}
use Rattle.std.proofs.lemmas.Iterator.Adapters.{position_from-zero}
use Rattle.variation_rules.specs.PackedPoints.{count_from}
use Rattle.region_support.specs.MasterOrder.{is_zero, is_default, rank, compare_masters, RisesBy, StartsWithDefault, axes_of}
use Rattle.region_support.specs.Sorting.{location_at, locations_at, is_before, with_number, sorted_numbers, order_of, IsOrder, is_same_location, repeat_or, first_repeat}
use Rattle.region_support.proofs.AxisLemmas.{eq_tells}
use Rattle.region_support.proofs.InfluenceLemmas.{rank_tells}
use Rattle.region_support.proofs.OrderLemmas.{compare_total, compare_equal, compare_permuted, less_rank}

-- two numbers compared by their locations
abbrev pub compare_at : List (List ℤ) → ℕ → ℕ → Ordering
compare_at all a b = compare_masters all (location_at all a) (location_at all b)

number_total : (all : List (List ℤ)) → IsTotalOrder (compare_at all)
number_total all = on_total (location_at all) (compare_total all)

less_not_greater : Less ≡ Greater → ⊥
less_not_greater e = cc

not_both : (all : List (List ℤ)) (a b : ℕ) → compare_at all a b ≡ Less → compare_at all b a ≡ Less → ⊥
not_both all a b less back = less_not_greater (sym less ∙ ((number_total all).antisymm a b ∙ ap ordering_reverse back))

pub turned : (all : List (List ℤ)) (a b : ℕ) → compare_at all a b ≡ Greater → compare_at all b a ≡ Less
turned all a b greater = (number_total all).antisymm b a ∙ ap ordering_reverse greater

pub turned_equal : (all : List (List ℤ)) (a b : ℕ) → compare_at all a b ≡ Equal → compare_at all b a ≡ Equal
turned_equal all a b equal = (number_total all).antisymm b a ∙ ap ordering_reverse equal

-- each number comes before all later ones
abbrev pub RisesIn : List (List ℤ) → List ℕ → Type 0
RisesIn all [] = Unit {0}
RisesIn all (n ∷ ns) = AllByRecursion (λ m. compare_at all n m ≡ Less) ns × RisesIn all ns

-- no two numbers tie
abbrev pub AreApart : List (List ℤ) → List ℕ → Type 0
AreApart all [] = Unit {0}
AreApart all (n ∷ ns) = AllByRecursion (λ m. compare_at all n m ≢ Equal) ns × AreApart all ns

-- where a number is put
with_tells : (all : List (List ℤ)) (n o : ℕ) (os : List ℕ) → compare_at all n o ≢ Equal → ((compare_at all n o ≡ Less) × (with_number all n (o ∷ os) ≡ n ∷ o ∷ os)) ⊎ ((compare_at all o n ≡ Less) × (with_number all n (o ∷ os) ≡ o ∷ with_number all n os))
with_tells all n o os apart = by (compare_at all n o) refl
  where
    by : (r : Ordering) → compare_at all n o ≡ r → ((compare_at all n o ≡ Less) × (with_number all n (o ∷ os) ≡ n ∷ o ∷ os)) ⊎ ((compare_at all o n ≡ Less) × (with_number all n (o ∷ os) ≡ o ∷ with_number all n os))
    by Less e = inl (e, ap (λ (r : Ordering). if is_lt r then n ∷ o ∷ os else o ∷ with_number all n os) e)
    by Equal e = absurd (apart e)
    by Greater e = inr (turned all n o e, ap (λ (r : Ordering). if is_lt r then n ∷ o ∷ os else o ∷ with_number all n os) e)

either_way : (P : List ℕ → Type 0) (b : Bool) (xs ys : List ℕ) → P xs → P ys → P (if b then xs else ys)
either_way P true xs ys first second = first
either_way P false xs ys first second = second

with_all : (all : List (List ℤ)) (Q : ℕ → Type 0) (n : ℕ) (os : List ℕ) → Q n → AllByRecursion Q os → AllByRecursion Q (with_number all n os)
with_all all Q n [] own each = (own, tt)
with_all all Q n (o ∷ os) own each =
    either_way (AllByRecursion Q) (is_before all n o) (n ∷ o ∷ os) (o ∷ with_number all n os) (own, each) (each.0, with_all all Q n os own each.1)

sorted_all : (all : List (List ℤ)) (Q : ℕ → Type 0) (ns : List ℕ) → AllByRecursion Q ns → AllByRecursion Q (sorted_numbers all ns)
sorted_all all Q [] each = tt
sorted_all all Q (n ∷ ns) each = with_all all Q n (sorted_numbers all ns) each.0 (sorted_all all Q ns each.1)

less_than_all : (all : List (List ℤ)) (a b : ℕ) (ns : List ℕ) → compare_at all a b ≡ Less → AllByRecursion (λ m. compare_at all b m ≡ Less) ns → AllByRecursion (λ m. compare_at all a m ≡ Less) ns
less_than_all all a b [] less each = tt
less_than_all all a b (n ∷ ns) less each = ((number_total all).trans a b n less each.0, less_than_all all a b ns less each.1)

with_rises : (all : List (List ℤ)) (n : ℕ) (os : List ℕ) → AllByRecursion (λ m. compare_at all n m ≢ Equal) os → RisesIn all os → RisesIn all (with_number all n os)
with_rises all n [] apart rising = (tt, tt)
with_rises all n (o ∷ os) apart rising =
    elim (with_tells all n o os apart.0) [
      | inl first ↦ subst (λ (l : List ℕ). RisesIn all l) (sym first.1) ((first.0, less_than_all all n o os first.0 rising.0), rising)
      | inr later ↦ subst (λ (l : List ℕ). RisesIn all l) (sym later.1) (with_all all (λ m. compare_at all o m ≡ Less) n os later.0 rising.0, with_rises all n os apart.1 rising.1)
    ]

sorted_rises : (all : List (List ℤ)) (ns : List ℕ) → AreApart all ns → RisesIn all (sorted_numbers all ns)
sorted_rises all [] apart = tt
sorted_rises all (n ∷ ns) apart =
    with_rises all n (sorted_numbers all ns) (sorted_all all (λ m. compare_at all n m ≢ Equal) ns apart.0) (sorted_rises all ns apart.1)

exchanged : (n o : ℕ) (os : List ℕ) → IsPermutation (n ∷ o ∷ os) (o ∷ n ∷ os)
exchanged n o os = IsPermutation-append_left os (n ∷ o ∷ []) (o ∷ n ∷ []) (IsPermutation-append_comm (n ∷ []) (o ∷ []))

with_moves : (all : List (List ℤ)) (n : ℕ) (os : List ℕ) → IsPermutation (n ∷ os) (with_number all n os)
with_moves all n [] = IsPermutation-refl (n ∷ [])
with_moves all n (o ∷ os) =
    either_way (λ (l : List ℕ). IsPermutation (n ∷ o ∷ os) l) (is_before all n o) (n ∷ o ∷ os) (o ∷ with_number all n os) (IsPermutation-refl (n ∷ o ∷ os))
    (IsPermutation-trans (n ∷ o ∷ os) (o ∷ n ∷ os) (o ∷ with_number all n os) (exchanged n o os) (IsPermutation-cons o (n ∷ os) (with_number all n os) (with_moves all n os)))

sorted_moves : (all : List (List ℤ)) (ns : List ℕ) → IsPermutation ns (sorted_numbers all ns)
sorted_moves all [] = IsPermutation-refl []
sorted_moves all (n ∷ ns) =
    IsPermutation-trans (n ∷ ns) (n ∷ sorted_numbers all ns) (with_number all n (sorted_numbers all ns)) (IsPermutation-cons n ns (sorted_numbers all ns) (sorted_moves all ns)) (with_moves all n (sorted_numbers all ns))

-- all numbers in turn name all locations in turn
pub coordinates_after : (before : List (List ℤ)) (at : List ℤ) (more : List (List ℤ)) → location_at (before ++ (at ∷ more)) (length before) ≡ at
coordinates_after [] at more = refl
coordinates_after (b ∷ before) at more = coordinates_after before at more

coordinate_lists_after : (before more : List (List ℤ)) → map (location_at (before ++ more)) (count_from (length more) (length before)) ≡ more
coordinate_lists_after before [] = refl
coordinate_lists_after before (at ∷ more) =
    let head = coordinates_after before at more in
    let joined : (before ++ (at ∷ [])) ++ more ≡ before ++ (at ∷ more) = append_assoc before (at ∷ []) more in
    let counted : length (before ++ (at ∷ [])) ≡ length before + 1 = length_more before at in
    let rest : map (location_at (before ++ (at ∷ more))) (count_from (length more) (length before + 1)) ≡ more =
    sym (λ i. map (location_at (joined i)) (count_from (length more) (counted i))) ∙ coordinate_lists_after (before ++ (at ∷ [])) more in
    λ i. head i ∷ rest i
  where
    length_more : (xs : List (List ℤ)) (x : List ℤ) → length (xs ++ (x ∷ [])) ≡ length xs + 1
    length_more [] x = refl
    length_more (y ∷ xs) x = omega (arith, length_more xs x)

pub all_coordinate_lists : (all : List (List ℤ)) → map (location_at all) (count_from (length all) 0) ≡ all
all_coordinate_lists all = coordinate_lists_after [] all

-- so the locations of all numbers in another order are the same ones
pub coordinate_lists_moved : (all : List (List ℤ)) (ns : List ℕ) → IsPermutation (count_from (length all) 0) ns → IsPermutation all (locations_at all ns)
coordinate_lists_moved all ns moved =
    subst (λ (l : List (List ℤ)). IsPermutation l (locations_at all ns)) (all_coordinate_lists all) (IsPermutation-map (location_at all) (count_from (length all) 0) ns moved)

lengths_moved : (axes : ℕ) (ps qs : List (List ℤ)) → IsPermutation ps qs → AllByRecursion (λ at. length at ≡ axes) ps → AllByRecursion (λ at. length at ≡ axes) qs
lengths_moved axes ps qs moved each =
    recursion_from_All (λ at. length at ≡ axes) qs (All-permutation (λ at. length at ≡ axes) ps qs moved (All-from_recursion (λ at. length at ≡ axes) ps each))

-- the default has no axis, and no other location has none
default_rank : (at : List ℤ) → is_default at ≡ true → rank at ≡ 0
default_rank [] default = refl
default_rank (v ∷ vs) default =
    elim (rank_tells v vs) [
      | inl none ↦ none.1 ∙ default_rank vs (second_so (is_zero v) (is_default vs) default)
      | inr some ↦ absurd (some.0 (zero_tells v (first_so (is_zero v) (is_default vs) default)))
    ]
  where
    zero_tells : (w : ℤ) → is_zero w ≡ true → w ≡ pos 0
    zero_tells w none = elim (eq_tells w (pos 0)) [ inl e ↦ e.1 | inr e ↦ absurd (true≢false (sym none ∙ e.0)) ]

rank_default : (at : List ℤ) → rank at ≡ 0 → is_default at ≡ true
rank_default [] none = refl
rank_default (v ∷ vs) none =
    elim (rank_tells v vs) [
      | inl own ↦ both (is_zero v) (is_default vs) (zero_is v own.0) (rank_default vs (sym own.1 ∙ none))
      | inr own ↦ absurd (omega (arith, own.1, none))
    ]
  where
    zero_is : (w : ℤ) → w ≡ pos 0 → is_zero w ≡ true
    zero_is w e = elim (eq_tells w (pos 0)) [ inl at ↦ at.0 | inr off ↦ absurd (off.1 e) ]

    both : (a b : Bool) → a ≡ true → b ≡ true → (a && b) ≡ true
    both a b left right = cc

-- so the default, where it is among them, is the first
default_leads : (all locations : List (List ℤ)) → RisesBy (compare_masters all) locations → list_any is_default locations ≡ true → StartsWithDefault locations
default_leads all [] rising some = absurd (true≢false (sym some))
default_leads all (at ∷ later) rising some = by (is_default at) refl
  where
    least : (ls : List (List ℤ)) → AllByRecursion (λ other. compare_masters all at other ≡ Less) ls → list_any is_default ls ≡ true → rank at ≡ 0
    least [] each found = absurd (true≢false (sym found))
    least (l ∷ ls) each found = here (is_default l) refl (least ls each.1)
      where
        here : (b : Bool) → is_default l ≡ b → (list_any is_default ls ≡ true → rank at ≡ 0) → rank at ≡ 0
        here true e more = omega (arith, less_rank all at l each.0, default_rank l e)
        here false e more = more (sym (ap (λ (c : Bool). c || list_any is_default ls) e) ∙ found)

    by : (b : Bool) → is_default at ≡ b → is_default at ≡ true
    by true e = e
    by false e = rank_default at (least later rising.0 (sym (ap (λ (c : Bool). c || list_any is_default later) e) ∙ some))

-- rising numbers name rising locations, and the other way round
coordinate_lists_each : (all : List (List ℤ)) (compare : List ℤ → List ℤ → Ordering) → ((a b : List ℤ) → compare_masters all a b ≡ compare a b) → (n : ℕ) (ns : List ℕ) → AllByRecursion (λ m. compare_at all n m ≡ Less) ns → AllByRecursion (λ other. compare (location_at all n) other ≡ Less) (locations_at all ns)
coordinate_lists_each all compare same n [] each = tt
coordinate_lists_each all compare same n (m ∷ ns) each = (sym (same (location_at all n) (location_at all m)) ∙ each.0, coordinate_lists_each all compare same n ns each.1)

coordinate_lists_rise : (all : List (List ℤ)) (compare : List ℤ → List ℤ → Ordering) → ((a b : List ℤ) → compare_masters all a b ≡ compare a b) → (ns : List ℕ) → RisesIn all ns → RisesBy compare (locations_at all ns)
coordinate_lists_rise all compare same [] rising = tt
coordinate_lists_rise all compare same (n ∷ ns) rising = (coordinate_lists_each all compare same n ns rising.0, coordinate_lists_rise all compare same ns rising.1)

numbers_each : (all : List (List ℤ)) (compare : List ℤ → List ℤ → Ordering) → ((a b : List ℤ) → compare_masters all a b ≡ compare a b) → (n : ℕ) (ns : List ℕ) → AllByRecursion (λ other. compare (location_at all n) other ≡ Less) (locations_at all ns) → AllByRecursion (λ m. compare_at all n m ≡ Less) ns
numbers_each all compare same n [] each = tt
numbers_each all compare same n (m ∷ ns) each = (same (location_at all n) (location_at all m) ∙ each.0, numbers_each all compare same n ns each.1)

numbers_rise : (all : List (List ℤ)) (compare : List ℤ → List ℤ → Ordering) → ((a b : List ℤ) → compare_masters all a b ≡ compare a b) → (ns : List ℕ) → RisesBy compare (locations_at all ns) → RisesIn all ns
numbers_rise all compare same [] rising = tt
numbers_rise all compare same (n ∷ ns) rising = (numbers_each all compare same n ns rising.0, numbers_rise all compare same ns rising.1)

-- Numbers that rise and stand for all locations are their order.
pub is_order : (all : List (List ℤ)) (ns : List ℕ) → AllByRecursion (λ at. length at ≡ axes_of all) all → list_any is_default all ≡ true → IsPermutation (count_from (length all) 0) ns → RisesIn all ns → IsOrder all ns
is_order all ns same some moved rising =
    let coordinate_lists = coordinate_lists_moved all ns moved in
    let rise : RisesBy (compare_masters (locations_at all ns)) (locations_at all ns) = coordinate_lists_rise all (compare_masters (locations_at all ns)) (compare_permuted all (locations_at all ns) coordinate_lists) ns rising in
    record {
      all = moved;
      rising = record {
        default_first = default_leads (locations_at all ns) (locations_at all ns) rise (sym (list_any-IsPermutation is_default all (locations_at all ns) coordinate_lists) ∙ some);
        equal_lengths = lengths_moved (axes_of all) all (locations_at all ns) coordinate_lists same;
        rising = rise;
      };
    }

-- the number is one of the list
abbrev IsIn : ℕ → List ℕ → Type 0
IsIn n [] = ⊥
IsIn n (m ∷ ms) = (m ≡ n) ⊎ IsIn n ms

in_more : (n : ℕ) (ms ns : List ℕ) → AllByRecursion (λ k. IsIn k ms) ns → AllByRecursion (λ k. IsIn k (n ∷ ms)) ns
in_more n ms [] each = tt
in_more n ms (k ∷ ns) each = (inr each.0, in_more n ms ns each.1)

in_itself : (ns : List ℕ) → AllByRecursion (λ n. IsIn n ns) ns
in_itself [] = tt
in_itself (n ∷ ns) = (inl refl, in_more n ns ns (in_itself ns))

in_moved : (ms ns : List ℕ) → IsPermutation ms ns → AllByRecursion (λ n. IsIn n ns) ms
in_moved ms ns moved =
    recursion_from_All (λ n. IsIn n ns) ms (All-permutation (λ n. IsIn n ns) ns ms (IsPermutation-sym ms ns moved) (All-from_recursion (λ n. IsIn n ns) ns (in_itself ns)))

among_less : (all : List (List ℤ)) (n m : ℕ) (ms : List ℕ) → AllByRecursion (λ k. compare_at all n k ≡ Less) ms → IsIn m ms → compare_at all n m ≡ Less
among_less all n m [] each here = absurd here
among_less all n m (k ∷ ms) each (inl here) = subst (λ (j : ℕ). compare_at all n j ≡ Less) here each.0
among_less all n m (k ∷ ms) each (inr there) = among_less all n m ms each.1 there

tails_in : (all : List (List ℤ)) (n m : ℕ) (ms ns : List ℕ) → n ≡ m → AllByRecursion (λ k. compare_at all n k ≡ Less) ns → AllByRecursion (λ k. IsIn k (m ∷ ms)) ns → AllByRecursion (λ k. IsIn k ms) ns
tails_in all n m ms [] same less each = tt
tails_in all n m ms (k ∷ ns) same less each = (
  elim each.0 [
    | inl here ↦ absurd (not_both all n n (subst (λ (j : ℕ). compare_at all n j ≡ Less) (sym (same ∙ here)) less.0) (subst (λ (j : ℕ). compare_at all n j ≡ Less) (sym (same ∙ here)) less.0))
    | inr there ↦ there
  ],
  tails_in all n m ms ns same less.1 each.1,
)

rising_same : (all : List (List ℤ)) (ns ms : List ℕ) → RisesIn all ns → RisesIn all ms → AllByRecursion (λ k. IsIn k ms) ns → AllByRecursion (λ k. IsIn k ns) ms → ns ≡ ms
rising_same all [] [] left right into back = refl
rising_same all [] (m ∷ ms) left right into back = absurd back.0
rising_same all (n ∷ ns) [] left right into back = absurd into.0
rising_same all (n ∷ ns) (m ∷ ms) left right into back =
    let heads : n ≡ m = elim into.0 [
      | inl here ↦ sym here
      | inr there ↦ elim back.0 [
        | inl here ↦ here
        | inr other ↦ absurd (not_both all n m (among_less all n m ns left.0 other) (among_less all m n ms right.0 there))
      ]
    ] in
    let rest = rising_same all ns ms left.1 right.1 (tails_in all n m ms ns heads left.0 into.1) (tails_in all m n ns ms (sym heads) right.0 back.1) in
    λ i. heads i ∷ rest i

-- There is one order at most.
pub order_law : (all : List (List ℤ)) (ns ms : List ℕ) → IsOrder all ns → IsOrder all ms → ns ≡ ms
order_law all ns ms first second =
    let moved = IsPermutation-trans ns (count_from (length all) 0) ms (IsPermutation-sym (count_from (length all) 0) ns first.all) second.all in
    rising_same all ns ms
    (numbers_rise all (compare_masters (locations_at all ns)) (compare_permuted all (locations_at all ns) (coordinate_lists_moved all ns first.all)) ns first.rising.rising)
    (numbers_rise all (compare_masters (locations_at all ms)) (compare_permuted all (locations_at all ms) (coordinate_lists_moved all ms second.all)) ms second.rising.rising)
    (in_moved ns ms moved)
    (in_moved ms ns (IsPermutation-sym ns ms moved))

-- where no location repeats an earlier one, all are different
position_none : (p : List ℤ → Bool) (n : ℕ) (xs : List (List ℤ)) → position_from p n xs ≡ None → AllByRecursion (λ x. p x ≡ false) xs
position_none p n [] none = tt
position_none p n (x ∷ xs) none = by (p x) refl (position_none p (n + 1) xs)
  where
    some_not_none : Some n ≡ None → ⊥
    some_not_none e = cc

    by : (b : Bool) → p x ≡ b → (position_from p (n + 1) xs ≡ None → AllByRecursion (λ y. p y ≡ false) xs) → (p x ≡ false) × AllByRecursion (λ y. p y ≡ false) xs
    by true e more = absurd (some_not_none (sym (ap (λ (b : Bool). if b then Some n else position_from p (n + 1) xs) e) ∙ none))
    by false e more = (e, more (sym (ap (λ (b : Bool). if b then Some n else position_from p (n + 1) xs) e) ∙ none))

repeat_none : (n : ℕ) (first : Option ℕ) (later : Option (ℕ × ℕ)) → repeat_or n first later ≡ None → (first ≡ None) × (later ≡ None)
repeat_none n (Some k) later none = absurd (some_not_none none)
  where
    some_not_none : repeat_or n (Some k) later ≡ None → ⊥
    some_not_none e = cc
repeat_none n None later none = (refl, none)

last_and_rest : (earlier : List (List ℤ)) (at other : List ℤ) → AllByRecursion (λ e. is_same_location other e ≡ false) (earlier ++ (at ∷ [])) → AllByRecursion (λ e. is_same_location other e ≡ false) earlier × (is_same_location other at ≡ false)
last_and_rest [] at other each = (tt, each.0)
last_and_rest (e ∷ earlier) at other each = let more = last_and_rest earlier at other each.1 in ((each.0, more.0), more.1)

split_last : (earlier : List (List ℤ)) (at : List ℤ) (later : List (List ℤ)) → AllByRecursion (λ other. AllByRecursion (λ e. is_same_location other e ≡ false) (earlier ++ (at ∷ []))) later
    → AllByRecursion (λ other. AllByRecursion (λ e. is_same_location other e ≡ false) earlier) later × AllByRecursion (λ other. is_same_location at other ≡ false) later
split_last earlier at [] each = (tt, tt)
split_last earlier at (other ∷ later) each =
    let own = last_and_rest earlier at other each.0 in
    let more = split_last earlier at later each.1 in
    ((own.0, more.0), ((lists_equiv int_eq_equiv).symm at other ∙ own.1, more.1))

all_differ : (earlier later : List (List ℤ)) → first_repeat earlier later ≡ None → AllByRecursion (λ other. AllByRecursion (λ e. is_same_location other e ≡ false) earlier) later × IsDistinct is_same_location later
unfolding IsDistinct
all_differ earlier [] none = (tt, tt)
all_differ earlier (at ∷ later) none =
    let parts = repeat_none (length earlier) (position (is_same_location at) earlier) (first_repeat (earlier ++ (at ∷ [])) later) none in
    let more = all_differ (earlier ++ (at ∷ [])) later parts.1 in
    let split = split_last earlier at later more.0 in
    ((position_none (is_same_location at) 0 earlier (sym (position_from-zero (is_same_location at) earlier) ∙ parts.0), split.0), (split.1, more.1))

pub coordinate_lists_differ : (all : List (List ℤ)) → first_repeat [] all ≡ None → IsDistinct is_same_location all
coordinate_lists_differ all none = (all_differ [] all none).1

-- and so no two numbers tie, in any order
apart_each : (all : List (List ℤ)) (axes n : ℕ) (ns : List ℕ) → length (location_at all n) ≡ axes → AllByRecursion (λ at. length at ≡ axes) (locations_at all ns) → AllByRecursion (λ other. is_same_location (location_at all n) other ≡ false) (locations_at all ns) → AllByRecursion (λ m. compare_at all n m ≢ Equal) ns
apart_each all axes n [] own same differ = tt
apart_each all axes n (m ∷ ns) own same differ = (
  λ tie. true≢false (sym (subst (λ (w : List ℤ). is_same_location (location_at all n) w ≡ true) (compare_equal all (location_at all n) (location_at all m) (own ∙ sym same.0) tie) ((lists_equiv int_eq_equiv).refl (location_at all n))) ∙ differ.0),
  apart_each all axes n ns own same.1 differ.1,
)

pub apart : (all : List (List ℤ)) (axes : ℕ) (ns : List ℕ) → AllByRecursion (λ at. length at ≡ axes) (locations_at all ns) → IsDistinct is_same_location (locations_at all ns) → AreApart all ns
apart all axes [] same differ = tt
apart all axes (n ∷ ns) same differ = (
  apart_each all axes n ns same.0 same.1 (IsDistinct-head is_same_location (location_at all n) (locations_at all ns) differ),
  apart all axes ns same.1 (IsDistinct-tail is_same_location (location_at all n) (locations_at all ns) differ),
)

pub apart_moved : (all : List (List ℤ)) (axes : ℕ) (ns : List ℕ) → AllByRecursion (λ at. length at ≡ axes) all → first_repeat [] all ≡ None → IsPermutation (count_from (length all) 0) ns → AreApart all ns
apart_moved all axes ns same none moved =
    let coordinate_lists = coordinate_lists_moved all ns moved in
    apart all axes ns (lengths_moved axes all (locations_at all ns) coordinate_lists same)
    (IsDistinct-IsPermutation is_same_location (λ x y. (lists_equiv int_eq_equiv).symm x y) all (locations_at all ns) coordinate_lists (coordinate_lists_differ all none))

-- The definition's numbers are the order, where there is one.
pub order_is : (all : List (List ℤ)) → AllByRecursion (λ at. length at ≡ axes_of all) all → list_any is_default all ≡ true → first_repeat [] all ≡ None → IsOrder all (order_of all)
order_is all same some none =
    let numbers = count_from (length all) 0 in
    is_order all (order_of all) same some (sorted_moves all numbers) (sorted_rises all numbers (apart_moved all (axes_of all) numbers same none (IsPermutation-refl numbers)))
