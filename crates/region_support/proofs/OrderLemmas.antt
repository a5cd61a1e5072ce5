-- The keys order locations totally, and tell any two of equal length apart.
use Rattle.std.proofs.Common.{◌≡◌, ◌≢◌, refl, sym, ◌∙◌, ℕ, ℤ, pos, ◌+◌, ◌≤◌, Bool, true, false, inl, inr, List, [], ◌∷◌, length, map, Ordering, Less, Equal, Greater, arith}
use Rattle.std.specs.Prelude.{IsPermutation, unsigned_abs, not, ◌&&◌, nat_eq, if◌then◌else◌}
use Rattle.std.specs.Cmp.{IsTotalOrder, bool_cmp_total}
use Rattle.std.specs.Cmp.Lexicographic.{slice_cmp}
use Rattle.std.specs.Ordering.{nat_cmp, bool_cmp, int_eq, ordering_then}
use Rattle.std.proofs.lemmas.Cmp.{on_total, then_total, back_total, lists_total, nat_cmp_total, nat_list_cmp_total}
use Rattle.std.proofs.lemmas.Int.{ints}
use Rattle.std.proofs.lemmas.List.Sorted.{list_any-IsPermutation}
use Rattle.std.proofs.lemmas.Map.Lookups.{exact_bytes}
use Rattle.region_support.specs.MasterOrder.{is_zero, values_of, axes_from, rank, value_on, is_axis_point, points_from, is_above, compare_masters}
use Rattle.region_support.proofs.AxisLemmas.{eq_tells}

pub compare_total : (all : List (List ℤ)) → IsTotalOrder (compare_masters all)
compare_total all =
    then_total (on_total rank nat_cmp_total)
    (then_total (back_total (on_total (points_from all 0) nat_cmp_total))
    (then_total (on_total (axes_from 0) nat_list_cmp_total)
    (then_total (on_total (λ at. map is_above (values_of at)) (lists_total bool_cmp_total))
    (on_total (λ at. map unsigned_abs (values_of at)) nat_list_cmp_total))))

-- a location that is before another has no more axes
first_key : (a b : ℕ) (o : Ordering) → ordering_then (nat_cmp a b) o ≡ Less → a ≤ b
first_key a b o less = grind arith

pub less_rank : (all : List (List ℤ)) (a b : List ℤ) → compare_masters all a b ≡ Less → rank a ≤ rank b
less_rank all a b less =
    first_key (rank a) (rank b) (ordering_then (nat_cmp (points_from all 0 b) (points_from all 0 a)) (ordering_then (slice_cmp nat_cmp (axes_from 0 a) (axes_from 0 b)) (ordering_then (slice_cmp bool_cmp (map is_above (values_of a)) (map is_above (values_of b))) (slice_cmp nat_cmp (map unsigned_abs (values_of a)) (map unsigned_abs (values_of b)))))) less

-- two keys tie where both do
then_equal : (a b : Ordering) → ordering_then a b ≡ Equal → (a ≡ Equal) × (b ≡ Equal)
then_equal Less b tie = absurd (differ tie)
  where
    differ : Less ≡ Equal → ⊥
    differ e = cc
then_equal Equal b tie = (refl, tie)
then_equal Greater b tie = absurd (differ tie)
  where
    differ : Greater ≡ Equal → ⊥
    differ e = cc

bool_equal : (a b : Bool) → bool_cmp a b ≡ Equal → a ≡ b
bool_equal true true tie = refl
bool_equal true false tie = cc
bool_equal false true tie = cc
bool_equal false false tie = refl

bools_equal : (xs ys : List Bool) → slice_cmp bool_cmp xs ys ≡ Equal → xs ≡ ys
bools_equal [] [] tie = refl
bools_equal [] (b ∷ ys) tie = cc
bools_equal (a ∷ xs) [] tie = cc
bools_equal (a ∷ xs) (b ∷ ys) tie =
    let both = then_equal (bool_cmp a b) (slice_cmp bool_cmp xs ys) tie in
    let head = bool_equal a b both.0 in
    let rest = bools_equal xs ys both.1 in
    cc

-- the side and the distance tell a value
value_is : (v w : ℤ) → is_above v ≡ is_above w → unsigned_abs v ≡ unsigned_abs w → v ≡ w
value_is v w side distance = grind (arith, ints)

values_are : (vs ws : List ℤ) → map is_above vs ≡ map is_above ws → map unsigned_abs vs ≡ map unsigned_abs ws → vs ≡ ws
values_are [] [] sides distances = refl
values_are [] (w ∷ ws) sides distances = cc
values_are (v ∷ vs) [] sides distances = cc
values_are (v ∷ vs) (w ∷ ws) sides distances =
    let side : is_above v ≡ is_above w = cc in
    let distance : unsigned_abs v ≡ unsigned_abs w = cc in
    let more_sides : map is_above vs ≡ map is_above ws = cc in
    let more_distances : map unsigned_abs vs ≡ map unsigned_abs ws = cc in
    let head = value_is v w side distance in
    let rest = values_are vs ws more_sides more_distances in
    cc

-- the axes with their values tell a location
axes_zero : (n : ℕ) (v : ℤ) (vs : List ℤ) → v ≡ pos 0 → (axes_from n (v ∷ vs) ≡ axes_from (n + 1) vs) × (values_of (v ∷ vs) ≡ values_of vs)
axes_zero n v vs none = (grind (arith, ints), grind (arith, ints))

axes_some : (n : ℕ) (v : ℤ) (vs : List ℤ) → v ≢ pos 0 → (axes_from n (v ∷ vs) ≡ n ∷ axes_from (n + 1) vs) × (values_of (v ∷ vs) ≡ v ∷ values_of vs)
axes_some n v vs some = (grind (arith, ints), grind (arith, ints))

axes_beyond : (n axis : ℕ) (vs : List ℤ) (more : List ℕ) → axes_from n vs ≡ axis ∷ more → n ≤ axis
axes_beyond n axis [] more e = absurd (ends e)
  where
    ends : [] ≡ axis ∷ more → ⊥
    ends e = cc
axes_beyond n axis (v ∷ vs) more e =
    elim (eq_tells v (pos 0)) [
      | inl none ↦ omega (arith, axes_beyond (n + 1) axis vs more (sym (axes_zero n v vs none.1).0 ∙ e))
      | inr some ↦ same_head n axis (axes_from (n + 1) vs) more (sym (axes_some n v vs some.1).0 ∙ e)
    ]
  where
    same_head : (a b : ℕ) (xs ys : List ℕ) → a ∷ xs ≡ b ∷ ys → a ≤ b
    same_head a b xs ys e = let heads : a ≡ b = cc in omega (arith, heads)

coordinates_is : (n : ℕ) (a b : List ℤ) → length a ≡ length b → axes_from n a ≡ axes_from n b → values_of a ≡ values_of b → a ≡ b
coordinates_is n [] [] same axes values = refl
coordinates_is n [] (w ∷ ws) same axes values = absurd (omega arith)
coordinates_is n (v ∷ vs) [] same axes values = absurd (omega arith)
coordinates_is n (v ∷ vs) (w ∷ ws) same axes values =
    elim (eq_tells v (pos 0)) [
      | inl left ↦ elim (eq_tells w (pos 0)) [
        | inl right ↦
            let rest = coordinates_is (n + 1) vs ws (omega arith) (sym (axes_zero n v vs left.1).0 ∙ (axes ∙ (axes_zero n w ws right.1).0)) (sym (axes_zero n v vs left.1).1 ∙ (values ∙ (axes_zero n w ws right.1).1)) in
            let heads : v ≡ w = left.1 ∙ sym right.1 in
            cc
        | inr right ↦ absurd (omega (arith, axes_beyond (n + 1) n vs (axes_from (n + 1) ws) (sym (axes_zero n v vs left.1).0 ∙ (axes ∙ (axes_some n w ws right.1).0))))
      ]
      | inr left ↦ elim (eq_tells w (pos 0)) [
        | inl right ↦ absurd (omega (arith, axes_beyond (n + 1) n ws (axes_from (n + 1) vs) (sym (axes_zero n w ws right.1).0 ∙ (sym axes ∙ (axes_some n v vs left.1).0))))
        | inr right ↦
            let both_axes = sym (axes_some n v vs left.1).0 ∙ (axes ∙ (axes_some n w ws right.1).0) in
            let both_values = sym (axes_some n v vs left.1).1 ∙ (values ∙ (axes_some n w ws right.1).1) in
            let heads : v ≡ w = cc in
            let more_axes : axes_from (n + 1) vs ≡ axes_from (n + 1) ws = cc in
            let more_values : values_of vs ≡ values_of ws = cc in
            let rest = coordinates_is (n + 1) vs ws (omega arith) more_axes more_values in
            cc
      ]
    ]

-- two locations of equal length tie only where they are equal
pub compare_equal : (all : List (List ℤ)) (a b : List ℤ) → length a ≡ length b → compare_masters all a b ≡ Equal → a ≡ b
compare_equal all a b same tie =
    let sizes = slice_cmp nat_cmp (map unsigned_abs (values_of a)) (map unsigned_abs (values_of b)) in
    let sides = slice_cmp bool_cmp (map is_above (values_of a)) (map is_above (values_of b)) in
    let axes = slice_cmp nat_cmp (axes_from 0 a) (axes_from 0 b) in
    let points = nat_cmp (points_from all 0 b) (points_from all 0 a) in
    let second = (then_equal (nat_cmp (rank a) (rank b)) (ordering_then points (ordering_then axes (ordering_then sides sizes))) tie).1 in
    let third = (then_equal points (ordering_then axes (ordering_then sides sizes)) second).1 in
    let fourth = then_equal axes (ordering_then sides sizes) third in
    let fifth = then_equal sides sizes fourth.1 in
    coordinates_is 0 a b same (exact_bytes (axes_from 0 a) (axes_from 0 b) fourth.0)
    (values_are (values_of a) (values_of b) (bools_equal (map is_above (values_of a)) (map is_above (values_of b)) fifth.0) (exact_bytes (map unsigned_abs (values_of a)) (map unsigned_abs (values_of b)) fifth.1))

-- the order of two locations doesn't depend on how the masters are listed
points_permuted : (ps qs : List (List ℤ)) → IsPermutation ps qs → (axis : ℕ) (at : List ℤ) → points_from ps axis at ≡ points_from qs axis at
points_permuted ps qs moved axis [] = refl
points_permuted ps qs moved axis (v ∷ vs) =
    let here : is_axis_point ps axis v ≡ is_axis_point qs axis v = list_any-IsPermutation (λ other. nat_eq (rank other) 1 && int_eq (value_on axis other) v) ps qs moved in
    let more = points_permuted ps qs moved (axis + 1) vs in
    λ i. (if not (is_zero v) && here i then 1 else 0) + more i

pub compare_permuted : (ps qs : List (List ℤ)) → IsPermutation ps qs → (a b : List ℤ) → compare_masters ps a b ≡ compare_masters qs a b
compare_permuted ps qs moved a b =
    let left = points_permuted ps qs moved 0 a in
    let right = points_permuted ps qs moved 0 b in
    λ i. ordering_then (nat_cmp (rank a) (rank b))
    (ordering_then (nat_cmp (right i) (left i))
    (ordering_then (slice_cmp nat_cmp (axes_from 0 a) (axes_from 0 b))
    (ordering_then (slice_cmp bool_cmp (map is_above (values_of a)) (map is_above (values_of b)))
    (slice_cmp nat_cmp (map unsigned_abs (values_of a)) (map unsigned_abs (values_of b))))))
