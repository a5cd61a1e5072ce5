-- Rows with their regions: the indexes of all regions pick them in their order, and a row's value is a sum over regions.
use Rattle.std.proofs.Common.{◌≡◌, ℕ, ℤ, zero, suc, ◌+◌, ◌≤◌, ◌<◌, ◌^◌, ◌+ℤ◌, ◌*ℤ◌, List, [], ◌∷◌, ◌++◌, length, length-append, Option, Some, refl, sym, ap, ◌∙◌, append_assoc, arith}
use Rattle.std.proofs.lemmas.List.{append-nil}
use Rattle.std.proofs.lemmas.Grind.{flat_map-append}
use Rattle.std.specs.Prelude.{slice_get}
use Rattle.std.specs.List.{AllByRecursion, flat_map, zip}
use Rattle.basics.specs.Optional.{◌>>=◌}
use Rattle.variation_rules.specs.PackedPoints.{count_from}
use Rattle.variation_rules.specs.Scalar.{scalar_of}
use Rattle.variation_rules.specs.declared.region.Triple.{Triple}
use Rattle.item_var_store.specs.DeltaSets.{delta_set_in, value_in, value_of, weighted_sum, with_regions}
use Rattle.item_var_store.specs.Rows.{HasRows}
use Rattle.item_var_store.specs.Store.{Store}

-- ---- numbers counted up

pub count_length : (n first : ℕ) → length (count_from n first) ≡ n
count_length zero first = refl
count_length (suc n) first = omega (arith, count_length n (first + 1))

pub counted_words : (n first : ℕ) → first + n ≤ 2 ^ 16 → AllByRecursion (λ k. k < 2 ^ 16) (count_from n first)
counted_words zero first within = tt
counted_words (suc n) first within = (omega arith, counted_words n (first + 1) (omega arith))

-- one number more
count_more : (n first : ℕ) → count_from (suc n) first ≡ count_from n first ++ (first + n) ∷ []
count_more zero first =
    let last : first ≡ first + 0 = omega arith in
    ap (λ (k : ℕ). k ∷ []) last
count_more (suc n) first =
    let last : (first + 1) + n ≡ first + suc n = omega arith in
    ap (λ (xs : List ℕ). first ∷ xs) (count_more n (first + 1) ∙ ap (λ (k : ℕ). count_from n (first + 1) ++ k ∷ []) last)

pub index_more : (spell : ℕ → List ℕ) (n : ℕ) → flat_map spell (count_from (n + 1) 0) ≡ flat_map spell (count_from n 0) ++ spell n
index_more spell n =
    let next : n + 1 ≡ suc n = omega arith in
    let last : 0 + n ≡ n = omega arith in
    ap (λ (k : ℕ). flat_map spell (count_from k 0)) next
    ∙ ap (flat_map spell) (count_more n 0 ∙ ap (λ (k : ℕ). count_from n 0 ++ k ∷ []) last)
    ∙ flat_map-append spell (count_from n 0) (n ∷ [])
    ∙ ap (λ (own : List ℕ). flat_map spell (count_from n 0) ++ own) (append-nil (spell n))

-- ---- the regions of a row

pub at_seam : {A : Type 0} (before : List A) (x : A) (after : List A) → slice_get (before ++ x ∷ after) (length before) ≡ Some x
at_seam [] x after = refl
at_seam (y ∷ before) x after = at_seam before x after

one_more : (all : List (List Triple)) (index : ℕ) (indexes : List ℕ) (region : List Triple) (delta : ℤ) (deltas : List ℤ) (more : List (List Triple × ℤ)) → slice_get all index ≡ Some region → with_regions all indexes deltas ≡ Some more → with_regions all (index ∷ indexes) (delta ∷ deltas) ≡ Some ((region, delta) ∷ more)
one_more all index indexes region delta deltas more a b = rw (a, b) refl

-- the indexes of the regions after some others pick these
picked : (before regions : List (List Triple)) (row : List ℤ) → length row ≡ length regions → with_regions (before ++ regions) (count_from (length regions) (length before)) row ≡ Some (zip regions row)
picked before [] [] same = refl
picked before [] (delta ∷ row) same = absurd (omega arith)
picked before (region ∷ regions) [] same = absurd (omega arith)
picked before (region ∷ regions) (delta ∷ row) same =
    let all : List (List Triple) = before ++ region ∷ regions in
    let whole : (before ++ region ∷ []) ++ regions ≡ all = append_assoc before (region ∷ []) regions in
    let next : length (before ++ region ∷ []) ≡ length before + 1 = omega (arith, length-append before (region ∷ [])) in
    let more : with_regions all (count_from (length regions) (length before + 1)) row ≡ Some (zip regions row) =
    ap (λ (k : ℕ). with_regions all (count_from (length regions) k) row) (sym next)
    ∙ ap (λ (rs : List (List Triple)). with_regions rs (count_from (length regions) (length (before ++ region ∷ []))) row) (sym whole)
    ∙ picked (before ++ region ∷ []) regions row (omega arith) in
    one_more all (length before) (count_from (length regions) (length before + 1)) region delta row (zip regions row) (at_seam before region regions) more

-- what each of a list gives is the same for the item of any number
same_at : {A B : Type 0} (f g : A → Option B) (xs : List A) → AllByRecursion (λ x. f x ≡ g x) xs → (k : ℕ) → (slice_get xs k >>= f) ≡ (slice_get xs k >>= g)
same_at f g [] each k = refl
same_at f g (x ∷ xs) each zero = each.0
same_at f g (x ∷ xs) each (suc k) = same_at f g xs each.1 k

each_picked : (regions : List (List Triple)) (rows : List (List ℤ)) → AllByRecursion (λ row. length row ≡ length regions) rows → AllByRecursion (λ row. with_regions regions (count_from (length regions) 0) row ≡ Some (zip regions row)) rows
each_picked regions [] each = tt
each_picked regions (row ∷ rows) each = (picked [] regions row each.0, each_picked regions rows each.1)

-- ---- the value of a row

sum_is : (regions : List (List Triple)) (row at : List ℤ) → value_of (zip regions row) at ≡ weighted_sum regions row at
sum_is [] row at = refl
sum_is (region ∷ regions) [] at = refl
sum_is (region ∷ regions) (delta ∷ row) at = ap (λ (sum : ℤ). (scalar_of 16 region at *ℤ delta) +ℤ sum) (sum_is regions row at)

read_value : (store : Store) (inner : ℕ) (at : List ℤ) (pairs : List (List Triple × ℤ)) → delta_set_in store 0 inner ≡ Some pairs → value_in store 0 inner at ≡ Some (value_of pairs at)
read_value store inner at pairs a = rw a refl

of_row : (regions : List (List Triple)) (rows : List (List ℤ)) (k : ℕ) (row : List ℤ) → slice_get rows k ≡ Some row → (slice_get rows k >>= λ (own : List ℤ). Some (zip regions own)) ≡ Some (zip regions row)
of_row regions rows k row a = rw a refl

-- ---- the store

abbrev pub store_of : ℕ → List (List Triple) → List (List ℤ) → Store
store_of axes regions rows =
    record { axes = axes; regions = regions; item_data = record { indexes = count_from (length regions) 0; rows = rows } ∷ [] }

pub has_rows : (axes : ℕ) (regions : List (List Triple)) (rows : List (List ℤ)) → AllByRecursion (λ row. length row ≡ length regions) rows → HasRows axes regions rows (store_of axes regions rows)
has_rows axes regions rows each =
    let store : Store = store_of axes regions rows in
    let each_row : (g : ℕ) → delta_set_in store 0 g ≡ (slice_get rows g >>= λ (row : List ℤ). Some (zip regions row)) =
    same_at (with_regions regions (count_from (length regions) 0)) (λ row. Some (zip regions row)) rows (each_picked regions rows each) in
    record {
      axes_are = refl;
      regions_are = refl;
      row_is = each_row;
      value_is = λ g row at is.
          read_value store g at (zip regions row) (each_row g ∙ of_row regions rows g row is) ∙ ap Some (sum_is regions row at);
    }
