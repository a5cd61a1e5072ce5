-- The loops over points: the differences summed up, and all numbers below the total.
use Rattle.std.proofs.Common.{◌≡◌, ℕ, zero, suc, ◌+◌, ◌≤◌, ◌<◌, true, false, ltb, leb, ◌||◌, List, [], ◌∷◌, ◌++◌, length, get_or, drop, Option, Some, None, refl, sym, ap, ◌∙◌, append_assoc, add-zero, add-one, zero-add, arith}
use Rattle.std.proofs.lemmas.Bool.{le-ltb, lt-leb, or_from}
use Rattle.std.proofs.lemmas.List.{append-nil, at_drop_more, at_drop_all}
use Rattle.variation_rules.specs.PackedPoints.{count_from}
use Rattle.variation_decoder.specs.Points.{rising}
use Rattle.basics.specs.Optional.{◌>>=◌}

-- what was found before, before what is still found
abbrev pub after : {A : Type 0} → List A → Option (List A) → Option (List A)
after prefix read = read >>= λ xs. Some (prefix ++ xs)

regroup : {A : Type 0} (prefix : List A) (x : A) (read : Option (List A)) → after prefix (read >>= λ xs. Some (x ∷ xs)) ≡ after (prefix ++ x ∷ []) read
regroup prefix x (Some xs) = ap Some (sym (append_assoc prefix (x ∷ []) xs))
regroup prefix x None = refl

-- the difference at this index leads to the point
pub rising_goes_on : (prefix : List ℕ) (before low end i point : ℕ) (differences : List ℕ) (total : Option (List ℕ)) → i < length differences → point ≡ before + get_or differences i 0 → low ≤ point → point < end
    → after prefix (rising before low end (drop i differences)) ≡ total
    → after (prefix ++ point ∷ []) (rising point (point + 1) end (drop (i + 1) differences)) ≡ total
unfolding rising
rising_goes_on prefix before low end i point differences total lt sum least below so_far =
    let fine : (ltb point low || leb end point) ≡ false = or_from _ _ (le-ltb _ _ least) (lt-leb _ _ below) in
    let one : after prefix (rising before low end (drop i differences)) ≡ after (prefix ++ point ∷ []) (rising point (point + 1) end (drop (i + 1) differences)) =
    rw (at_drop_more (rising before low end) differences i 0 lt, ← sum, fine) (regroup prefix point (rising point (point + 1) end (drop (i + 1) differences))) in
    sym one ∙ so_far

pub rising_stops : (prefix : List ℕ) (before low end i point : ℕ) (differences : List ℕ) (total : Option (List ℕ)) → i < length differences → point ≡ before + get_or differences i 0 → (ltb point low || leb end point) ≡ true
    → after prefix (rising before low end (drop i differences)) ≡ total → total ≡ None
unfolding rising
rising_stops prefix before low end i point differences total lt sum stop so_far =
    let one : after prefix (rising before low end (drop i differences)) ≡ None = rw (at_drop_more (rising before low end) differences i 0 lt, ← sum, stop) refl in
    sym so_far ∙ one

pub rising_is_done : (prefix : List ℕ) (before low end i : ℕ) (differences : List ℕ) (total : Option (List ℕ)) → length differences ≤ i
    → after prefix (rising before low end (drop i differences)) ≡ total → total ≡ Some prefix
unfolding rising
rising_is_done prefix before low end i differences total le so_far =
    let one : after prefix (rising before low end (drop i differences)) ≡ Some prefix = rw (at_drop_all (rising before low end) differences i le) (ap Some (append-nil prefix)) in
    sym so_far ∙ one

-- one number more
count_from_suc : (n first : ℕ) → count_from (suc n) first ≡ count_from n first ++ (first + n) ∷ []
count_from_suc zero first = ap (λ (k : ℕ). k ∷ []) (sym (add-zero first))
count_from_suc (suc n) first =
    let next : first + 1 + n ≡ first + suc n = omega arith in
    ap (λ (ks : List ℕ). first ∷ ks) (count_from_suc n (first + 1) ∙ ap (λ (k : ℕ). count_from n (first + 1) ++ k ∷ []) next)

pub count_from_more : (n : ℕ) → count_from (n + 1) 0 ≡ count_from n 0 ++ n ∷ []
count_from_more n = rw add-one (count_from_suc n 0 ∙ ap (λ (k : ℕ). count_from n 0 ++ k ∷ []) (zero-add n))
