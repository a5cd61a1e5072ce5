-- The first of a list that passes a test: where it stands, and the list without it.
use Rattle.std.proofs.Common.{◌≡◌, ◌≤◌, ◌<◌, ℕ, ◌+◌, Bool, true, false, cond, ltb, List, [], ◌∷◌, length, drop, get_or, Option, Some, None, refl, sym, ◌∙◌, ap, arith, one-add}
use Rattle.std.specs.Prelude.{find, position, slice_get, remove}
use Rattle.std.specs.List.{position_or_len}
use Rattle.std.proofs.lemmas.Bool.{lt-ltb, ltb-true, ltb-false, le-ltb}
use Rattle.std.proofs.lemmas.Option.{slice_get_read, slice_get_past}
use Rattle.std.proofs.lemmas.List.{drop_more, drop_all}
use Rattle.std.proofs.lemmas.List.Folds.{find_at}
use Rattle.std.proofs.lemmas.List.Sums.{passes_at_first}
use Rattle.vfb.specs.Named.{without}

-- ---- a search that has passed the first n of the list

pub record HasPassed {A : Type 0} (test : A → Bool) (xs : List A) (n : ℕ) : Type 0 where
  pub rest : position_or_len test xs ≡ n + position_or_len test (drop n xs)

pub none_passed : {A : Type 0} (test : A → Bool) (xs : List A) → HasPassed test xs 0
none_passed test xs = record { rest = omega arith }

fails : {A : Type 0} (test : A → Bool) (x : A) (xs : List A) → test x ≡ false → position_or_len test (x ∷ xs) ≡ 1 + position_or_len test xs
fails test x xs is = rw is refl

passes : {A : Type 0} (test : A → Bool) (x : A) (xs : List A) → test x ≡ true → position_or_len test (x ∷ xs) ≡ 0
passes test x xs is = rw is refl

pub one_passed : {A : Type 0} (test : A → Bool) (xs : List A) (n : ℕ) (x : A) → HasPassed test xs n → n < length xs → x ≡ get_or xs n x → test x ≡ false → HasPassed test xs (n + 1)
one_passed test xs n x before less is fail =
    let here = drop_more xs n x less ∙ ap (λ y. y ∷ drop (n + 1) xs) (sym is) in
    let step = ap (position_or_len test) here ∙ fails test x (drop (n + 1) xs) fail in
    record { rest = omega (arith, before.rest, step) }

number_of_first : {A : Type 0} (test : A → Bool) (xs : List A) (n : ℕ) → position_or_len test xs ≡ n → n < length xs → Some n ≡ position test xs
number_of_first test xs n at less =
    sym (ap (λ k. cond (ltb k (length xs)) (Some k) None) at ∙ ap (λ b. cond b (Some n) None) (lt-ltb n (length xs) less))

pub found : {A : Type 0} (test : A → Bool) (xs : List A) (n : ℕ) (x : A) → HasPassed test xs n → n < length xs → x ≡ get_or xs n x → test x ≡ true → Some n ≡ position test xs
found test xs n x before less is pass =
    let here = drop_more xs n x less ∙ ap (λ y. y ∷ drop (n + 1) xs) (sym is) in
    let step = ap (position_or_len test) here ∙ passes test x (drop (n + 1) xs) pass in
    number_of_first test xs n (omega (arith, before.rest, step)) less

pub not_found : {A : Type 0} (test : A → Bool) (xs : List A) (n : ℕ) → HasPassed test xs n → length xs ≤ n → (let none : Option ℕ = None in none ≡ position test xs)
not_found test xs n before ends =
    let all = ap (position_or_len test) (drop_all n xs ends) in
    sym (ap (λ b. cond b (Some (position_or_len test xs)) None) (le-ltb (position_or_len test xs) (length xs) (omega (arith, before.rest, all))))

-- ---- the first that passes is taken out

some_cond : (is : Bool) (a n : ℕ) → (let found : Option ℕ = Some n in found ≡ cond is (Some a) None) → (is ≡ true) × (n ≡ a)
some_cond true a n same = (refl, cc)
some_cond false a n same = cc

none_cond : (is : Bool) (a : ℕ) → (let found : Option ℕ = None in found ≡ cond is (Some a) None) → is ≡ false
none_cond true a same = cc
none_cond false a same = refl

stands : {A : Type 0} (test : A → Bool) (xs : List A) (n : ℕ) → Some n ≡ position test xs → (n ≡ position_or_len test xs) × (n < length xs)
stands test xs n is =
    let parts = some_cond (ltb (position_or_len test xs) (length xs)) (position_or_len test xs) n is in
    let less = ltb-true (position_or_len test xs) (length xs) parts.0 in
    let same = parts.1 in (same, omega (arith, less, same))

pub taken : {A : Type 0} (test : A → Bool) (xs : List A) (n : ℕ) (x : A) → Some n ≡ position test xs → x ≡ get_or xs n x → Some x ≡ find test xs
taken test xs n x at is =
    let here = stands test xs n at in
    sym (find_at test xs ∙ (ap (slice_get xs) (sym here.0) ∙ slice_get_read xs (length xs) n x refl here.1 is))

pub none_taken : {A : Type 0} (test : A → Bool) (xs : List A) → (let none : Option ℕ = None in none ≡ position test xs) → (let none : Option A = None in none ≡ find test xs)
none_taken test xs none =
    sym (find_at test xs ∙ slice_get_past xs (position_or_len test xs) (ltb-false _ _ (none_cond (ltb (position_or_len test xs) (length xs)) (position_or_len test xs) none)))

pub taken_passes : {A : Type 0} (test : A → Bool) (xs : List A) (n : ℕ) (x : A) → Some n ≡ position test xs → x ≡ get_or xs n x → test x ≡ true
taken_passes test xs n x at is =
    let here = stands test xs n at in
    let same = here.0 in
    ap test (is ∙ ap (λ k. get_or xs k x) same) ∙ passes_at_first test xs x (omega (arith, here.1, same))

next_without : {A : Type 0} (test : A → Bool) (x : A) (xs : List A) (is : Bool) → test x ≡ is → remove xs (position_or_len test xs) ≡ without test xs → remove (x ∷ xs) (position_or_len test (x ∷ xs)) ≡ without test (x ∷ xs)
next_without test x xs true is more = rw is refl
next_without test x xs false is more = rw is (ap (remove (x ∷ xs)) (one-add (position_or_len test xs)) ∙ ap (λ ys. x ∷ ys) more)

removed_at : {A : Type 0} (test : A → Bool) (xs : List A) → remove xs (position_or_len test xs) ≡ without test xs
removed_at test [] = refl
removed_at test (x ∷ xs) = next_without test x xs (test x) refl (removed_at test xs)

pub removed : {A : Type 0} (test : A → Bool) (xs : List A) (n : ℕ) → Some n ≡ position test xs → remove xs n ≡ without test xs
removed test xs n at = ap (remove xs) (stands test xs n at).0 ∙ removed_at test xs

next_whole : {A : Type 0} (test : A → Bool) (x : A) (xs : List A) (is : Bool) → test x ≡ is → length (x ∷ xs) ≤ position_or_len test (x ∷ xs) → (length xs ≤ position_or_len test xs → xs ≡ without test xs) → x ∷ xs ≡ without test (x ∷ xs)
next_whole test x xs true is ends more = let none = passes test x xs is in absurd (omega (arith, none, ends))
next_whole test x xs false is ends more = let step = fails test x xs is in rw is (ap (λ ys. x ∷ ys) (more (omega (arith, step, ends))))

whole_at : {A : Type 0} (test : A → Bool) (xs : List A) → length xs ≤ position_or_len test xs → xs ≡ without test xs
whole_at test [] ends = refl
whole_at test (x ∷ xs) ends = next_whole test x xs (test x) refl ends (whole_at test xs)

pub none_removed : {A : Type 0} (test : A → Bool) (xs : List A) → (let none : Option ℕ = None in none ≡ position test xs) → xs ≡ without test xs
none_removed test xs none = whole_at test xs (ltb-false _ _ (none_cond (ltb (position_or_len test xs) (length xs)) (position_or_len test xs) none))
