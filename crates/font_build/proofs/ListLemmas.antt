-- Lists of two types side by side, and facts of each item of a list.
use Rattle.std.proofs.Common.{◌≡◌, ℕ, zero, suc, ◌+◌, ◌<◌, Bool, true, false, MatchBool, List, [], ◌∷◌, ◌++◌, length, get_or, map, take, refl, sym, ap, subst, ◌∙◌, arith}
use Rattle.std.proofs.lemmas.List.{take_more}
use Rattle.std.specs.Prelude.{Some, slice_get}
use Rattle.std.specs.List.{AllByRecursion, AllZip}

-- one of two facts holds, and each leads there
pub either_way : {A B C : Type 0} (b : Bool) → MatchBool b A B → (A → C) → (B → C) → C
either_way true own first second = first own
either_way false own first second = second own

-- of the values of a list
pub under : {A B : Type 0} (f : A → B) (P : B → Type 0) (xs : List A) → AllByRecursion P (map f xs) → AllByRecursion (λ x. P (f x)) xs
under f P [] each = tt
under f P (x ∷ xs) each = (each.0, under f P xs each.1)

pub weaker : {A : Type 0} (P Q : A → Type 0) → ((x : A) → P x → Q x) → (xs : List A) → AllByRecursion P xs → AllByRecursion Q xs
weaker P Q so [] each = tt
weaker P Q so (x ∷ xs) each = (so x each.0, weaker P Q so xs each.1)

-- ---- two lists

pub zip_push : {A B : Type 0} (R : A → B → Type 0) (xs : List A) (ys : List B) (x : A) (y : B) → AllZip R xs ys → R x y → AllZip R (xs ++ x ∷ []) (ys ++ y ∷ [])
zip_push R [] [] x y all holds = (holds, tt)
zip_push R [] (z ∷ ys) x y all holds = absurd all
zip_push R (z ∷ xs) [] x y all holds = absurd all
zip_push R (z ∷ xs) (w ∷ ys) x y all holds = (all.0, zip_push R xs ys x y all.1 holds)

pub zip_length : {A B : Type 0} (R : A → B → Type 0) (xs : List A) (ys : List B) → AllZip R xs ys → length xs ≡ length ys
zip_length R [] [] all = refl
zip_length R [] (y ∷ ys) all = absurd all
zip_length R (x ∷ xs) [] all = absurd all
zip_length R (x ∷ xs) (y ∷ ys) all = ap suc (zip_length R xs ys all.1)

-- another fact, of values of both
pub zip_map : {A B C D : Type 0} (R : A → B → Type 0) (Q : C → D → Type 0) (f : A → C) (g : B → D) → ((x : A) (y : B) → R x y → Q (f x) (g y)) → (xs : List A) (ys : List B) → AllZip R xs ys → AllZip Q (map f xs) (map g ys)
zip_map R Q f g so [] [] all = tt
zip_map R Q f g so [] (y ∷ ys) all = absurd all
zip_map R Q f g so (x ∷ xs) [] all = absurd all
zip_map R Q f g so (x ∷ xs) (y ∷ ys) all = (so x y all.0, zip_map R Q f g so xs ys all.1)

-- of the values of the second alone
pub zip_second : {A B D : Type 0} (R : A → B → Type 0) (Q : A → D → Type 0) (g : B → D) → ((x : A) (y : B) → R x y → Q x (g y)) → (xs : List A) (ys : List B) → AllZip R xs ys → AllZip Q xs (map g ys)
zip_second R Q g so [] [] all = tt
zip_second R Q g so [] (y ∷ ys) all = absurd all
zip_second R Q g so (x ∷ xs) [] all = absurd all
zip_second R Q g so (x ∷ xs) (y ∷ ys) all = (so x y all.0, zip_second R Q g so xs ys all.1)

-- of the values of the first alone
pub zip_first : {A B C : Type 0} (R : A → B → Type 0) (Q : C → B → Type 0) (f : A → C) → ((x : A) (y : B) → R x y → Q (f x) y) → (xs : List A) (ys : List B) → AllZip R xs ys → AllZip Q (map f xs) ys
zip_first R Q f so [] [] all = tt
zip_first R Q f so [] (y ∷ ys) all = absurd all
zip_first R Q f so (x ∷ xs) [] all = absurd all
zip_first R Q f so (x ∷ xs) (y ∷ ys) all = (so x y all.0, zip_first R Q f so xs ys all.1)

-- the partner of an item
pub partner : {A B : Type 0} (R : A → B → Type 0) (xs : List A) (ys : List B) (k : ℕ) (x : A) → AllZip R xs ys → slice_get xs k ≡ Some x → (y : B) × (slice_get ys k ≡ Some y) × R x y
partner R [] ys k x all there = absurd (cc there)
partner R (z ∷ xs) [] k x all there = absurd all
partner R (z ∷ xs) (w ∷ ys) zero x all there =
    let same : z ≡ x = cc there in
    (w, refl, subst (λ a. R a w) same all.0)
partner R (z ∷ xs) (w ∷ ys) (suc k) x all there = partner R xs ys k x all.1 there

-- ---- one item

pub get_within : {A : Type 0} (xs : List A) (k : ℕ) (x : A) → slice_get xs k ≡ Some x → k < length xs
get_within [] k x there = absurd (cc there)
get_within (z ∷ xs) zero x there = omega arith
get_within (z ∷ xs) (suc k) x there = let more = get_within xs k x there in omega arith

pub get_is : {A : Type 0} (xs : List A) (k : ℕ) (x d : A) → slice_get xs k ≡ Some x → get_or xs k d ≡ x
get_is [] k x d there = absurd (cc there)
get_is (z ∷ xs) zero x d there = cc there
get_is (z ∷ xs) (suc k) x d there = get_is xs k x d there

pub get_map : {A B : Type 0} (f : A → B) (xs : List A) (k : ℕ) (x : A) → slice_get xs k ≡ Some x → slice_get (map f xs) k ≡ Some (f x)
get_map f [] k x there = absurd (cc there)
get_map f (z ∷ xs) zero x there = let same : z ≡ x = cc there in ap (λ a. Some (f a)) same
get_map f (z ∷ xs) (suc k) x there = get_map f xs k x there

-- one item more of a list
pub taken : {A : Type 0} (xs : List A) (i : ℕ) (x : A) → i < length xs → x ≡ get_or xs i x → take (i + 1) xs ≡ take i xs ++ x ∷ []
taken xs i x here is = take_more xs i x here ∙ ap (λ y. take i xs ++ y ∷ []) (sym is)
