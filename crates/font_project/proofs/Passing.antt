-- What follows where all of a list passes a test.
use Rattle.std.proofs.Common.{◌≡◌, ℕ, zero, suc, ◌+◌, ◌<◌, List, [], ◌∷◌, length, get_or, Some, Result, Ok, Err, refl, subst, arith}
use Rattle.std.specs.Prelude.{slice_get}
use Rattle.basics.specs.Reading.{◌>>=◌, all_pass}

-- both of two steps pass
pub both_pass : {A F : Type 0} (step : Result (Unit {0}) F) (next : Result A F) (x : A) → (step >>= λ _. next) ≡ Ok x → (step ≡ Ok tt) × (next ≡ Ok x)
both_pass (Ok _) next x both = (refl, both)
both_pass (Err fault) next x both = cc

-- the item at a position that is below the length
pub item_at : {A : Type 0} (xs : List A) (k : ℕ) (d : A) → k < length xs → slice_get xs k ≡ Some (get_or xs k d)
item_at [] k d below = absurd (omega (arith, below))
item_at (x ∷ xs) zero d below = refl
item_at (x ∷ xs) (suc k) d below = item_at xs k d (omega (arith, below))

-- and the position of an item
pub below_length : {A : Type 0} (xs : List A) (k : ℕ) (x : A) → slice_get xs k ≡ Some x → k < length xs
below_length [] k x is = cc
below_length (y ∷ xs) zero x is = omega arith
below_length (y ∷ xs) (suc k) x is = let less : k < length xs = below_length xs k x is in omega (arith, less)

pub item_is : {A : Type 0} (xs : List A) (k : ℕ) (x d : A) → slice_get xs k ≡ Some x → get_or xs k d ≡ x
item_is [] k x d is = cc
item_is (y ∷ xs) zero x d is = cc
item_is (y ∷ xs) (suc k) x d is = item_is xs k x d is

-- the item at a position passes, with its number
pub pass_at : {A F : Type 0} (test : ℕ → A → Result (Unit {0}) F) (i : ℕ) (xs : List A) → all_pass test i xs ≡ Ok tt → (k : ℕ) (x : A) → slice_get xs k ≡ Some x → test (i + k) x ≡ Ok tt
pass_at test i [] all k x is = cc
pass_at test i (y ∷ xs) all zero x is =
    let here : test i y ≡ Ok tt = (both_pass (test i y) (all_pass test (i + 1) xs) tt all).0 in
    let same : y ≡ x = cc in
    let number : i ≡ i + 0 = omega arith in
    subst (λ (n : ℕ). test n x ≡ Ok tt) number (subst (λ z. test i z ≡ Ok tt) same here)
pass_at test i (y ∷ xs) all (suc k) x is =
    let later : test (i + 1 + k) x ≡ Ok tt = pass_at test (i + 1) xs (both_pass (test i y) (all_pass test (i + 1) xs) tt all).1 k x is in
    let number : i + 1 + k ≡ i + suc k = omega arith in
    subst (λ (n : ℕ). test n x ≡ Ok tt) number later
