-- Pairs of items of a list, and of lists put together.
use Rattle.std.proofs.Common.{◌≡◌, ◌<◌, ◌≤◌, ◌≢◌, ℕ, zero, suc, ◌+◌, ◌⊎◌, inl, inr, List, [], ◌∷◌, ◌++◌, length, map, get_or, refl, sym, arith}
use Rattle.std.specs.List.{AllByRecursion, AllPairs, AllZip, flat_map}
use Rattle.std.proofs.lemmas.Bool.{cases_lt}
use Rattle.std.proofs.lemmas.List.Elements.{All-from_recursion, recursion_from_All}
use Rattle.std.proofs.Math.Nat.{eq-or-lt_of_le}

-- R holds of each item and each later one
abbrev pub Pairs : {X : Type 0} → (X → X → Type 0) → List X → Type 0
Pairs R [] = Unit {0}
Pairs R (x ∷ xs) = AllByRecursion (R x) xs × Pairs R xs

pub pairs_from : {X : Type 0} (R : X → X → Type 0) (xs : List X) → AllPairs R xs → Pairs R xs
pairs_from R [] each = tt
pairs_from R (x ∷ xs) each = (recursion_from_All (R x) xs (λ k d below. each zero (suc k) d (omega arith) (omega arith)), pairs_from R xs (λ i j d less below. each (suc i) (suc j) d (omega arith) (omega arith)))

pub pairs_to : {X : Type 0} (R : X → X → Type 0) (xs : List X) → Pairs R xs → AllPairs R xs
pairs_to R [] pairs i j d less below = absurd (omega arith)
pairs_to R (x ∷ xs) pairs i zero d less below = absurd (omega arith)
pairs_to R (x ∷ xs) pairs zero (suc j) d less below = All-from_recursion (R x) xs pairs.0 j d (omega arith)
pairs_to R (x ∷ xs) pairs (suc i) (suc j) d less below = pairs_to R xs pairs.1 i j d (omega arith) (omega arith)

-- ---- what holds of each

pub all_map : {X Y : Type 0} (P : X → Type 0) (Q : Y → Type 0) (f : X → Y) → ((x : X) → P x → Q (f x)) → (xs : List X) → AllByRecursion P xs → AllByRecursion Q (map f xs)
all_map P Q f such [] each = tt
all_map P Q f such (x ∷ xs) each = (such x each.0, all_map P Q f such xs each.1)

pub all_such : {X : Type 0} (P Q : X → Type 0) → ((x : X) → P x → Q x) → (xs : List X) → AllByRecursion P xs → AllByRecursion Q xs
all_such P Q such [] each = tt
all_such P Q such (x ∷ xs) each = (such x each.0, all_such P Q such xs each.1)

pub all_both : {X : Type 0} (P Q : X → Type 0) (xs : List X) → AllByRecursion P xs → AllByRecursion Q xs → AllByRecursion (λ x. P x × Q x) xs
all_both P Q [] first second = tt
all_both P Q (x ∷ xs) first second = ((first.0, second.0), all_both P Q xs first.1 second.1)

pub all_append : {X : Type 0} (P : X → Type 0) (xs ys : List X) → AllByRecursion P xs → AllByRecursion P ys → AllByRecursion P (xs ++ ys)
all_append P [] ys first second = second
all_append P (x ∷ xs) ys first second = (first.0, all_append P xs ys first.1 second)

all_parts : {X : Type 0} (P : X → Type 0) (xs ys : List X) → AllByRecursion P (xs ++ ys) → AllByRecursion P xs × AllByRecursion P ys
all_parts P [] ys each = (tt, each)
all_parts P (x ∷ xs) ys each = let rest = all_parts P xs ys each.1 in ((each.0, rest.0), rest.1)

pub zip_at : {X Y : Type 0} (R : X → Y → Type 0) (xs : List X) (ys : List Y) → AllZip R xs ys → (k : ℕ) (d : X) (e : Y) → k < length xs → R (get_or xs k d) (get_or ys k e)
zip_at R [] [] zip k d e below = absurd (omega arith)
zip_at R [] (y ∷ ys) zip k d e below = absurd (omega arith)
zip_at R (x ∷ xs) [] zip k d e below = absurd zip
zip_at R (x ∷ xs) (y ∷ ys) zip zero d e below = zip.0
zip_at R (x ∷ xs) (y ∷ ys) zip (suc k) d e below = zip_at R xs ys zip.1 k d e (omega arith)

pub zip_map : {X Y : Type 0} (R : X → Y → Type 0) (f : X → Y) (xs : List X) → AllByRecursion (λ x. R x (f x)) xs → AllZip R xs (map f xs)
zip_map R f [] each = tt
zip_map R f (x ∷ xs) each = (each.0, zip_map R f xs each.1)

-- ---- R holds of each item of one list and each of another

abbrev pub Cross : {X : Type 0} → (X → X → Type 0) → List X → List X → Type 0
Cross R xs ys = AllByRecursion (λ x. AllByRecursion (R x) ys) xs

cross_nil : {X : Type 0} (R : X → X → Type 0) (xs : List X) → Cross R xs []
cross_nil R [] = tt
cross_nil R (x ∷ xs) = (tt, cross_nil R xs)

cross_append : {X : Type 0} (R : X → X → Type 0) (xs ys zs : List X) → Cross R xs ys → Cross R xs zs → Cross R xs (ys ++ zs)
cross_append R [] ys zs first second = tt
cross_append R (x ∷ xs) ys zs first second = (all_append (R x) ys zs first.0 second.0, cross_append R xs ys zs first.1 second.1)

cross_parts : {X : Type 0} (R : X → X → Type 0) (xs ys zs : List X) → Cross R xs (ys ++ zs) → Cross R xs ys × Cross R xs zs
cross_parts R [] ys zs cross = (tt, tt)
cross_parts R (x ∷ xs) ys zs cross =
    let here = all_parts (R x) ys zs cross.0 in
    let rest = cross_parts R xs ys zs cross.1 in
    ((here.0, rest.0), (here.1, rest.1))

cross_head : {X : Type 0} (R : X → X → Type 0) → ((x y : X) → R x y → R y x) → (xs : List X) (y : X) (ys : List X) → Cross R xs (y ∷ ys) → AllByRecursion (R y) xs
cross_head R turned [] y ys cross = tt
cross_head R turned (x ∷ xs) y ys cross = (turned x y cross.0.0, cross_head R turned xs y ys cross.1)

cross_tail : {X : Type 0} (R : X → X → Type 0) (xs : List X) (y : X) (ys : List X) → Cross R xs (y ∷ ys) → Cross R xs ys
cross_tail R [] y ys cross = tt
cross_tail R (x ∷ xs) y ys cross = (cross.0.1, cross_tail R xs y ys cross.1)

cross_turned : {X : Type 0} (R : X → X → Type 0) → ((x y : X) → R x y → R y x) → (xs ys : List X) → Cross R xs ys → Cross R ys xs
cross_turned R turned xs [] cross = tt
cross_turned R turned xs (y ∷ ys) cross = (cross_head R turned xs y ys cross, cross_turned R turned xs ys (cross_tail R xs y ys cross))

pub pairs_append : {X : Type 0} (R : X → X → Type 0) (xs ys : List X) → Pairs R xs → Pairs R ys → Cross R xs ys → Pairs R (xs ++ ys)
pairs_append R [] ys first second cross = second
pairs_append R (x ∷ xs) ys first second cross = (all_append (R x) xs ys first.0 cross.0, pairs_append R xs ys first.1 second cross.1)

pairs_parts : {X : Type 0} (R : X → X → Type 0) (xs ys : List X) → Pairs R (xs ++ ys) → Pairs R xs × Pairs R ys × Cross R xs ys
pairs_parts R [] ys pairs = (tt, pairs, tt)
pairs_parts R (x ∷ xs) ys pairs =
    let here = all_parts (R x) xs ys pairs.0 in
    let rest = pairs_parts R xs ys pairs.1 in
    ((here.0, rest.0), rest.1, (here.1, rest.2))

-- ---- lists made of each item of a list

cross_flat : {X Y : Type 0} (R : Y → Y → Type 0) (f : X → List Y) (ys : List Y) (xs : List X) → AllByRecursion (λ x. Cross R ys (f x)) xs → Cross R ys (flat_map f xs)
cross_flat R f ys [] each = cross_nil R ys
cross_flat R f ys (x ∷ xs) each = cross_append R ys (f x) (flat_map f xs) each.0 (cross_flat R f ys xs each.1)

cross_each : {X Y : Type 0} (R : Y → Y → Type 0) (f : X → List Y) (ys : List Y) (xs : List X) → Cross R ys (flat_map f xs) → AllByRecursion (λ x. Cross R ys (f x)) xs
cross_each R f ys [] cross = tt
cross_each R f ys (x ∷ xs) cross =
    let parts = cross_parts R ys (f x) (flat_map f xs) cross in
    (parts.0, cross_each R f ys xs parts.1)

-- R holds of the items that f makes of one and of another
abbrev pub Between : {X Y : Type 0} → (Y → Y → Type 0) → (X → List Y) → X → X → Type 0
Between R f x y = Cross R (f x) (f y)

pub flat_parts : {X Y : Type 0} (R : Y → Y → Type 0) (f : X → List Y) (xs : List X) → Pairs R (flat_map f xs) → AllByRecursion (λ x. Pairs R (f x)) xs × Pairs (Between R f) xs
flat_parts R f [] pairs = (tt, tt)
flat_parts R f (x ∷ xs) pairs =
    let parts = pairs_parts R (f x) (flat_map f xs) pairs in
    let rest = flat_parts R f xs parts.1 in
    ((parts.0, rest.0), (cross_each R f (f x) xs parts.2, rest.1))

pub flat_pairs : {X Y : Type 0} (R : Y → Y → Type 0) (f : X → List Y) (xs : List X) → AllByRecursion (λ x. Pairs R (f x)) xs → Pairs (Between R f) xs → Pairs R (flat_map f xs)
flat_pairs R f [] each pairs = tt
flat_pairs R f (x ∷ xs) each pairs = pairs_append R (f x) (flat_map f xs) each.0 (flat_pairs R f xs each.1 pairs.1) (cross_flat R f (f x) xs pairs.0)

pub between_turned : {X Y : Type 0} (R : Y → Y → Type 0) → ((x y : Y) → R x y → R y x) → (f : X → List Y) (x y : X) → Between R f x y → Between R f y x
between_turned R turned f x y cross = cross_turned R turned (f x) (f y) cross

-- what holds of each item and each later one holds of any two, where it holds both ways
pub at_two : {X : Type 0} (R : X → X → Type 0) → ((x y : X) → R x y → R y x) → (xs : List X) → Pairs R xs → (i j : ℕ) (d : X) → i ≢ j → i < length xs → j < length xs → R (get_or xs i d) (get_or xs j d)
at_two R turned xs pairs i j d other left right =
    elim (cases_lt i j) [
      | inl less ↦ pairs_to R xs pairs i j d less right
      | inr above ↦ turned _ _ (pairs_to R xs pairs j i d (omega arith) left)
    ]
