-- The members of a rising set, and what a tuple that names them gives.
use Rattle.std.proofs.Common.{◌≡◌, ℕ, ◌+◌, ◌<◌, ◌≤◌, ◌⊎◌, List, [], ◌∷◌, ◌++◌, length, drop, get_or, ◌↔◌, Some, None, IsSome, inl, inr, refl, ⊎_elim, arith}
use Rattle.std.proofs.lemmas.Bool.{eq-eqb, ne_eqb, cases_eq}
use Rattle.fixpoint.specs.declared.plane.Pair.{Pair}
use Rattle.variation_rules.specs.InferredDelta.{still}
use Rattle.std.proofs.lemmas.List.{drop_more, drop_all}
use Rattle.iup.specs.Arcs.{Spans, Links, RisesFrom, given_by}

-- the number is in the set
abbrev pub IsIn : ℕ → List ℕ → Type 0
IsIn i [] = ⊥
IsIn i (x ∷ xs) = (x ≡ i) ⊎ IsIn i xs

pub in_or_not : (i : ℕ) (set : List ℕ) → IsIn i set ⊎ (IsIn i set → ⊥)
in_or_not i [] = inr (λ absent. absent)
in_or_not i (x ∷ xs) =
    ⊎_elim
    (λ (same : x ≡ i). inl (inl same))
    (λ (other : x ≡ i → ⊥). ⊎_elim
    (λ (later : IsIn i xs). inl (inr later))
    (λ (absent : IsIn i xs → ⊥). inr (λ (there : (x ≡ i) ⊎ IsIn i xs). ⊎_elim other absent there))
    (in_or_not i xs))
    (cases_eq x i)

-- members lie within the set's bounds
pub in_bounds : (low n : ℕ) (set : List ℕ) (i : ℕ) → RisesFrom low n set → IsIn i set → (low ≤ i) × (i < n)
in_bounds low n [] i rises there = absurd there
in_bounds low n (x ∷ xs) i rises (inl same) =
    let above : low ≤ x = rises.0 in
    let below : x < n = rises.1 in
    (omega arith, omega arith)
in_bounds low n (x ∷ xs) i rises (inr later) =
    let above : low ≤ x = rises.0 in
    let inside = in_bounds (x + 1) n xs i rises.2 later in
    (omega (arith, inside.0), inside.1)

-- a member is given its delta
pub given_in : (set : List ℕ) (deltas : List Pair) (i : ℕ) → IsIn i set → given_by set deltas i ≡ Some (get_or deltas i still)
given_in [] deltas i there = absurd there
given_in (x ∷ xs) deltas i there =
    ⊎_elim
    (λ (same : x ≡ i). rw (eq-eqb x i same))
    (λ (other : x ≡ i → ⊥). rw (ne_eqb x i other) (given_in xs deltas i (⊎_elim (λ (same : x ≡ i). absurd (other same)) (λ (later : IsIn i xs). later) there)))
    (cases_eq x i)

-- and no other point is
pub given_out : (set : List ℕ) (deltas : List Pair) (i : ℕ) → (IsIn i set → ⊥) → given_by set deltas i ≡ None
given_out [] deltas i absent = refl
given_out (x ∷ xs) deltas i absent =
    rw (ne_eqb x i (λ same. absent (inl same))) (given_out xs deltas i (λ later. absent (inr later)))

pub in_from_given : (set : List ℕ) (deltas : List Pair) (i : ℕ) → IsSome (given_by set deltas i) → IsIn i set
in_from_given set deltas i some =
    ⊎_elim
    (λ (there : IsIn i set). there)
    (λ (absent : IsIn i set → ⊥). let none = rw (given_out set deltas i absent) at some in absurd cc)
    (in_or_not i set)

pub given_some : (set : List ℕ) (deltas : List Pair) (i : ℕ) → IsIn i set → IsSome (given_by set deltas i)
given_some set deltas i there = rw (given_in set deltas i there) refl

pub out_from_given : (set : List ℕ) (deltas : List Pair) (i : ℕ) → given_by set deltas i ≡ None → IsIn i set → ⊥
out_from_given set deltas i none there = let some = given_in set deltas i there in cc

-- what is given is the point's delta
pub given_value : (set : List ℕ) (deltas : List Pair) (i : ℕ) (delta : Pair) → given_by set deltas i ≡ Some delta → get_or deltas i still ≡ delta
given_value set deltas i delta is =
    ⊎_elim
    (λ (there : IsIn i set). let own = given_in set deltas i there in cc)
    (λ (absent : IsIn i set → ⊥). let none = given_out set deltas i absent in absurd cc)
    (in_or_not i set)

-- the links of a list from one of its members on
pub links_on : (points deltas : List Pair) (from end k : ℕ) (members : List ℕ) (W : Type 0) → k < length members → Spans points deltas from (get_or members k 0) → (Links points deltas from (drop k members) end ↔ W) → (Links points deltas (get_or members k 0) (drop (k + 1) members) end ↔ W)
links_on points deltas from end k members W inside spans whole =
    let parts = rw (drop_more members k 0 inside) at whole in
    (λ later. parts.0 (spans, later), λ w. (parts.1 w).1)

pub links_end : (points deltas : List Pair) (from end k : ℕ) (members : List ℕ) (W : Type 0) → length members ≤ k → (Links points deltas from (drop k members) end ↔ W) → (Spans points deltas from end ↔ W)
links_end points deltas from end k members W ended whole = rw (drop_all k members ended) at whole

-- a rising list from one of its members on
pub rises_on : (low n k : ℕ) (members : List ℕ) → k < length members → RisesFrom low n (drop k members) → (low ≤ get_or members k 0) × (get_or members k 0 < n) × RisesFrom (get_or members k 0 + 1) n (drop (k + 1) members)
rises_on low n k members inside rises = rw (drop_more members k 0 inside) at rises

-- a rising list under a higher bound, and with one number more
pub rises_below : (low n m : ℕ) (xs : List ℕ) → n ≤ m → RisesFrom low n xs → RisesFrom low m xs
rises_below low n m [] wider rises = tt
rises_below low n m (x ∷ xs) wider rises =
    let below : x < n = rises.1 in
    (rises.0, omega arith, rises_below (x + 1) n m xs wider rises.2)

pub rises_push : (low n x : ℕ) (xs : List ℕ) → low ≤ x → x < n → RisesFrom low x xs → RisesFrom low n (xs ++ x ∷ [])
rises_push low n x [] above below rises = (above, below, tt)
rises_push low n x (y ∷ ys) above below rises =
    let before : y < x = rises.1 in
    (rises.0, omega arith, rises_push (y + 1) n x ys (omega arith) below rises.2)
