-- The points that move: their numbers, and that no other moves.
use Rattle.std.proofs.Common.{◌≡◌, ℕ, ℤ, pos, zero, suc, ◌+◌, ◌<◌, ◌≤◌, true, false, List, [], ◌∷◌, length, get_or, All, inl, inr, refl, sym, ◌∙◌, ap, subst, ⊎_elim, arith}
use Rattle.std.specs.Ordering.{int_eq}
use Rattle.std.proofs.lemmas.Bool.{and_parts, cases_Bool}
use Rattle.std.proofs.lemmas.Bool.Decides.{Decides-int_eq}
use Rattle.std.proofs.lemmas.List.Elements.{All-nil, All-cons, All-head, All-tail}
use Rattle.fixpoint.specs.declared.plane.Pair.{Pair}
use Rattle.variation_rules.specs.InferredDelta.{still}
use Rattle.variation_rules.specs.PackedPoints.{RisesWithin}
use Rattle.iup.proofs.SetLemmas.{IsIn}
use Rattle.explicit_points.specs.ExplicitPoints.{is_still, moving_from}

-- ---- one delta

same_pair : (one other : Pair) → one.x ≡ other.x → one.y ≡ other.y → one ≡ other
same_pair one other x y =
    let pair : ℤ → ℤ → Pair = λ a b. record { x = a; y = b } in
    ap (λ a. pair a one.y) x ∙ ap (λ b. pair other.x b) y

still_is : (delta : Pair) → is_still delta ≡ true → delta ≡ still
still_is delta is =
    let both = and_parts (int_eq delta.x (pos 0)) (int_eq delta.y (pos 0)) is in
    let x : delta.x ≡ pos 0 = (Decides-int_eq delta.x (pos 0)).0 both.0 in
    let y : delta.y ≡ pos 0 = (Decides-int_eq delta.y (pos 0)).0 both.1 in
    same_pair delta still x y

moving_skips : (number : ℕ) (delta : Pair) (deltas : List Pair) → is_still delta ≡ true → moving_from number (delta ∷ deltas) ≡ moving_from (number + 1) deltas
moving_skips number delta deltas is = rw is

moving_takes : (number : ℕ) (delta : Pair) (deltas : List Pair) → is_still delta ≡ false → moving_from number (delta ∷ deltas) ≡ number ∷ moving_from (number + 1) deltas
moving_takes number delta deltas isnt = rw isnt

-- ---- the numbers of those that move

-- the numbers rise
pub rises_from_lower : (low mid end : ℕ) (xs : List ℕ) → low ≤ mid → RisesWithin mid end xs → RisesWithin low end xs
rises_from_lower low mid end [] lower rises = tt
rises_from_lower low mid end (x ∷ xs) lower rises = (omega (arith, rises.0), rises.1, rises.2)

pub moving_rises : (number end : ℕ) (deltas : List Pair) → number + length deltas ≤ end → RisesWithin number end (moving_from number deltas)
moving_rises number end [] inside = tt
moving_rises number end (delta ∷ deltas) inside =
    let later = moving_rises (number + 1) end deltas (omega arith) in
    ⊎_elim
    (λ (is : is_still delta ≡ true). rw (moving_skips number delta deltas is) (rises_from_lower number (number + 1) end (moving_from (number + 1) deltas) (omega arith) later))
    (λ (isnt : is_still delta ≡ false). rw (moving_takes number delta deltas isnt) (omega arith, omega arith, later))
    (cases_Bool (is_still delta))

-- a member of a rising list lies within its bounds
pub in_rising : (low end : ℕ) (xs : List ℕ) (x : ℕ) → RisesWithin low end xs → IsIn x xs → (low ≤ x) × (x < end)
in_rising low end [] x rises there = absurd there
in_rising low end (y ∷ ys) x rises (inl same) =
    let above : low ≤ y = rises.0 in
    let below : y < end = rises.1 in
    (omega arith, omega arith)
in_rising low end (y ∷ ys) x rises (inr later) =
    let above : low ≤ y = rises.0 in
    let inside = in_rising (y + 1) end ys x rises.2 later in
    (omega (arith, inside.0), inside.1)

-- a point that isn't one of them doesn't move
pub moving_all : (number k : ℕ) (deltas : List Pair) → (IsIn (number + k) (moving_from number deltas) → ⊥) → get_or deltas k still ≡ still
moving_all number k [] absent = refl
moving_all number zero (delta ∷ deltas) absent =
    ⊎_elim
    (λ (is : is_still delta ≡ true). still_is delta is)
    (λ (isnt : is_still delta ≡ false). absurd (absent (rw (moving_takes number delta deltas isnt) (inl (omega arith)))))
    (cases_Bool (is_still delta))
moving_all number (suc k) (delta ∷ deltas) absent =
    let on : number + 1 + k ≡ number + suc k = omega arith in
    moving_all (number + 1) k deltas (λ there. let index = subst (λ x. IsIn x (moving_from (number + 1) deltas)) on there in
    ⊎_elim
    (λ (is : is_still delta ≡ true). absent (rw (moving_skips number delta deltas is) index))
    (λ (isnt : is_still delta ≡ false). absent (rw (moving_takes number delta deltas isnt) (inr index)))
    (cases_Bool (is_still delta)))

-- ---- nothing moves exactly where there is no number

pub still_of_none : (number : ℕ) (deltas : List Pair) → moving_from number deltas ≡ [] → All (λ delta. delta ≡ still) deltas
still_of_none number [] none = All-nil (λ (delta : Pair). delta ≡ still)
still_of_none number (delta ∷ deltas) none =
    ⊎_elim
    (λ (is : is_still delta ≡ true).
    All-cons (λ (delta : Pair). delta ≡ still) delta deltas (still_is delta is) (still_of_none (number + 1) deltas (sym (moving_skips number delta deltas is) ∙ none)))
    (λ (isnt : is_still delta ≡ false). let taken = moving_takes number delta deltas isnt in absurd cc)
    (cases_Bool (is_still delta))

pub none_of_still : (number : ℕ) (deltas : List Pair) → All (λ delta. delta ≡ still) deltas → moving_from number deltas ≡ []
none_of_still number [] all = refl
none_of_still number (delta ∷ deltas) all =
    let first : delta ≡ still = All-head (λ (delta : Pair). delta ≡ still) delta deltas all in
    rw first (none_of_still (number + 1) deltas (All-tail (λ (delta : Pair). delta ≡ still) delta deltas all))
