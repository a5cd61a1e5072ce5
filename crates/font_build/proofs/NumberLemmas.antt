-- Glyphs by their names and by their numbers.
use Rattle.std.proofs.Common.{◌≡◌, ℕ, zero, suc, ◌+◌, ◌<◌, Bool, false, cond, List, [], ◌∷◌, length, get_or, Some, refl, sym, ap, ◌∙◌, arith}
use Rattle.std.proofs.lemmas.Bool.{false_from_ne_true}
use Rattle.std.proofs.lemmas.Slice.Eq.{bytes_eq-Decides}
use Rattle.std.specs.Prelude.{slice_get}
use Rattle.std.specs.Str.{bytes_eq}
use Rattle.font_build.proofs.ListLemmas.{get_is, get_within}
use Rattle.font_model.specs.Fonts.{numbered}
use Rattle.font_rules.specs.Laws.{NumbersDiffer}
use Rattle.font_rules.specs.RuleNumbers.{number_of}
use Rattle.glif.specs.Limits.{AreDistinct}

-- ---- numbers that run on

numbered_count : (first : ℕ) (names : List (List ℕ)) → length (numbered first names) ≡ length names
numbered_count first [] = refl
numbered_count first (name ∷ names) = ap suc (numbered_count (first + 1) names)

number_at : (first : ℕ) (names : List (List ℕ)) (k : ℕ) (d : List ℕ × ℕ) → k < length names → (get_or (numbered first names) k d).1 ≡ first + k
number_at first [] k d within = absurd (omega arith)
number_at first (name ∷ names) zero d within = omega arith
number_at first (name ∷ names) (suc k) d within = let more = number_at (first + 1) names k d (omega arith) in omega (arith, more)

pub numbers_differ : (names : List (List ℕ)) → NumbersDiffer (numbered 0 names)
numbers_differ names i j d below within same =
    let there : j < length names = omega (arith, within, numbered_count 0 names) in
    let one = number_at 0 names i d (omega arith) in
    let other = number_at 0 names j d there in
    absurd (omega (arith, below, same, one, other))

-- ---- a name's number

-- the names after the first differ too
later_differ : (own : List ℕ) (names : List (List ℕ)) → AreDistinct (own ∷ names) → AreDistinct names
later_differ own names once = λ i j d below within. once (suc i) (suc j) d (omega (arith, below)) (omega (arith, within))

-- a later name isn't the first
isnt_first : (own : List ℕ) (names : List (List ℕ)) (k : ℕ) (name : List ℕ) → AreDistinct (own ∷ names) → slice_get names k ≡ Some name → bytes_eq name own ≡ false
isnt_first own names k name once there =
    false_from_ne_true (bytes_eq name own)
    (λ same. once 0 (suc k) name (omega arith) (let within = get_within names k name there in omega (arith, within)) (sym ((bytes_eq-Decides name own).0 same) ∙ sym (get_is names k name name there)))

pub number_found : (first : ℕ) (names : List (List ℕ)) (k : ℕ) (name : List ℕ) → AreDistinct names → slice_get names k ≡ Some name → number_of (numbered first names) name ≡ Some (first + k)
number_found first [] k name once there = absurd (cc there)
number_found first (own ∷ names) zero name once there =
    let same : own ≡ name = cc there in
    let whole : first ≡ first + 0 = omega arith in
    ap (λ (test : Bool). cond test (Some first) (number_of (numbered (first + 1) names) name)) ((bytes_eq-Decides name own).1 (sym same)) ∙ ap (λ (n : ℕ). Some n) whole
number_found first (own ∷ names) (suc k) name once there =
    let next : (first + 1) + k ≡ first + suc k = omega arith in
    ap (λ (test : Bool). cond test (Some first) (number_of (numbered (first + 1) names) name)) (isnt_first own names k name once there)
    ∙ number_found (first + 1) names k name (later_differ own names once) there
    ∙ ap (λ (n : ℕ). Some n) next
