-- How what a search of bytes answers is a word of these definitions.
use Rattle.std.proofs.Common.{◌≡◌, ℕ, ◌+◌, ◌<◌, Bool, false, ◌&&◌, List, [], ◌∷◌, length, drop, Option, Some, None, refl, sym, ap, ◌∙◌, arith}
use Rattle.std.specs.Prelude.{nat_eq, option_map, ◌==◌}
use Rattle.std.specs.List.{starts_with}
use Rattle.std.proofs.lemmas.List.{length-drop, drop-drop}
use Rattle.basics.specs.Bytes.{begins, first_index}

-- a mark at the start
pub begins_is : (mark bytes : List ℕ) → starts_with nat_eq bytes mark ≡ begins mark bytes
begins_is [] [] = refl
begins_is [] (b ∷ bytes) = refl
begins_is (m ∷ mark) [] = refl
begins_is (m ∷ mark) (b ∷ bytes) = ap (λ later. (m == b) && later) (begins_is mark bytes)

shifted : (i : ℕ) (found : Option ℕ) → option_map (λ (n : ℕ). n + (i + 1)) found ≡ option_map (λ (n : ℕ). n + i) (option_map (λ (n : ℕ). n + 1) found)
shifted i (Some n) = let e : n + (i + 1) ≡ (n + 1) + i = omega arith in ap (λ (m : ℕ). Some m) e
shifted i None = refl

step_prefix : (test : List ℕ → Bool) (i : ℕ) (bytes : List ℕ) → 0 < length bytes → test bytes ≡ false → option_map (λ (n : ℕ). n + (i + 1)) (first_index test (drop 1 bytes)) ≡ option_map (λ (n : ℕ). n + i) (first_index test bytes)
step_prefix test i [] some none = absurd (omega arith)
step_prefix test i (b ∷ bytes) some none = rw none (shifted i (first_index test bytes))

-- one index more of a search
pub first_index_step : (test : List ℕ → Bool) (bytes : List ℕ) (i : ℕ) → i < length bytes → test (drop i bytes) ≡ false
    → option_map (λ (n : ℕ). n + (i + 1)) (first_index test (drop (i + 1) bytes)) ≡ option_map (λ (n : ℕ). n + i) (first_index test (drop i bytes))
first_index_step test bytes i within none =
    let some : 0 < length (drop i bytes) = omega (arith, length-drop i bytes) in
    ap (λ bs. option_map (λ (n : ℕ). n + (i + 1)) (first_index test bs)) (sym (drop-drop 1 i bytes)) ∙ step_prefix test i (drop i bytes) some none
