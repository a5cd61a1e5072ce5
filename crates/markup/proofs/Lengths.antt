-- Texts that differ in length.
use Rattle.std.proofs.Common.{◌≡◌, ℕ, List, length, true, false, sym, ap, ◌∙◌, arith}
use Rattle.std.specs.Prelude.{Bool, ◌==◌}
use Rattle.std.specs.Str.{bytes_eq}
use Rattle.std.proofs.lemmas.Bool.{false_from_ne_true}
use Rattle.std.proofs.lemmas.Slice.Eq.{bytes_eq-Decides}

is_true : (n : ℕ) → (n == n) ≡ true
is_true n = grind arith

true_is_not_false : true ≡ false → ⊥
true_is_not_false e = absurd cc

pub apart : (a b : List ℕ) → (length a == length b) ≡ false → bytes_eq a b ≡ false
apart a b e = false_from_ne_true _ (λ same. true_is_not_false (sym (ap (λ (n : ℕ). length a == n) (ap length (sym ((bytes_eq-Decides a b).0 same))) ∙ is_true (length a)) ∙ e))
