-- A set of code points with one more of a list.
use Rattle.std.proofs.Common.{◌≡◌, ◌<◌, ℕ, ◌+◌, Bool, true, false, cond, ◌||◌, List, length, take, get_or, refl, sym, ◌∙◌, ap, arith}
use Rattle.std.specs.Prelude.{◌==◌}
use Rattle.std.specs.List.{list_any}
use Rattle.std.specs.Ordering.{is_eq, nat_cmp}
use Rattle.std.proofs.lemmas.Bool.Decides.{nat_tests}
use Rattle.std.proofs.lemmas.List.Folds.{list_any_more}

same_code : (x y : ℕ) → is_eq (nat_cmp x y) ≡ (x == y)
same_code x y = grind (arith, nat_tests)

or_more : (e a b : Bool) → cond e true (a || b) ≡ (a || (b || e))
or_more true true b = refl
or_more true false true = refl
or_more true false false = refl
or_more false true b = refl
or_more false false true = refl
or_more false false false = refl

pub codes_more : (codes : List ℕ) (i : ℕ) (before old new : ℕ → Bool) (q : ℕ) → i < length codes → new q ≡ cond (is_eq (nat_cmp (get_or codes i 0) q)) true (old q)
    → old q ≡ (before q || list_any (λ other. other == q) (take i codes)) → new q ≡ (before q || list_any (λ other. other == q) (take (i + 1) codes))
codes_more codes i before old new q less updated kept =
    updated ∙ ap (cond (is_eq (nat_cmp (get_or codes i 0) q)) true) kept
    ∙ or_more (is_eq (nat_cmp (get_or codes i 0) q)) (before q) (list_any (λ other. other == q) (take i codes))
    ∙ ap (λ e. before q || (list_any (λ other. other == q) (take i codes) || e)) (same_code (get_or codes i 0) q)
    ∙ ap (λ b. before q || b) (sym (list_any_more (λ other. other == q) codes i 0 less))
