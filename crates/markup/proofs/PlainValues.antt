-- Values of ASCII without references and quotes.
use Rattle.std.proofs.Common.{◌≡◌, ℕ, ◌≤◌, ◌-◌, true, not, ◌&&◌, List, [], ◌∷◌, ◌++◌, length, take, drop, Option, Some, refl, sym, ap, subst, ◌∙◌, ◌⊎◌, inl, inr, arith}
use Rattle.std.proofs.lemmas.List.{take_rest}
use Rattle.std.specs.Prelude.{◌==◌, ◌||◌, slice_index}
use Rattle.std.specs.List.{list_all}
use Rattle.std.specs.Str.{IsUtf8}
use Rattle.std.proofs.lemmas.Bool.{and_parts, eqb-true, or_cases}
use Rattle.markup_rules.specs.Reading.{value_at}
use Rattle.markup_rules.proofs.CompleteTags.{quoted_again}
use Rattle.markup.specs.Views.{is_plain_ascii, is_unquoted}
use Rattle.markup.proofs.PlainRuns.{content_plain, plain_utf8}
use Rattle.basics.specs.Bytes.{run_at, after_run}
use Rattle.basics.proofs.Runs.{all_in, run_all, run_whole}

all_plain : (bytes : List ℕ) → list_all is_unquoted bytes ≡ true → list_all is_plain_ascii bytes ≡ true
all_plain bytes all = all_in is_unquoted is_plain_ascii (λ b e. (and_parts (is_plain_ascii b) (not (b == 34) && not (b == 39)) e).0) bytes all

pub unquoted_utf8 : (bytes : List ℕ) → IsUtf8 (run_at is_unquoted bytes)
unquoted_utf8 bytes = plain_utf8 (run_at is_unquoted bytes) (all_plain (run_at is_unquoted bytes) (run_all is_unquoted bytes))

abbrev IsQuote : ℕ → Type 0
IsQuote q = (q ≡ 34) ⊎ (q ≡ 39)

quote_is : (q : ℕ) → ((q == 34) || (q == 39)) ≡ true → IsQuote q
quote_is q e = elim (or_cases (q == 34) (q == 39) e) [ inl p ↦ inl (eqb-true q 34 p) | inr p ↦ inr (eqb-true q 39 p) ]

apart_from : (q b : ℕ) → IsQuote q → is_unquoted b ≡ true → not (b == q) ≡ true
apart_from q b (inl is) e =
    let parts = and_parts (not (b == 34)) (not (b == 39)) (and_parts (is_plain_ascii b) (not (b == 34) && not (b == 39)) e).1 in
    subst (λ (q : ℕ). not (b == q) ≡ true) (sym is) parts.0
apart_from q b (inr is) e =
    let parts = and_parts (not (b == 34)) (not (b == 39)) (and_parts (is_plain_ascii b) (not (b == 34) && not (b == 39)) e).1 in
    subst (λ (q : ℕ). not (b == q) ≡ true) (sym is) parts.1

value_again : (q : ℕ) (value rest : List ℕ) → IsQuote q → list_all is_unquoted value ≡ true → value_at (q ∷ (value ++ q ∷ rest)) ≡ Some (value, rest)
unfolding value_at
value_again q value rest is all =
    rw (quoted_again q value rest is (all_in is_unquoted (λ b. not (b == q)) (λ b e. apart_from q b is e) value all), content_plain value (all_plain value all)) refl

pub plain_value : (q : ℕ) (bytes rest : List ℕ) → ((q == 34) || (q == 39)) ≡ true → after_run is_unquoted bytes ≡ q ∷ rest → value_at (q ∷ bytes) ≡ Some (run_at is_unquoted bytes, rest)
plain_value q bytes rest is beyond =
    ap (λ bs. value_at (q ∷ bs)) (run_whole is_unquoted bytes ∙ ap (λ bs. run_at is_unquoted bytes ++ bs) beyond) ∙
    value_again q (run_at is_unquoted bytes) rest (quote_is q is) (run_all is_unquoted bytes)

-- of a slice whose first byte is the quote
pub plain_value_in : (bytes value after : List ℕ) → 1 ≤ length bytes → ((slice_index bytes 0 == 34) || (slice_index bytes 0 == 39)) ≡ true → value ≡ run_at is_unquoted (take (length bytes - 1) (drop 1 bytes))
    → after_run is_unquoted (take (length bytes - 1) (drop 1 bytes)) ≡ slice_index bytes 0 ∷ after → value_at bytes ≡ Some (value, after)
plain_value_in [] value after some is prefix beyond = absurd (omega arith)
plain_value_in (q ∷ bytes) value after some is prefix beyond =
    let whole : take (length (q ∷ bytes) - 1) bytes ≡ bytes = take_rest (q ∷ bytes) 1 in
    plain_value q bytes after is (ap (after_run is_unquoted) (sym whole) ∙ beyond) ∙ ap (λ (v : List ℕ). found v) (sym (prefix ∙ ap (run_at is_unquoted) whole))
  where
    found : List ℕ → Option (List ℕ × List ℕ)
    found v = Some (v, after)
