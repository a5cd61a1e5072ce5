-- Content without references is one run.
use Rattle.std.proofs.Common.{◌≡◌, ℕ, Bool, true, false, cond, ◌&&◌, List, [], ◌∷◌, ◌++◌, Some, None, length, nat_lt, refl, sym, ap, ◌∙◌, append-nil, arith}
use Rattle.std.specs.Prelude.{Option, nat_eq}
use Rattle.std.specs.List.{list_all}
use Rattle.std.specs.Char.{is_ascii}
use Rattle.std.specs.Str.{IsUtf8, is_utf8}
use Rattle.std.proofs.lemmas.Bool.{and_parts}
use Rattle.std.proofs.lemmas.Bool.Decides.{nat_tests}
use Rattle.markup_rules.specs.Bytes.{is_literal}
use Rattle.markup_rules.specs.Reading.{piece_at, run_of, content_of}
use Rattle.markup_rules.proofs.Contents.{content_next, content_by, content_end}
use Rattle.markup_rules.proofs.Utf8.{utf8_true}
use Rattle.markup.specs.Views.{is_plain_ascii, utf8_of}
use Rattle.markup.proofs.Ascii.{ascii_utf8}
use Rattle.basics.specs.Bytes.{run_at, after_run}
use Rattle.basics.specs.Optional.{◌>>=◌}
use Rattle.basics.proofs.Runs.{all_in}

no_reference : (b : ℕ) → is_literal b ≡ true → nat_eq b 38 ≡ false
no_reference b plain = grind (arith, nat_tests)

whole_run : (bytes : List ℕ) → list_all is_literal bytes ≡ true → run_at is_literal bytes ≡ bytes
whole_run [] all = refl
whole_run (b ∷ bytes) all =
    let parts = and_parts (is_literal b) (list_all is_literal bytes) all in
    rw parts.0 (ap (λ bs. b ∷ bs) (whole_run bytes parts.1))

none_after : (bytes : List ℕ) → list_all is_literal bytes ≡ true → after_run is_literal bytes ≡ []
none_after [] all = refl
none_after (b ∷ bytes) all =
    let parts = and_parts (is_literal b) (list_all is_literal bytes) all in
    rw parts.0 (none_after bytes parts.1)

abbrev Piece : Type 0
Piece = Option (List ℕ × List ℕ)

one_run : (b : ℕ) (bytes : List ℕ) (valid : Bool) → (let piece : Piece = Some (b ∷ bytes, []) in content_by (cond valid piece None)) ≡ cond valid (Some (b ∷ bytes)) None
one_run b bytes true = ap (λ o. o >>= λ text. Some ((b ∷ bytes) ++ text)) content_end ∙ ap (λ bs. Some bs) (append-nil (b ∷ bytes))
one_run b bytes false = refl

abbrev by_run : List ℕ → List ℕ → Piece
by_run run rest = cond (nat_lt 0 (length run) && is_utf8 run) (Some (run, rest)) None

run_plain : (b : ℕ) (bytes : List ℕ) → list_all is_literal (b ∷ bytes) ≡ true → run_of (b ∷ bytes) ≡ by_run (b ∷ bytes) []
unfolding run_of
run_plain b bytes all = ap (λ run. by_run run (after_run is_literal (b ∷ bytes))) (whole_run (b ∷ bytes) all) ∙ ap (by_run (b ∷ bytes)) (none_after (b ∷ bytes) all)

piece_plain : (b : ℕ) (bytes : List ℕ) → list_all is_literal (b ∷ bytes) ≡ true → piece_at (b ∷ bytes) ≡ by_run (b ∷ bytes) []
unfolding piece_at
piece_plain b bytes all =
    let parts = and_parts (is_literal b) (list_all is_literal bytes) all in
    rw (no_reference b parts.0) (run_plain b bytes all)

nil_utf8 : is_utf8 [] ≡ true
nil_utf8 = utf8_true [] (ascii_utf8 [] refl)

abbrev if_valid : List ℕ → Bool → Option (List ℕ)
if_valid bytes valid = cond valid (Some bytes) None

content_is_run : (bytes : List ℕ) → list_all is_literal bytes ≡ true → content_of bytes ≡ utf8_of bytes
content_is_run [] all = content_end ∙ ap (if_valid []) (sym nil_utf8)
content_is_run (b ∷ bytes) all =
    let some : nat_lt 0 (length (b ∷ bytes)) ≡ true = grind (arith, nat_tests) in
    let run = λ (long : Bool). let piece : Piece = cond (long && is_utf8 (b ∷ bytes)) (Some (b ∷ bytes, [])) None in piece in
    content_next b bytes ∙ (ap content_by (piece_plain b bytes all ∙ ap run some) ∙ one_run b bytes (is_utf8 (b ∷ bytes)))

plain_in : (bytes : List ℕ) → list_all is_plain_ascii bytes ≡ true → list_all is_literal bytes ≡ true
plain_in bytes all = all_in is_plain_ascii is_literal (λ b e. (and_parts (is_literal b) (is_ascii b) e).0) bytes all

pub plain_utf8 : (bytes : List ℕ) → list_all is_plain_ascii bytes ≡ true → IsUtf8 bytes
plain_utf8 bytes all = ascii_utf8 bytes (all_in is_plain_ascii is_ascii (λ b e. (and_parts (is_literal b) (is_ascii b) e).1) bytes all)

pub content_plain : (bytes : List ℕ) → list_all is_plain_ascii bytes ≡ true → content_of bytes ≡ Some bytes
content_plain bytes all = content_is_run bytes (plain_in bytes all) ∙ ap (if_valid bytes) (utf8_true bytes (plain_utf8 bytes all))
