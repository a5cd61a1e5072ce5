-- A text takes no more units of UTF-16 than bytes of UTF-8.
use Rattle.std.proofs.Common.{◌≡◌, ℕ, ◌+◌, ◌<◌, ◌≤◌, List, [], ◌∷◌, length, get_or, drop, sum_by, sym, ap, ◌∙◌, length-append, arith}
use Rattle.std.proofs.lemmas.Bool.Decides.{nat_tests}
use Rattle.std.proofs.lemmas.List.{at_drop_more}
use Rattle.std.proofs.lemmas.List.Sums.{sum_by-cons}
use Rattle.std.proofs.lemmas.Str.{encodes-chars, length-encode}
use Rattle.std.proofs.Math.Utf8.{encode, encodes}
use Rattle.std.specs.Char.{len_utf8}
use Rattle.std.specs.Str.{chars, IsUtf8}
use Rattle.font_text.specs.Utf16.{unit_count}

one_within : (c : ℕ) → unit_count c ≤ len_utf8 c
one_within c = grind (arith, nat_tests)

units_within_encoded : (cs : List ℕ) → sum_by unit_count cs ≤ length (encodes cs)
units_within_encoded [] = omega arith
units_within_encoded (c ∷ cs) =
    let later = units_within_encoded cs in
    let here = one_within c in
    let size = length-encode c in
    let both = length-append (encode c) (encodes cs) in
    let total = sum_by-cons unit_count c cs in
    omega arith

pub units_within : (bs : List ℕ) → IsUtf8 bs → sum_by unit_count (chars bs) ≤ length bs
units_within bs valid = rw (encodes-chars bs valid) at (units_within_encoded (chars bs))

-- what is left to count, one character on
pub units_drop : (cs : List ℕ) (n c : ℕ) → (n < length cs) × (c ≡ get_or cs n c) → sum_by unit_count (drop n cs) ≡ unit_count c + sum_by unit_count (drop (n + 1) cs)
units_drop cs n c here = at_drop_more (sum_by unit_count) cs n c here.0 ∙ (sum_by-cons unit_count (get_or cs n c) (drop (n + 1) cs) ∙ ap (λ x. unit_count x + sum_by unit_count (drop (n + 1) cs)) (sym here.1))
