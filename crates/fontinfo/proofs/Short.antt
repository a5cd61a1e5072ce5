-- The texts that stand where none is written are short.
use Rattle.std.proofs.Common.{◌≡◌, ℕ, ◌*◌, ◌/◌, ◌%◌, ◌≤◌, true, List, [], ◌∷◌, ◌++◌, length, codes, sum_by, lit<, length-append, arith, refl, IsAscii}
use Rattle.std.specs.Prelude.{decimal}
use Rattle.std.specs.List.{list_all}
use Rattle.std.specs.Char.{is_ascii}
use Rattle.std.proofs.lemmas.Bool.{and_parts, ltb-true}
use Rattle.std.proofs.lemmas.Bool.Decides.{nat_tests}
use Rattle.std.proofs.lemmas.Fmt.{IsAscii-decimal, length-decimal-le}
use Rattle.std.proofs.lemmas.List.Sums.{sum_by-cons}
use Rattle.std.proofs.lemmas.Str.{IsAscii-append, chars-IsAscii}
use Rattle.std.proofs.lemmas.Str.Ascii.{IsAscii-cons, IsAscii-nil}
use Rattle.font_text.specs.Utf16.{unit_count, utf16_length}
use Rattle.fontinfo.specs.Keys.{IsShort}
use Rattle.fontinfo.specs.Version.{three_digits, version_text}

ascii_from : (bytes : List ℕ) → list_all is_ascii bytes ≡ true → IsAscii bytes
ascii_from [] is = IsAscii-nil
ascii_from (byte ∷ bytes) is =
    let parts = and_parts (is_ascii byte) (list_all is_ascii bytes) is in
    IsAscii-cons byte bytes (ltb-true byte 128 parts.0) (ascii_from bytes parts.1)

one_within : (c : ℕ) → unit_count c ≤ 2
one_within c = grind (arith, nat_tests)

-- no character takes more than two units
units_within : (cs : List ℕ) → sum_by unit_count cs ≤ 2 * length cs
units_within [] = omega arith
units_within (c ∷ cs) =
    let later = units_within cs in
    let here = one_within c in
    let total = sum_by-cons unit_count c cs in
    omega arith

ascii_short : (text : List ℕ) → IsAscii text → length text ≤ 50 → IsShort 100 text
unfolding utf16_length
ascii_short text ascii few =
    let most = units_within text in
    rw (chars-IsAscii text ascii) (omega arith)

pub untitled_short : IsShort 100 (codes "Untitled")
untitled_short = ascii_short (codes "Untitled") (ascii_from (codes "Untitled") refl) (omega arith)

pub regular_short : IsShort 100 (codes "Regular")
regular_short = ascii_short (codes "Regular") (ascii_from (codes "Regular") refl) (omega arith)

pub plain_version_short : IsShort 100 (codes "Version 0.000")
plain_version_short = ascii_short (codes "Version 0.000") (ascii_from (codes "Version 0.000") refl) (omega arith)

-- ---- the version

few_digits : (n : ℕ) → n ≤ 999 → length (decimal n) ≤ 3
few_digits n less = length-decimal-le 3 n (lit< tt) (omega arith) (omega arith)

number_ascii : (n : ℕ) → n ≤ 999 → IsAscii (decimal n)
number_ascii n less = IsAscii-decimal n (omega arith)

digits_ascii : (minor : ℕ) → minor ≤ 999 → IsAscii (three_digits minor)
digits_ascii minor less =
    IsAscii-append (decimal (minor / 100)) (decimal (minor / 10 % 10) ++ decimal (minor % 10)) (number_ascii (minor / 100) (omega arith))
    (IsAscii-append (decimal (minor / 10 % 10)) (decimal (minor % 10)) (number_ascii (minor / 10 % 10) (omega arith)) (number_ascii (minor % 10) (omega arith)))

digits_few : (minor : ℕ) → minor ≤ 999 → length (three_digits minor) ≤ 9
digits_few minor less =
    let hundreds = few_digits (minor / 100) (omega arith) in
    let tens = few_digits (minor / 10 % 10) (omega arith) in
    let ones = few_digits (minor % 10) (omega arith) in
    let later = length-append (decimal (minor / 10 % 10)) (decimal (minor % 10)) in
    let all = length-append (decimal (minor / 100)) (decimal (minor / 10 % 10) ++ decimal (minor % 10)) in
    omega arith

pub version_short : (major minor : ℕ) → major ≤ 999 → minor ≤ 999 → IsShort 100 (version_text major minor)
unfolding version_text
version_short major minor first second =
    let digits = few_digits major first in
    let later = digits_few minor second in
    let size = length-append (decimal major) (codes "." ++ three_digits minor) in
    ascii_short (codes "Version " ++ (decimal major ++ (codes "." ++ three_digits minor)))
    (IsAscii-append (codes "Version ") (decimal major ++ (codes "." ++ three_digits minor)) (ascii_from (codes "Version ") refl)
    (IsAscii-append (decimal major) (codes "." ++ three_digits minor) (number_ascii major first)
    (IsAscii-append (codes ".") (three_digits minor) (ascii_from (codes ".") refl) (digits_ascii minor second))))
    (omega arith)
