-- How long texts are in UTF-16 that are joined, or cut down to ASCII.
use Rattle.std.proofs.Common.{◌≡◌, ℕ, zero, suc, ◌+◌, ◌<◌, ◌≤◌, ◌&&◌, cond, Bool, true, false, List, [], ◌∷◌, ◌++◌, codes, length, get_or, take, sum_by, nat_lt, refl, sym, ap, ◌∙◌, length-append, arith}
use Rattle.std.proofs.lemmas.Bool.{ltb-false, ltb-true}
use Rattle.std.proofs.lemmas.Bool.Decides.{nat_tests}
use Rattle.std.proofs.lemmas.List.{append-nil}
use Rattle.std.proofs.lemmas.List.Elements.{filter_more}
use Rattle.std.proofs.lemmas.List.Sums.{sum_by-append, sum_by-cons}
use Rattle.std.proofs.lemmas.Str.{IsUtf8-from_ascii, chars-IsAscii, chars-append, encodes-chars, length-encode}
use Rattle.std.proofs.Math.Utf8.{encode, encodes}
use Rattle.std.specs.Char.{len_utf8}
use Rattle.std.specs.List.{filter}
use Rattle.std.specs.Str.{IsAscii, IsUtf8, chars}
use Rattle.font_tables.specs.FontNames.{is_plain}
use Rattle.font_tables.specs.ShortNames.{with_plain}
use Rattle.font_text.specs.Utf16.{unit_count, utf16_length}

-- ---- no more units than bytes

one_within : (c : ℕ) → unit_count c ≤ len_utf8 c
one_within c = grind (arith, nat_tests)

units_within_encoded : (cs : List ℕ) → sum_by unit_count cs ≤ length (encodes cs)
units_within_encoded [] = omega arith
units_within_encoded (c ∷ cs) =
    let later = units_within_encoded cs in
    let here = one_within c in
    let size = length-encode c in
    let both = length-append (encode c) (encodes cs) in
    let total = sum_by-cons unit_count c cs in
    omega arith

pub units_within : (bytes : List ℕ) → IsUtf8 bytes → utf16_length bytes ≤ length bytes
unfolding utf16_length
units_within bytes valid = rw (encodes-chars bytes valid) at (units_within_encoded (chars bytes))

pub cut_length : (n : ℕ) (xs : List ℕ) → length (take n xs) ≤ n
cut_length zero xs = omega arith
cut_length (suc n) [] = omega arith
cut_length (suc n) (x ∷ xs) = let more = cut_length n xs in omega arith

-- ---- of texts that are joined

-- of two texts
pub joined_length : (a b : List ℕ) → IsUtf8 a → utf16_length (a ++ b) ≡ utf16_length a + utf16_length b
unfolding utf16_length
joined_length a b text = ap (sum_by unit_count) (chars-append a b text) ∙ sum_by-append unit_count (chars a) (chars b)

one_mark : (mark : List ℕ) → utf16_length mark ≡ 1 → IsUtf8 mark → (a b : List ℕ) → IsUtf8 a → utf16_length (a ++ (mark ++ b)) ≡ utf16_length a + (1 + utf16_length b)
one_mark mark one is_text a b text = joined_length a (mark ++ b) text ∙ ap (λ n. utf16_length a + n) (joined_length mark b is_text ∙ ap (λ n. n + utf16_length b) one)

ascii_mark : (byte : ℕ) → byte < 128 → IsAscii (byte ∷ [])
ascii_mark byte below zero = below
ascii_mark byte below (suc i) = omega arith

-- of two texts with a mark between them
pub semicolon_length : (a b : List ℕ) → IsUtf8 a → utf16_length (a ++ (codes ";" ++ b)) ≡ utf16_length a + (1 + utf16_length b)
unfolding utf16_length
semicolon_length a b text =
    let mark = ascii_mark 59 (omega arith) in
    one_mark (59 ∷ []) (ap (sum_by unit_count) (chars-IsAscii (59 ∷ []) mark)) (IsUtf8-from_ascii (59 ∷ []) mark) a b text

pub space_length : (a b : List ℕ) → IsUtf8 a → utf16_length (a ++ (codes " " ++ b)) ≡ utf16_length a + (1 + utf16_length b)
unfolding utf16_length
space_length a b text =
    let mark = ascii_mark 32 (omega arith) in
    one_mark (32 ∷ []) (ap (sum_by unit_count) (chars-IsAscii (32 ∷ []) mark)) (IsUtf8-from_ascii (32 ∷ []) mark) a b text

-- ---- cut at so many bytes

none_taken : (n : ℕ) → take {A = ℕ} n [] ≡ []
none_taken zero = refl
none_taken (suc n) = refl

-- what is cut off already stays so
pub cut_stays : (n : ℕ) (xs more : List ℕ) → n ≤ length (take n xs) → take n (xs ++ more) ≡ take n xs
cut_stays zero xs more far = refl
cut_stays (suc n) [] more far = absurd (omega arith)
cut_stays (suc n) (x ∷ xs) more far = ap (λ ys. x ∷ ys) (cut_stays n xs more (omega arith))

-- what isn't full gains a byte
pub one_kept : (n : ℕ) (xs : List ℕ) (x : ℕ) → length (take n xs) < n → take n (xs ++ x ∷ []) ≡ take n xs ++ x ∷ []
one_kept zero xs x room = absurd (omega arith)
one_kept (suc n) [] x room = ap (λ ys. x ∷ ys) (none_taken n)
one_kept (suc n) (y ∷ xs) x room = ap (λ ys. y ∷ ys) (one_kept n xs x (omega arith))

-- ---- one byte more

with_plain_is : (room fits : Bool) (xs : List ℕ) (byte : ℕ) → (room ≡ true → length (take 63 xs) < 63) → (room ≡ false → 63 ≤ length (take 63 xs))
    → cond (room && fits) (take 63 xs ++ byte ∷ []) (take 63 xs) ≡ take 63 (xs ++ cond fits (byte ∷ []) [])
with_plain_is true true xs byte some full = sym (one_kept 63 xs byte (some refl))
with_plain_is false true xs byte some full = sym (cut_stays 63 xs (byte ∷ []) (full refl))
with_plain_is true false xs byte some full = ap (take 63) (sym (append-nil xs))
with_plain_is false false xs byte some full = ap (take 63) (sym (append-nil xs))

pub plain_more : (text old : List ℕ) (i byte : ℕ) → i < length text → byte ≡ get_or text i 0 → old ≡ take 63 (filter is_plain (take i text))
    → with_plain old byte ≡ take 63 (filter is_plain (take (i + 1) text))
plain_more text old i byte here is so_far =
    let xs : List ℕ = filter is_plain (take i text) in
    let more : filter is_plain (take (i + 1) text) ≡ xs ++ cond (is_plain byte) (byte ∷ []) [] =
    filter_more is_plain text i 0 here ∙ ap (λ (b : ℕ). xs ++ cond (is_plain b) (b ∷ []) []) (sym is) in
    ap (λ (ys : List ℕ). with_plain ys byte) so_far
    ∙ with_plain_is (nat_lt (length (take 63 xs)) 63) (is_plain byte) xs byte (ltb-true (length (take 63 xs)) 63) (ltb-false (length (take 63 xs)) 63)
    ∙ ap (take 63) (sym more)
