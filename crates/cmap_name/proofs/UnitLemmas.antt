-- A text in UTF-16 is read back, and has the size that its units tell.
use Rattle.std.proofs.Common.{◌≡◌, ℕ, ◌+◌, ◌*◌, ◌-◌, ◌/◌, ◌%◌, ◌^◌, ◌≤◌, ◌<◌, Bool, true, false, ◌&&◌, List, [], ◌∷◌, ◌++◌, length, length-append, get_or, drop, sum_by, Some, None, refl, sym, ap, ◌∙◌, append_assoc, subst, ◌⊎◌, inl, inr, ⊎_elim, arith}
use Rattle.std.proofs.lemmas.Bool.{cases_lt, lt-ltb, le-ltb}
use Rattle.std.proofs.lemmas.Bool.Decides.{nat_tests}
use Rattle.std.proofs.lemmas.Grind.{flat_map-append}
use Rattle.std.proofs.lemmas.List.{append-nil, at_drop_more}
use Rattle.std.proofs.lemmas.List.Sums.{sum_by-cons}
use Rattle.std.proofs.lemmas.Str.{encodes-chars, scalars-chars}
use Rattle.std.proofs.Math.Utf8.{scalar, scalar_cases, scalars}
use Rattle.std.specs.Prelude.{if◌then◌else◌, nat_eq, nat_lt}
use Rattle.std.specs.List.{AllByRecursion, flat_map}
use Rattle.std.specs.Str.{IsUtf8, chars, encode_utf8_all}
use Rattle.be_bytes.specs.Reading.{records, uint16}
use Rattle.font_text.specs.Utf16.{unit_count, utf16_length}
use Rattle.cmap_name.specs.CharacterLayout.{word}
use Rattle.cmap_name.specs.NameLayout.{text_bytes}
use Rattle.cmap_name.specs.Names.{text_in}
use Rattle.cmap_name.specs.Utf16.{characters_after, characters_in, is_high_surrogate, is_low_surrogate, paired, text_units, units_of}
use Rattle.cmap_name.proofs.FormatFour.{IsWord, words_read, words_size}

-- ---- a character

-- a character that is a unit, and one that is a pair
abbrev pub IsUnit : ℕ → Type 0
IsUnit c = (c < 0x10000) × (is_high_surrogate c ≡ false) × (is_low_surrogate c ≡ false)

abbrev high : ℕ → ℕ
high c = 0xD800 + (c - 0x10000) / 0x400

abbrev low : ℕ → ℕ
low c = 0xDC00 + (c - 0x10000) % 0x400

abbrev pub IsPair : ℕ → Type 0
IsPair c = (0x10000 ≤ c) × (c < 0x110000)

unit_low : (c : ℕ) → c < 55296 → IsUnit c
unit_low c is = (omega arith, grind (arith, nat_tests), grind (arith, nat_tests))

unit_above : (c : ℕ) → 57344 ≤ c → c < 0x10000 → IsUnit c
unit_above c is most = (most, grind (arith, nat_tests), grind (arith, nat_tests))

kind_of : (c : ℕ) → scalar c ≡ true → IsUnit c ⊎ IsPair c
kind_of c is =
    let above : (57344 ≤ c) × (c < 1114112) → IsUnit c ⊎ IsPair c = λ own. ⊎_elim (λ (small : c < 0x10000). inl (unit_above c own.0 small)) (λ (large : 0x10000 ≤ c). inr (large, own.1)) (cases_lt c 0x10000) in
    ⊎_elim (λ (small : c < 55296). inl (unit_low c small)) above (scalar_cases c is)

pair_surrogates : (c : ℕ) → IsPair c → (is_high_surrogate (high c) ≡ true) × (is_low_surrogate (low c) ≡ true) × (paired (high c) (low c) ≡ c) × (high c < 2 ^ 16) × (low c < 2 ^ 16)
pair_surrogates c own =
    let least = own.0 in
    let most = own.1 in
    let h : (c - 0x10000) / 0x400 < 0x400 = omega arith in
    let l : (c - 0x10000) % 0x400 < 0x400 = omega arith in
    let test : (n size : ℕ) → n < 0x400 → (is_high_surrogate (0xD800 + n) ≡ true) × (is_low_surrogate (0xDC00 + n) ≡ true) = λ n size small. (grind (arith, nat_tests), grind (arith, nat_tests)) in
    ((test ((c - 0x10000) / 0x400) 0 h).0, (test ((c - 0x10000) % 0x400) 0 l).1, omega arith, omega arith, omega arith)

read_unit : (c : ℕ) (rest cs : List ℕ) → is_high_surrogate c ≡ false → is_low_surrogate c ≡ false → characters_after None rest ≡ Some cs → characters_after None (c ∷ rest) ≡ Some (c ∷ cs)
read_unit c rest cs a b d = rw (a, b, d) refl

read_pair : (h l c : ℕ) (rest cs : List ℕ) → is_high_surrogate h ≡ true → is_low_surrogate l ≡ true → paired h l ≡ c → characters_after None rest ≡ Some cs → characters_after None (h ∷ l ∷ rest) ≡ Some (c ∷ cs)
read_pair h l c rest cs a b is d = rw (a, b, d) (ap (λ n. Some (n ∷ cs)) is)

-- the units of a character of each kind
unit_is : (c : ℕ) → IsUnit c → units_of c ≡ c ∷ []
unit_is c own = ap (λ (b : Bool). if b then c ∷ [] else high c ∷ low c ∷ []) (lt-ltb c 0x10000 own.0)

pair_is : (c : ℕ) → IsPair c → units_of c ≡ high c ∷ low c ∷ []
pair_is c own = ap (λ (b : Bool). if b then c ∷ [] else high c ∷ low c ∷ []) (le-ltb c 0x10000 own.0)

character_back : (c : ℕ) (rest cs : List ℕ) → scalar c ≡ true → characters_after None rest ≡ Some cs → characters_after None (units_of c ++ rest) ≡ Some (c ∷ cs)
character_back c rest cs is later =
    let of_unit : IsUnit c → characters_after None (units_of c ++ rest) ≡ Some (c ∷ cs) = λ own. ap (λ (us : List ℕ). characters_after None (us ++ rest)) (unit_is c own) ∙ read_unit c rest cs own.1 own.2 later in
    let of_pair : IsPair c → characters_after None (units_of c ++ rest) ≡ Some (c ∷ cs) = λ own.
    let both = pair_surrogates c own in
    ap (λ (us : List ℕ). characters_after None (us ++ rest)) (pair_is c own) ∙ read_pair (high c) (low c) c rest cs both.0 both.1 both.2 later in
    ⊎_elim of_unit of_pair (kind_of c is)

character_words : (c : ℕ) → scalar c ≡ true → AllByRecursion IsWord (units_of c)
character_words c is =
    let of_unit : IsUnit c → AllByRecursion IsWord (units_of c) = λ own. subst (AllByRecursion IsWord) (sym (unit_is c own)) (omega (arith, own.0), tt) in
    let of_pair : IsPair c → AllByRecursion IsWord (units_of c) = λ own. subst (AllByRecursion IsWord) (sym (pair_is c own)) ((pair_surrogates c own).3, ((pair_surrogates c own).4, tt)) in
    ⊎_elim of_unit of_pair (kind_of c is)

-- ---- a text

first_and_rest : (a b : Bool) → (a && b) ≡ true → (a ≡ true) × (b ≡ true)
first_and_rest true b is = (refl, is)
first_and_rest false b is = absurd cc

characters_back : (cs : List ℕ) → scalars cs ≡ true → characters_in (flat_map units_of cs) ≡ Some cs
characters_back [] is = refl
characters_back (c ∷ cs) is =
    let own = first_and_rest (scalar c) (scalars cs) is in
    character_back c (flat_map units_of cs) cs own.0 (characters_back cs own.1)

words_joined : (us vs : List ℕ) → AllByRecursion IsWord us → AllByRecursion IsWord vs → AllByRecursion IsWord (us ++ vs)
words_joined [] vs first second = second
words_joined (u ∷ us) vs first second = (first.0, words_joined us vs first.1 second)

units_words : (cs : List ℕ) → scalars cs ≡ true → AllByRecursion IsWord (flat_map units_of cs)
units_words [] is = tt
units_words (c ∷ cs) is =
    let own = first_and_rest (scalar c) (scalars cs) is in
    words_joined (units_of c) (flat_map units_of cs) (character_words c own.0) (units_words cs own.1)

read_text : (bytes units characters text : List ℕ) → records uint16 2 (length bytes / 2) bytes ≡ Some units → characters_in units ≡ Some characters → nat_eq (length bytes % 2) 0 ≡ true → encode_utf8_all characters ≡ text → text_in bytes ≡ Some text
read_text bytes units characters text a b c is = rw (a, b, c) (ap Some is)

pub text_back : (text : List ℕ) → IsUtf8 text → text_in (text_bytes text) ≡ Some text
text_back text valid =
    let units : List ℕ = text_units text in
    let bytes : List ℕ = text_bytes text in
    let are = scalars-chars text valid in
    let size : length bytes ≡ 2 * length units = words_size units in
    let half : length units ≡ length bytes / 2 = omega (arith, size) in
    let even : length bytes % 2 ≡ 0 = omega (arith, size) in
    read_text bytes units (chars text) text
    (ap (records uint16 2 (length bytes / 2)) (sym (append-nil bytes)) ∙ words_read units [] (length bytes / 2) half (units_words (chars text) are))
    (characters_back (chars text) are)
    (ap (λ n. nat_eq n 0) even)
    (encodes-chars text valid)

units_size : (c : ℕ) → length (units_of c) ≡ unit_count c
units_size c =
    let by_test : (b : Bool) → length (if b then c ∷ [] else high c ∷ low c ∷ []) ≡ (if b then 1 else 2) = λ b. elim b as (λ v. length (if v then c ∷ [] else high c ∷ low c ∷ []) ≡ (if v then 1 else 2)) [ true ↦ refl | false ↦ refl ] in
    by_test (nat_lt c 0x10000)

all_units_size : (cs : List ℕ) → length (flat_map units_of cs) ≡ sum_by unit_count cs
all_units_size [] = refl
all_units_size (c ∷ cs) =
    omega (arith, length-append (units_of c) (flat_map units_of cs), units_size c, all_units_size cs, sum_by-cons unit_count c cs)

pub text_size : (text : List ℕ) → length (text_bytes text) ≡ 2 * utf16_length text
unfolding utf16_length
text_size text = words_size (text_units text) ∙ ap (λ n. 2 * n) (all_units_size (chars text))

-- ---- one character on

pub units_drop : (cs : List ℕ) (n c : ℕ) → (n < length cs) × (c ≡ get_or cs n c) → flat_map word (flat_map units_of (drop n cs)) ≡ flat_map word (units_of c) ++ flat_map word (flat_map units_of (drop (n + 1) cs))
units_drop cs n c here =
    at_drop_more (λ (xs : List ℕ). flat_map word (flat_map units_of xs)) cs n c here.0
    ∙ flat_map-append word (units_of (get_or cs n c)) (flat_map units_of (drop (n + 1) cs))
    ∙ ap (λ x. flat_map word (units_of x) ++ flat_map word (flat_map units_of (drop (n + 1) cs))) (sym here.1)

-- what is appended is what was left
pub one_more : (old new own later all whole : List ℕ) → new ≡ old ++ own → all ≡ own ++ later → old ++ all ≡ whole → new ++ later ≡ whole
one_more old new own later all whole is split before =
    ap (λ (b : List ℕ). b ++ later) is ∙ append_assoc old own later ∙ ap (λ (b : List ℕ). old ++ b) (sym split) ∙ before
