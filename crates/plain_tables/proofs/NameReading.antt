-- The names of glyphs are read back as they were written.
use Rattle.std.proofs.Common.{◌≡◌, ℕ, zero, suc, ◌+◌, ◌-◌, ◌*◌, ◌^◌, ◌<◌, ◌≤◌, false, List, [], ◌∷◌, ◌++◌, length, drop, Option, Some, refl, sym, ap, ◌∙◌, arith, append_assoc, length-append}
use Rattle.std.proofs.lemmas.Bool.{le-ltb}
use Rattle.std.proofs.lemmas.List.{drop-drop, drop_at, length_push}
use Rattle.std.proofs.lemmas.List.Elements.{recursion_from_All}
use Rattle.std.specs.Prelude.{All, nat_lt}
use Rattle.std.specs.List.{AllByRecursion, flat_map}
use Rattle.basics.specs.Optional.{each}
use Rattle.be_bytes.specs.Reading.{records, uint16, uint32}
use Rattle.be_bytes.proofs.FieldLemmas.{uint16-field}
use Rattle.be_bytes.proofs.RecordLemmas.{ComesBack, prefix_at, records_back, records_size}
use Rattle.plain_tables.specs.Conditions.{AreFacts, IsNameWithin}
use Rattle.plain_tables.specs.GlyphNames.{index_bytes, name_after, name_bytes, name_in, name_of, names_in, numbers_from, post_bytes, post_fields}
use Rattle.plain_tables.specs.declared.facts.Facts.{Facts}

-- ---- indexes

numbers_push : (first count : ℕ) → numbers_from first (suc count) ≡ numbers_from first count ++ (first + count) ∷ []
numbers_push first zero = ap (λ (n : ℕ). n ∷ []) (omega arith)
numbers_push first (suc count) =
    let last : (first + 1) + count ≡ first + suc count = omega arith in
    ap (λ (ns : List ℕ). first ∷ ns) (numbers_push (first + 1) count ∙ ap (λ (n : ℕ). numbers_from (first + 1) count ++ n ∷ []) last)

pub numbers_more : (first count next : ℕ) → next ≡ count + 1 → numbers_from first next ≡ numbers_from first count ++ (first + count) ∷ []
numbers_more first count next is =
    let same : next ≡ suc count = omega arith in
    ap (numbers_from first) same ∙ numbers_push first count

numbers_count : (first count : ℕ) → length (numbers_from first count) ≡ count
numbers_count first zero = refl
numbers_count first (suc count) = ap suc (numbers_count (first + 1) count)

index_back : (index : ℕ) → index < 2 ^ 16 → ComesBack index_bytes uint16 2 index
index_back index fits = record { size_is = refl; back = uint16-field index [] fits }

each_index : (first count : ℕ) → first + count ≤ 2 ^ 16 → AllByRecursion (ComesBack index_bytes uint16 2) (numbers_from first count)
each_index first zero few = tt
each_index first (suc count) few = (index_back first (omega arith), each_index (first + 1) count (omega arith))

indexes_back : (first count : ℕ) (rest : List ℕ) → first + count ≤ 2 ^ 16 → records uint16 2 count (flat_map index_bytes (numbers_from first count) ++ rest) ≡ Some (numbers_from first count)
indexes_back first count rest few =
    let indexes : List ℕ = numbers_from first count in
    ap (λ (n : ℕ). records uint16 2 n (flat_map index_bytes indexes ++ rest)) (sym (numbers_count first count))
    ∙ records_back index_bytes uint16 2 indexes rest (each_index first count few)

indexes_size : (first count : ℕ) → first + count ≤ 2 ^ 16 → length (flat_map index_bytes (numbers_from first count)) ≡ 2 * count
indexes_size first count few =
    records_size index_bytes uint16 2 (numbers_from first count) (each_index first count few) ∙ ap (λ (n : ℕ). 2 * n) (numbers_count first count)

-- ---- names

name_here : (name rest : List ℕ) → name_in (name_bytes name ++ rest) ≡ Some name
name_here name rest = prefix_at name rest (length name) refl

name_step : (name rest : List ℕ) (count : ℕ) → name_after (suc count) (name_bytes name ++ rest) ≡ name_after count rest
name_step name rest count =
    let size : length (name_bytes name) ≡ 1 + length name = omega arith in
    ap (name_after count) (drop_at (name_bytes name) rest (1 + length name) size)

name_found : (before : List (List ℕ)) (name rest : List ℕ) → name_after (length before) (flat_map name_bytes before ++ (name_bytes name ++ rest)) ≡ Some name
name_found [] name rest = name_here name rest
name_found (first ∷ before) name rest =
    ap (name_after (suc (length before))) (append_assoc (name_bytes first) (flat_map name_bytes before) (name_bytes name ++ rest))
    ∙ name_step first (flat_map name_bytes before ++ (name_bytes name ++ rest)) (length before)
    ∙ name_found before name rest

own_index : (strings : List ℕ) (count : ℕ) → name_of strings (258 + count) ≡ name_after count strings
own_index strings count =
    let test : nat_lt (258 + count) 258 ≡ false = le-ltb (258 + count) 258 (omega arith) in
    let after : (258 + count) - 258 ≡ count = omega arith in
    rw test (ap (λ (n : ℕ). name_after n strings) after)

flat_append : (before names : List (List ℕ)) → flat_map name_bytes (before ++ names) ≡ flat_map name_bytes before ++ flat_map name_bytes names
flat_append [] names = refl
flat_append (name ∷ before) names =
    ap (λ (bytes : List ℕ). name_bytes name ++ bytes) (flat_append before names)
    ∙ sym (append_assoc (name_bytes name) (flat_map name_bytes before) (flat_map name_bytes names))

one_name_more : (f : ℕ → Option (List ℕ)) (index : ℕ) (indexes : List ℕ) (name : List ℕ) (names : List (List ℕ)) → f index ≡ Some name → each f indexes ≡ Some names → each f (index ∷ indexes) ≡ Some (name ∷ names)
one_name_more f index indexes name names first more = rw (first, more) refl

names_each : (before names : List (List ℕ)) (count : ℕ) → length before ≡ count → each (name_of (flat_map name_bytes (before ++ names))) (numbers_from (258 + count) (length names)) ≡ Some names
names_each before [] count counted = refl
names_each before (name ∷ names) count counted =
    let strings : List ℕ = flat_map name_bytes (before ++ (name ∷ names)) in
    let found : name_of strings (258 + count) ≡ Some name =
    own_index strings count
    ∙ ap (λ (n : ℕ). name_after n strings) (sym counted)
    ∙ ap (name_after (length before)) (flat_append before (name ∷ names))
    ∙ name_found before name (flat_map name_bytes names) in
    let size : length (before ++ name ∷ []) ≡ count + 1 = length_push before name ∙ ap (λ (n : ℕ). n + 1) counted in
    let next : 258 + (count + 1) ≡ (258 + count) + 1 = omega arith in
    one_name_more (name_of strings) (258 + count) (numbers_from ((258 + count) + 1) (length names)) name names found
    (ap (λ (n : ℕ). each (name_of strings) (numbers_from n (length names))) (sym next)
    ∙ ap (λ (all : List (List ℕ)). each (name_of (flat_map name_bytes all)) (numbers_from (258 + (count + 1)) (length names))) (sym (append_assoc before (name ∷ []) names))
    ∙ names_each (before ++ name ∷ []) names (count + 1) size)

-- ---- the table

read_names : (bytes : List ℕ) (glyphs : ℕ) (indexes : List ℕ) (names : List (List ℕ)) → uint32 bytes ≡ Some 0x0002_0000 → uint16 (drop 32 bytes) ≡ Some glyphs → records uint16 2 glyphs (drop 34 bytes) ≡ Some indexes → each (name_of (drop (34 + 2 * glyphs) bytes)) indexes ≡ Some names → names_in bytes ≡ Some names
read_names bytes glyphs indexes names a b c d = rw (a, b, c, d) refl

pub post_back : (facts : Facts) → length facts.names ≤ 32510 → names_in (post_bytes facts) ≡ Some facts.names
unfolding post_fields
post_back facts few =
    let n : ℕ = length facts.names in
    let bytes : List ℕ = post_bytes facts in
    let indexes : List ℕ = flat_map index_bytes (numbers_from 258 n) in
    let strings : List ℕ = flat_map name_bytes facts.names in
    let after : drop (34 + 2 * n) bytes ≡ strings =
    sym (drop-drop (2 * n) 34 bytes) ∙ drop_at indexes strings (2 * n) (indexes_size 258 n (omega arith)) in
    read_names bytes n (numbers_from 258 n) facts.names refl
    (uint16-field n (indexes ++ strings) (omega arith))
    (indexes_back 258 n strings (omega arith))
    (ap (λ (own : List ℕ). each (name_of own) (numbers_from 258 n)) after ∙ names_each [] facts.names 0 refl)

names_size : (names : List (List ℕ)) → AllByRecursion IsNameWithin names → length (flat_map name_bytes names) ≤ 64 * length names
names_size [] each = omega arith
names_size (name ∷ names) each =
    omega (arith, length-append (name_bytes name) (flat_map name_bytes names), each.0.greatest, names_size names each.1)

pub post_size : (facts : Facts) → AreFacts facts → length (post_bytes facts) ≤ 34 + 66 * length facts.names
unfolding post_fields
post_size facts own =
    let n : ℕ = length facts.names in
    let indexes : List ℕ = flat_map index_bytes (numbers_from 258 n) in
    let strings : List ℕ = flat_map name_bytes facts.names in
    omega (arith, length-append indexes strings, indexes_size 258 n (omega (arith, own.greatest)), names_size facts.names (recursion_from_All IsNameWithin facts.names own.names))
