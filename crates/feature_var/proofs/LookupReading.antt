-- The lookup list is read back as it was written.
use Rattle.std.proofs.Common.{◌≡◌, ℕ, ◌+◌, ◌-◌, ◌*◌, ◌^◌, ◌<◌, ◌≤◌, List, [], ◌∷◌, ◌++◌, length, drop, Some, refl, ap, ◌∙◌, arith, length-append, append_assoc}
use Rattle.std.proofs.lemmas.List.{append-nil, drop_at}
use Rattle.std.specs.List.{AllByRecursion, flat_map}
use Rattle.basics.specs.Optional.{each}
use Rattle.be_bytes.specs.Fields.{fields_bytes}
use Rattle.be_bytes.specs.Reading.{records, uint16, uint32}
use Rattle.be_bytes.specs.declared.field.Field.TheVariants.{Uint16, Uint32}
use Rattle.be_bytes.proofs.FieldLemmas.{uint16-field, uint32-field}
use Rattle.feature_var.specs.Lookups.{lookup_in, lookups_in, single_in, subtable_in}
use Rattle.feature_var.specs.Layout.{lookup_fields, lookup_list_bytes, lookup_offsets, lookups_from, places_from, single_bytes, single_size, word_bytes}
use Rattle.feature_var.proofs.Places.{array_size, each_more, length-places_from, places_fit, stands_at, words_back}
use Rattle.feature_var.proofs.SingleReading.{AreSingle, length-single, single_back}

-- ---- one lookup

read_extension : (bytes : List ℕ) (offset : ℕ) (pairs : List (ℕ × ℕ)) → uint16 bytes ≡ Some 1 → uint16 (drop 2 bytes) ≡ Some 1 → uint32 (drop 4 bytes) ≡ Some offset → single_in (drop offset bytes) ≡ Some pairs → subtable_in 7 bytes ≡ Some pairs
read_extension bytes offset pairs a b c d = rw (a, b, c, d) refl

read_lookup : (bytes : List ℕ) (pairs : List (ℕ × ℕ)) → uint16 bytes ≡ Some 7 → uint16 (drop 2 bytes) ≡ Some 0 → uint16 (drop 4 bytes) ≡ Some 1 → records uint16 2 1 (drop 6 bytes) ≡ Some (8 ∷ []) → subtable_in 7 (drop 8 bytes) ≡ Some pairs
    → lookup_in bytes ≡ Some (pairs ++ [])
read_lookup bytes pairs a b c d e = rw (a, b, c, d, e) refl

-- a lookup whose single substitution stands after these bytes
lookup_back : (offset : ℕ) (pairs : List (ℕ × ℕ)) (between after : List ℕ) → AreSingle pairs → offset ≡ 8 + length between → offset < 2 ^ 32 → lookup_in (fields_bytes (lookup_fields offset) ++ (between ++ (single_bytes pairs ++ after))) ≡ Some pairs
unfolding lookup_fields
lookup_back offset pairs between after are far small =
    let extension : List ℕ = fields_bytes (Uint16 1 ∷ Uint16 1 ∷ Uint32 offset ∷ []) in
    let behind : List ℕ = between ++ (single_bytes pairs ++ after) in
    read_lookup (fields_bytes (lookup_fields offset) ++ behind) pairs refl refl refl
    (words_back 1 (8 ∷ []) (extension ++ behind) refl (omega arith, tt))
    (read_extension (extension ++ behind) offset pairs refl refl (uint32-field offset behind small)
    (ap single_in (drop_at (extension ++ between) (single_bytes pairs ++ after) offset (omega arith)) ∙ single_back pairs after are))
    ∙ ap Some (append-nil pairs)

-- ---- all of them

pub length-lookups_from : (distance : ℕ) (lists : List (List (ℕ × ℕ))) → length (lookups_from distance lists) ≡ 16 * length lists
unfolding lookup_fields
length-lookups_from distance [] = refl
length-lookups_from distance (pairs ∷ lists) = omega (arith, length-lookups_from (distance + single_size pairs - 16) lists)

-- the first of the lookups that are left, and the first of the single substitutions, go to those before
next : (bytes front own more mid single singles rest : List ℕ) → bytes ≡ front ++ ((own ++ more) ++ (mid ++ ((single ++ singles) ++ rest))) → bytes ≡ (front ++ own) ++ (more ++ ((mid ++ single) ++ (singles ++ rest)))
next bytes front own more mid single singles rest spelled = spelled ∙ simp append_assoc

here : (bytes front own more mid single singles rest : List ℕ) (place : ℕ) → bytes ≡ front ++ ((own ++ more) ++ (mid ++ ((single ++ singles) ++ rest))) → length front ≡ place → drop place bytes ≡ own ++ ((more ++ mid) ++ (single ++ (singles ++ rest)))
here bytes front own more mid single singles rest place spelled sized =
    stands_at bytes front own more (mid ++ ((single ++ singles) ++ rest)) place spelled sized ∙ simp append_assoc

all_back : (lists : List (List (ℕ × ℕ))) (bytes front mid rest : List ℕ) (place distance : ℕ) → AllByRecursion AreSingle lists → bytes ≡ front ++ (lookups_from distance lists ++ (mid ++ (flat_map single_bytes lists ++ rest))) → length front ≡ place
    → distance ≡ 16 * length lists + length mid → distance + 16394 * length lists < 2 ^ 32 → each (λ (offset : ℕ). lookup_in (drop offset bytes)) (places_from 16 place (length lists)) ≡ Some lists
unfolding lookup_fields
all_back [] bytes front mid rest place distance are spelled sized far small = refl
all_back (pairs ∷ lists) bytes front mid rest place distance are spelled sized far small =
    let own : List ℕ = fields_bytes (lookup_fields (distance - 8)) in
    let more : List ℕ = lookups_from (distance + single_size pairs - 16) lists in
    let singles : List ℕ = flat_map single_bytes lists in
    let few : length pairs ≤ 4096 = are.0.few in
    let sized_more : length more ≡ 16 * length lists = length-lookups_from (distance + single_size pairs - 16) lists in
    each_more (λ (offset : ℕ). lookup_in (drop offset bytes)) place (places_from 16 (place + 16) (length lists)) pairs lists
    (ap lookup_in (here bytes front own more mid (single_bytes pairs) singles rest place spelled sized)
    ∙ lookup_back (distance - 8) pairs (more ++ mid) (singles ++ rest) are.0 (omega (arith, length-append more mid)) (omega arith))
    (all_back lists bytes (front ++ own) (mid ++ single_bytes pairs) rest (place + 16) (distance + single_size pairs - 16) are.1 (next bytes front own more mid (single_bytes pairs) singles rest spelled)
    (omega (arith, length-append front own)) (omega (arith, length-append mid (single_bytes pairs), length-single pairs)) (omega arith))

-- ---- the list

read_lookups : (bytes : List ℕ) (count : ℕ) (offsets : List ℕ) (lists : List (List (ℕ × ℕ))) → uint16 bytes ≡ Some count → records uint16 2 count (drop 2 bytes) ≡ Some offsets → each (λ (offset : ℕ). lookup_in (drop offset bytes)) offsets ≡ Some lists → lookups_in bytes ≡ Some lists
read_lookups bytes count offsets lists a b c = rw (a, b, c) refl

pub lookups_back : (lists : List (List (ℕ × ℕ))) (rest : List ℕ) → length lists ≤ 64 → AllByRecursion AreSingle lists → lookups_in (lookup_list_bytes lists ++ rest) ≡ Some lists
lookups_back lists rest few are =
    let count : ℕ = length lists in
    let bytes : List ℕ = lookup_list_bytes lists ++ rest in
    let offsets : List ℕ = lookup_offsets (length lists) in
    let front : List ℕ = word_bytes count ++ flat_map word_bytes offsets in
    let lookups : List ℕ = lookups_from (16 * count) lists in
    let singles : List ℕ = flat_map single_bytes lists in
    let counted : length offsets ≡ count = length-places_from 16 (2 + 2 * count) count in
    read_lookups bytes count offsets lists
    (uint16-field count ((flat_map word_bytes offsets ++ (lookups ++ singles)) ++ rest) (omega arith))
    (ap (records uint16 2 count) (append_assoc (flat_map word_bytes offsets) (lookups ++ singles) rest)
    ∙ words_back count offsets ((lookups ++ singles) ++ rest) counted (places_fit 16 (2 ^ 16) (2 + 2 * count) count (omega arith)))
    (all_back lists bytes front [] rest (2 + 2 * count) (16 * count) are (simp append_assoc) (omega (arith, array_size word_bytes 2 offsets (λ offset. refl), counted)) (omega arith) (omega arith))

singles_small : (lists : List (List (ℕ × ℕ))) → AllByRecursion AreSingle lists → length (flat_map single_bytes lists) ≤ 16394 * length lists
singles_small [] are = omega arith
singles_small (pairs ∷ lists) are = omega (arith, are.0.few, length-append (single_bytes pairs) (flat_map single_bytes lists), length-single pairs, singles_small lists are.1)

pub lookups_small : (lists : List (List (ℕ × ℕ))) → length lists ≤ 64 → AllByRecursion AreSingle lists → length (lookup_list_bytes lists) ≤ 1_050_370
lookups_small lists few are =
    omega (
      arith,
      length-append (flat_map word_bytes (lookup_offsets (length lists))) (lookups_from (16 * length lists) lists ++ flat_map single_bytes lists),
      length-append (lookups_from (16 * length lists) lists) (flat_map single_bytes lists),
      array_size word_bytes 2 (lookup_offsets (length lists)) (λ offset. refl),
      length-places_from 16 (2 + 2 * length lists) (length lists),
      length-lookups_from (16 * length lists) lists,
      singles_small lists are,
    )
