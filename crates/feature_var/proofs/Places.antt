-- What is written one thing after another is read back: words, and blocks at the places that are told of them.
use Rattle.std.proofs.Common.{◌≡◌, ℕ, zero, suc, ◌+◌, ◌*◌, ◌^◌, ◌<◌, List, [], ◌∷◌, ◌++◌, length, map, drop, Option, Some, refl, sym, ap, ◌∙◌, arith, length-append, append_assoc}
use Rattle.std.proofs.lemmas.List.{drop_at}
use Rattle.std.specs.List.{AllByRecursion, flat_map}
use Rattle.basics.specs.Optional.{each}
use Rattle.be_bytes.specs.Reading.{records, uint16, uint32}
use Rattle.be_bytes.proofs.FieldLemmas.{uint16-field, uint32-field}
use Rattle.be_bytes.proofs.RecordLemmas.{ComesBack, each_of, records_back}
use Rattle.feature_var.specs.Layout.{long_bytes, places_from, word_bytes}

-- ---- words

abbrev pub IsWord : ℕ → Type 0
IsWord n = n < 2 ^ 16

abbrev pub IsLong : ℕ → Type 0
IsLong n = n < 2 ^ 32

word_back : (n : ℕ) → IsWord n → ComesBack word_bytes uint16 2 n
word_back n fits = record { size_is = refl; back = uint16-field n [] fits }

long_back : (n : ℕ) → IsLong n → ComesBack long_bytes uint32 4 n
long_back n fits = record { size_is = refl; back = uint32-field n [] fits }

-- so many words, before other bytes
pub words_back : (count : ℕ) (xs : List ℕ) (rest : List ℕ) → length xs ≡ count → AllByRecursion IsWord xs → records uint16 2 count (flat_map word_bytes xs ++ rest) ≡ Some xs
words_back count xs rest counted fit =
    ap (λ (n : ℕ). records uint16 2 n (flat_map word_bytes xs ++ rest)) (sym counted) ∙ records_back word_bytes uint16 2 xs rest (each_of IsWord (ComesBack word_bytes uint16 2) word_back xs fit)

pub longs_back : (count : ℕ) (xs : List ℕ) (rest : List ℕ) → length xs ≡ count → AllByRecursion IsLong xs → records uint32 4 count (flat_map long_bytes xs ++ rest) ≡ Some xs
longs_back count xs rest counted fit =
    ap (λ (n : ℕ). records uint32 4 n (flat_map long_bytes xs ++ rest)) (sym counted) ∙ records_back long_bytes uint32 4 xs rest (each_of IsLong (ComesBack long_bytes uint32 4) long_back xs fit)

-- the size of an array of items of one size
pub array_size : {A : Type 0} (spell : A → List ℕ) (size : ℕ) (xs : List A) → ((x : A) → length (spell x) ≡ size) → length (flat_map spell xs) ≡ size * length xs
array_size spell size [] each_size = omega arith
array_size spell size (x ∷ xs) each_size = omega (arith, length-append (spell x) (flat_map spell xs), each_size x, array_size spell size xs each_size)

-- what is written of a part of each item
pub flat_map-map : {A B : Type 0} (part : A → B) (spell : B → List ℕ) (xs : List A) → flat_map spell (map part xs) ≡ flat_map (λ x. spell (part x)) xs
flat_map-map part spell [] = refl
flat_map-map part spell (x ∷ xs) = ap (λ (bytes : List ℕ). spell (part x) ++ bytes) (flat_map-map part spell xs)

-- ---- blocks

pub each_more : {A B : Type 0} (f : A → Option B) (x : A) (xs : List A) (y : B) (ys : List B) → f x ≡ Some y → each f xs ≡ Some ys → each f (x ∷ xs) ≡ Some (y ∷ ys)
each_more f x xs y ys a b = rw (a, b) refl

-- the first of the blocks that are left goes to those before
pub further : (bytes front own more rest : List ℕ) → bytes ≡ front ++ ((own ++ more) ++ rest) → bytes ≡ (front ++ own) ++ (more ++ rest)
further bytes front own more rest spelled = spelled ∙ simp append_assoc

-- what stands at the place of the first of the blocks that are left
pub stands_at : (bytes front own more rest : List ℕ) (place : ℕ) → bytes ≡ front ++ ((own ++ more) ++ rest) → length front ≡ place → drop place bytes ≡ own ++ (more ++ rest)
stands_at bytes front own more rest place spelled size =
    ap (drop place) spelled ∙ (drop_at front ((own ++ more) ++ rest) place size ∙ append_assoc own more rest)

-- what is written of x has this size and is read as this value, whatever follows
pub record IsBlock {A B : Type 0} (spell : A → List ℕ) (size : ℕ) (read : List ℕ → Option B) (value : A → B) (x : A) : Type 0 where
  pub size_is : length (spell x) ≡ size
  pub back : (rest : List ℕ) → read (spell x ++ rest) ≡ Some (value x)

pub blocks_back : {A B : Type 0} (spell : A → List ℕ) (size : ℕ) (read : List ℕ → Option B) (value : A → B) (xs : List A) (bytes front rest : List ℕ) (place : ℕ)
    → AllByRecursion (IsBlock spell size read value) xs → bytes ≡ front ++ (flat_map spell xs ++ rest) → length front ≡ place
    → each (λ (offset : ℕ). read (drop offset bytes)) (places_from size place (length xs)) ≡ Some (map value xs)
blocks_back spell size read value [] bytes front rest place blocks spelled sized = refl
blocks_back spell size read value (x ∷ xs) bytes front rest place blocks spelled sized =
    each_more (λ (offset : ℕ). read (drop offset bytes)) place (places_from size (place + size) (length xs)) (value x) (map value xs)
    (ap read (stands_at bytes front (spell x) (flat_map spell xs) rest place spelled sized) ∙ blocks.0.back (flat_map spell xs ++ rest))
    (blocks_back spell size read value xs bytes (front ++ spell x) rest (place + size) blocks.1 (further bytes front (spell x) (flat_map spell xs) rest spelled)
    (omega (arith, length-append front (spell x), blocks.0.size_is)))

pub length-places_from : (size place count : ℕ) → length (places_from size place count) ≡ count
length-places_from size place zero = refl
length-places_from size place (suc count) = omega (arith, length-places_from size (place + size) count)

-- places are below a limit where all things end by it
pub places_fit : (size limit place count : ℕ) → place + size * count < limit → AllByRecursion (λ n. n < limit) (places_from size place count)
places_fit size limit place zero small = tt
places_fit size limit place (suc count) small = (omega arith, places_fit size limit (place + size) count (omega arith))
