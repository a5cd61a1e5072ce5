-- A field that is written is read back, whatever follows.
use Rattle.std.proofs.Common.{◌≡◌, ℕ, ℤ, ◌^◌, ◌<◌, List, [], ◌∷◌, ◌++◌, length, Some, FitsSigned, refl, sym, ap, subst, ◌∙◌, arith}
use Rattle.std.proofs.lemmas.Int.{ints}
use Rattle.std.proofs.lemmas.Nat.{from_be_bytes-to_be_bytes_2, from_be_bytes-to_be_bytes_4, from_be_bytes-to_be_bytes_8}
use Rattle.std.specs.Int.{w16, w32, w64, cast_signed, cast_unsigned}
use Rattle.be_bytes.specs.Fields.{field_bytes}
use Rattle.be_bytes.specs.Reading.{int16, int32, int64, tag, uint8, uint16, uint32}
use Rattle.be_bytes.specs.declared.field.Field.TheVariants.{Uint8, Uint16, Int16, Uint32, Int32, Int64, Tag}

pub uint8-field : (n : ℕ) (rest : List ℕ) → uint8 (field_bytes (Uint8 n) ++ rest) ≡ Some n
uint8-field n rest = refl

pub uint16-field : (n : ℕ) (rest : List ℕ) → n < 2 ^ 16 → uint16 (field_bytes (Uint16 n) ++ rest) ≡ Some n
uint16-field n rest fits = ap Some (from_be_bytes-to_be_bytes_2 n fits)

pub uint32-field : (n : ℕ) (rest : List ℕ) → n < 2 ^ 32 → uint32 (field_bytes (Uint32 n) ++ rest) ≡ Some n
uint32-field n rest fits = ap Some (from_be_bytes-to_be_bytes_4 n fits)

word_of : (z : ℤ) → FitsSigned w16 z → (cast_unsigned w16 z < 2 ^ 16) × (cast_signed w16 (cast_unsigned w16 z) ≡ z)
word_of z fits = (omega (arith, ints), omega (arith, ints))

long_of : (z : ℤ) → FitsSigned w32 z → (cast_unsigned w32 z < 2 ^ 32) × (cast_signed w32 (cast_unsigned w32 z) ≡ z)
long_of z fits = (omega (arith, ints), omega (arith, ints))

date_of : (z : ℤ) → FitsSigned w64 z → (cast_unsigned w64 z < 2 ^ 64) × (cast_signed w64 (cast_unsigned w64 z) ≡ z)
date_of z fits = (omega (arith, ints), omega (arith, ints))

pub int16-field : (z : ℤ) (rest : List ℕ) → FitsSigned w16 z → int16 (field_bytes (Int16 z) ++ rest) ≡ Some z
int16-field z rest fits =
    let own = word_of z fits in
    ap (λ n. Some (cast_signed w16 n)) (from_be_bytes-to_be_bytes_2 (cast_unsigned w16 z) own.0) ∙ ap Some own.1

pub int32-field : (z : ℤ) (rest : List ℕ) → FitsSigned w32 z → int32 (field_bytes (Int32 z) ++ rest) ≡ Some z
int32-field z rest fits =
    let own = long_of z fits in
    ap (λ n. Some (cast_signed w32 n)) (from_be_bytes-to_be_bytes_4 (cast_unsigned w32 z) own.0) ∙ ap Some own.1

pub int64-field : (z : ℤ) (rest : List ℕ) → FitsSigned w64 z → int64 (field_bytes (Int64 z) ++ rest) ≡ Some z
int64-field z rest fits =
    let own = date_of z fits in
    ap (λ n. Some (cast_signed w64 n)) (from_be_bytes-to_be_bytes_8 (cast_unsigned w64 z) own.0) ∙ ap Some own.1

-- the items of a list of four
pub four : (letters : List ℕ) → length letters ≡ 4 → (a : ℕ) × ((b : ℕ) × ((c : ℕ) × ((d : ℕ) × (letters ≡ a ∷ b ∷ c ∷ d ∷ []))))
four (a ∷ b ∷ c ∷ d ∷ []) size = (a, (b, (c, (d, refl))))
four [] size = absurd (omega arith)
four (a ∷ []) size = absurd (omega arith)
four (a ∷ b ∷ []) size = absurd (omega arith)
four (a ∷ b ∷ c ∷ []) size = absurd (omega arith)
four (a ∷ b ∷ c ∷ d ∷ e ∷ more) size = absurd (omega arith)

pub tag-field : (letters rest : List ℕ) → length letters ≡ 4 → tag (field_bytes (Tag letters) ++ rest) ≡ Some letters
tag-field letters rest size =
    let found = four letters size in
    subst (λ (own : List ℕ). tag (own ++ rest) ≡ Some own) (sym found.1.1.1.1) refl
