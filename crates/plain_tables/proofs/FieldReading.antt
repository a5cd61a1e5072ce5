-- Fields that are written one after another are read at their offsets.
use Rattle.std.proofs.Common.{◌≡◌, ℕ, ◌+◌, ◌^◌, ◌<◌, Bool, true, false, ◌&&◌, List, [], ◌∷◌, ◌++◌, length, drop, FitsSigned, refl, sym, ap, subst, ◌∙◌, arith, length-append, append_assoc}
use Rattle.std.proofs.lemmas.Bool.Decides.{Decides-eqb}
use Rattle.std.proofs.lemmas.List.{append-nil, drop_at}
use Rattle.std.proofs.lemmas.List.Elements.{All-from_recursion}
use Rattle.std.specs.Prelude.{nat_eq}
use Rattle.std.specs.Int.{w16, w32, w64}
use Rattle.std.specs.List.{AllByRecursion}
use Rattle.be_bytes.specs.Fields.{field_bytes}
use Rattle.be_bytes.specs.declared.field.Field.{Field}
use Rattle.be_bytes.specs.declared.field.Field.TheVariants.{Uint8, Uint16, Int16, Uint32, Int32, Int64, Tag}
use Rattle.be_bytes.proofs.FieldLemmas.{int16-field, int32-field, int64-field, tag-field, uint16-field, uint32-field, uint8-field}
use Rattle.plain_tables.specs.FixedFields.{AreRead, IsRead, table_bytes}

-- ---- a field

-- its value has the width of its type
abbrev pub Fits : Field → Type 0
Fits (Uint8 n) = Unit {0}
Fits (Uint16 n) = n < 2 ^ 16
Fits (Int16 z) = FitsSigned w16 z
Fits (Uint32 n) = n < 2 ^ 32
Fits (Int32 z) = FitsSigned w32 z
Fits (Int64 z) = FitsSigned w64 z
Fits (Tag letters) = length letters ≡ 4

abbrev pub size_of : Field → ℕ
size_of (Uint8 n) = 1
size_of (Uint16 n) = 2
size_of (Int16 z) = 2
size_of (Uint32 n) = 4
size_of (Int32 z) = 4
size_of (Int64 z) = 8
size_of (Tag letters) = 4

field_size : (field : Field) → Fits field → length (field_bytes field) ≡ size_of field
field_size (Uint8 n) fits = refl
field_size (Uint16 n) fits = refl
field_size (Int16 z) fits = refl
field_size (Uint32 n) fits = refl
field_size (Int32 z) fits = refl
field_size (Int64 z) fits = refl
field_size (Tag letters) fits = fits

field_read : (field : Field) (rest : List ℕ) → Fits field → IsRead field (field_bytes field ++ rest)
field_read (Uint8 n) rest fits = uint8-field n rest
field_read (Uint16 n) rest fits = uint16-field n rest fits
field_read (Int16 z) rest fits = int16-field z rest fits
field_read (Uint32 n) rest fits = uint32-field n rest fits
field_read (Int32 z) rest fits = int32-field z rest fits
field_read (Int64 z) rest fits = int64-field z rest fits
field_read (Tag letters) rest fits = tag-field letters rest fits

-- ---- fields one after another

-- each offset is where the field before it ends, from one on
abbrev pub follow : ℕ → List (ℕ × Field) → Bool
follow at [] = true
follow at (own ∷ fields) = nat_eq own.0 at && follow (at + size_of own.1) fields

both : (a b : Bool) → (a && b) ≡ true → (a ≡ true) × (b ≡ true)
both true true e = (refl, refl)
both true false e = absurd (cc)
both false b e = absurd (cc)

fields_read : (at : ℕ) (before : List ℕ) (fields : List (ℕ × Field)) (rest : List ℕ) → length before ≡ at → follow at fields ≡ true → AllByRecursion (λ own. Fits own.1) fields → AllByRecursion (λ own. IsRead own.1 (drop own.0 (before ++ (table_bytes fields ++ rest)))) fields
fields_read at before [] rest size order fit = tt
fields_read at before (own ∷ fields) rest size order fit =
    let first : List ℕ = field_bytes own.1 in
    let more : List ℕ = table_bytes fields in
    let tests = both (nat_eq own.0 at) (follow (at + size_of own.1) fields) order in
    let here : own.0 ≡ at = (Decides-eqb own.0 at).0 tests.0 in
    let joined : (first ++ more) ++ rest ≡ first ++ (more ++ rest) = append_assoc first more rest in
    let there : drop own.0 (before ++ ((first ++ more) ++ rest)) ≡ first ++ (more ++ rest) =
    ap (λ (n : ℕ). drop n (before ++ ((first ++ more) ++ rest))) here ∙ drop_at before ((first ++ more) ++ rest) at size ∙ joined in
    let whole : before ++ ((first ++ more) ++ rest) ≡ (before ++ first) ++ (more ++ rest) =
    ap (λ (bytes : List ℕ). before ++ bytes) joined ∙ sym (append_assoc before first (more ++ rest)) in (
      subst (IsRead own.1) (sym there) (field_read own.1 (more ++ rest) fit.0),
      subst (λ (bytes : List ℕ). AllByRecursion (λ (other : ℕ × Field). IsRead other.1 (drop other.0 bytes)) fields) (sym whole)
          (fields_read (at + size_of own.1) (before ++ first) fields rest (omega (arith, size, length-append before first, field_size own.1 fit.0)) tests.1 fit.1),
    )

-- a table's fields, with other bytes after them
pub table_read : (fields : List (ℕ × Field)) (rest : List ℕ) → follow 0 fields ≡ true → AllByRecursion (λ own. Fits own.1) fields → AreRead fields (table_bytes fields ++ rest)
table_read fields rest order fit =
    All-from_recursion (λ (own : ℕ × Field). IsRead own.1 (drop own.0 (table_bytes fields ++ rest))) fields (fields_read 0 [] fields rest refl order fit)

-- a table's fields alone
pub whole_read : (fields : List (ℕ × Field)) → follow 0 fields ≡ true → AllByRecursion (λ own. Fits own.1) fields → AreRead fields (table_bytes fields)
whole_read fields order fit = subst (AreRead fields) (append-nil (table_bytes fields)) (table_read fields [] order fit)

-- ---- their size

abbrev pub span : List (ℕ × Field) → ℕ
span [] = 0
span (own ∷ fields) = size_of own.1 + span fields

pub table_size : (fields : List (ℕ × Field)) → AllByRecursion (λ own. Fits own.1) fields → length (table_bytes fields) ≡ span fields
table_size [] fit = refl
table_size (own ∷ fields) fit =
    omega (arith, length-append (field_bytes own.1) (table_bytes fields), field_size own.1 fit.0, table_size fields fit.1)

-- ---- two lists of fields

pub table_append : (first second : List (ℕ × Field)) → table_bytes first ++ table_bytes second ≡ table_bytes (first ++ second)
table_append [] second = refl
table_append (own ∷ first) second =
    append_assoc (field_bytes own.1) (table_bytes first) (table_bytes second) ∙ ap (λ (bytes : List ℕ). field_bytes own.1 ++ bytes) (table_append first second)

pub fit_append : (first second : List (ℕ × Field)) → AllByRecursion (λ own. Fits own.1) first → AllByRecursion (λ own. Fits own.1) second → AllByRecursion (λ own. Fits own.1) (first ++ second)
fit_append [] second a b = b
fit_append (own ∷ first) second a b = (a.0, fit_append first second a.1 b)
