-- A table of fixed fields, as the standard lists it: which field stands at which offset.
use Rattle.std.specs.Prelude.{◌≡◌, ℕ, ℤ, pos, List, drop, map, All, Some}
use Rattle.std.specs.Int.RustNames.{unsigned_abs}
use Rattle.be_bytes.specs.Fields.{fields_bytes}
use Rattle.be_bytes.specs.Reading.{int16, int32, int64, tag, uint8, uint16, uint32}
use Rattle.be_bytes.specs.declared.field.Field.{Field}
use Rattle.be_bytes.specs.declared.field.Field.TheVariants.{Uint8, Uint16, Int16, Uint32, Int32, Int64, Tag}

-- the start of the bytes is read as this field: by its type, and with its value
abbrev pub IsRead : Field → List ℕ → Type 0
IsRead (Uint8 n) bytes = uint8 bytes ≡ Some n
IsRead (Uint16 n) bytes = uint16 bytes ≡ Some n
IsRead (Int16 z) bytes = int16 bytes ≡ Some z
IsRead (Uint32 n) bytes = uint32 bytes ≡ Some n
IsRead (Int32 z) bytes = int32 bytes ≡ Some z
IsRead (Int64 z) bytes = int64 bytes ≡ Some z
IsRead (Tag letters) bytes = tag bytes ≡ Some letters

-- each field is read at its offset
abbrev pub AreRead : List (ℕ × Field) → List ℕ → Type 0
AreRead fields bytes = All (λ own. IsRead own.1 (drop own.0 bytes)) fields

-- the fields without their offsets
abbrev pub values_of : List (ℕ × Field) → List Field
values_of fields = map (λ own. own.1) fields

-- the fields one after another
abbrev pub table_bytes : List (ℕ × Field) → List ℕ
table_bytes fields = fields_bytes (values_of fields)

-- a number that isn't negative, as a uint16
abbrev pub word : ℤ → Field
word z = Uint16 (unsigned_abs z)
