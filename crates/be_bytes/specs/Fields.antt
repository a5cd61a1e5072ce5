-- Big-endian fields as they are written (OpenType, "Data types"). A number with binary places, as F2DOT14 and Fixed,
-- is written by its raw number.
use Rattle.std.specs.Prelude.{ℕ, List, [], ◌∷◌}
use Rattle.std.specs.Int.{w16, w32, w64, cast_unsigned, to_be_bytes}
use Rattle.std.specs.List.{flat_map}
use Rattle.be_bytes.specs.declared.field.Field.{Field}
use Rattle.be_bytes.specs.declared.field.Field.TheVariants.{Uint8, Uint16, Int16, Uint32, Int32, Int64, Tag}

-- the bytes of a field
abbrev pub field_bytes : Field → List ℕ
field_bytes (Uint8 n) = n ∷ []
field_bytes (Uint16 n) = to_be_bytes w16 n
field_bytes (Int16 z) = to_be_bytes w16 (cast_unsigned w16 z)
field_bytes (Uint32 n) = to_be_bytes w32 n
field_bytes (Int32 z) = to_be_bytes w32 (cast_unsigned w32 z)
field_bytes (Int64 z) = to_be_bytes w64 (cast_unsigned w64 z)
field_bytes (Tag letters) = letters

-- fields one after another
abbrev pub fields_bytes : List Field → List ℕ
fields_bytes fields = flat_map field_bytes fields
