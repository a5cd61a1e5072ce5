-- How the table is written, byte for byte.
use Rattle.std.specs.Prelude.{ℕ, ℤ, List, [], ◌∷◌, ◌++◌}
use Rattle.be_bytes.specs.Fields.{fields_bytes}
use Rattle.be_bytes.specs.declared.field.Field.{Field}
use Rattle.be_bytes.specs.declared.field.Field.TheVariants.{Uint16, Uint32}
use Rattle.variation_rules.specs.declared.region.Triple.{Triple}
use Rattle.item_var_store.specs.Layout.{store_bytes}

-- majorVersion, minorVersion, itemVariationStoreOffset, and no offsets of maps
unfoldable pub header_fields : List Field
header_fields = Uint16 1 ∷ Uint16 0 ∷ Uint32 20 ∷ Uint32 0 ∷ Uint32 0 ∷ Uint32 0 ∷ []

-- the header, and the store after it
abbrev pub table_bytes : ℕ → List (List Triple) → List (List ℤ) → List ℕ
table_bytes axes regions rows = fields_bytes header_fields ++ store_bytes axes regions rows
