-- How the table of the names is written, byte for byte: each text by itself, in the order of the records.
use Rattle.std.specs.Prelude.{ℕ, ◌+◌, ◌*◌, List, [], ◌∷◌, ◌++◌, length}
use Rattle.std.specs.List.{flat_map}
use Rattle.be_bytes.specs.Fields.{fields_bytes}
use Rattle.be_bytes.specs.declared.field.Field.{Field}
use Rattle.be_bytes.specs.declared.field.Field.TheVariants.{Uint16}
use Rattle.cmap_name.specs.CharacterLayout.{word}
use Rattle.cmap_name.specs.Names.{NameRecord}
use Rattle.cmap_name.specs.Utf16.{text_units}

-- a text in UTF-16, which is given in UTF-8
abbrev pub text_bytes : List ℕ → List ℕ
text_bytes text = flat_map word (text_units text)

-- platformID, encodingID, languageID, nameID, length, stringOffset
unfoldable pub name_fields : NameRecord → List Field
name_fields own =
    Uint16 own.platform ∷ Uint16 own.encoding ∷ Uint16 own.language ∷ Uint16 own.id ∷ Uint16 own.size ∷ Uint16 own.offset ∷ []

abbrev pub name_record_bytes : NameRecord → List ℕ
name_record_bytes own = fields_bytes (name_fields own)

-- the records of names whose texts stand one after another from this offset on
abbrev pub name_records_from : ℕ → List (ℕ × List ℕ) → List NameRecord
name_records_from offset [] = []
name_records_from offset (own ∷ others) =
    record { platform = 3; encoding = 1; language = 0x0409; id = own.0; size = length (text_bytes own.1); offset = offset }
    ∷ name_records_from (offset + length (text_bytes own.1)) others

-- version, count, storageOffset, the records, and the texts
abbrev pub name_bytes : List (ℕ × List ℕ) → List ℕ
name_bytes names =
    fields_bytes (Uint16 0 ∷ Uint16 (length names) ∷ Uint16 (6 + 12 * length names) ∷ [])
    ++ (flat_map name_record_bytes (name_records_from 0 names) ++ flat_map (λ own. text_bytes own.1) names)
