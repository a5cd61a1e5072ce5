-- What the table of the names means (OpenType, "name", version 0). A reading gives those of Windows (platform 3) in
-- Unicode (encoding 1) and English (language 0x0409), each with its id, in the order of their records.
use Rattle.std.specs.Prelude.{ℕ, ◌*◌, ◌/◌, ◌%◌, ◌≤◌, Bool, ◌&&◌, List, [], ◌∷◌, length, drop, Option, Some, None, if◌then◌else◌, nat_eq}
use Rattle.std.specs.List.{sum_by}
use Rattle.std.specs.Str.{encode_utf8_all}
use Rattle.basics.specs.Optional.{◌>>=◌}
use Rattle.be_bytes.specs.Reading.{prefix_of, records, uint16}
use Rattle.font_text.specs.Utf16.{utf16_length}
use Rattle.cmap_name.specs.Codes.{Rise}
use Rattle.cmap_name.specs.Utf16.{characters_in}

-- a text by its bytes, which are units of UTF-16; it is given in UTF-8
abbrev pub text_in : List ℕ → Option (List ℕ)
text_in bytes = do
  units ← records uint16 2 (length bytes / 2) bytes
  characters ← characters_in units
  if nat_eq (length bytes % 2) 0 then Some (encode_utf8_all characters) else None

-- platformID, encodingID, languageID, nameID, length, stringOffset
pub record NameRecord : Type 0 where
  pub platform : ℕ
  pub encoding : ℕ
  pub language : ℕ
  pub id : ℕ
  pub size : ℕ
  pub offset : ℕ

abbrev pub name_record_in : List ℕ → Option NameRecord
name_record_in bytes = do
  platform ← uint16 bytes
  encoding ← uint16 (drop 2 bytes)
  language ← uint16 (drop 4 bytes)
  id ← uint16 (drop 6 bytes)
  size ← uint16 (drop 8 bytes)
  offset ← uint16 (drop 10 bytes)
  Some (record { platform = platform; encoding = encoding; language = language; id = id; size = size; offset = offset })

abbrev pub is_english : NameRecord → Bool
is_english own = nat_eq own.platform 3 && nat_eq own.encoding 1 && nat_eq own.language 0x0409

-- the names of records; offsets count from the start of the texts
abbrev pub names_from : List ℕ → List NameRecord → Option (List (ℕ × List ℕ))
names_from texts [] = Some []
names_from texts (own ∷ others) =
    if is_english own then (prefix_of own.size (drop own.offset texts) >>= λ bytes. text_in bytes >>= λ text. names_from texts others >>= λ names. Some ((own.id, text) ∷ names))
    else names_from texts others

-- the names, each with its id
abbrev pub names_in : List ℕ → Option (List (ℕ × List ℕ))
names_in bytes = do
  version ← uint16 bytes
  count ← uint16 (drop 2 bytes)
  storage ← uint16 (drop 4 bytes)
  own ← records name_record_in 12 count (drop 6 bytes)
  names ← names_from (drop storage bytes) own
  if nat_eq version 0 then Some names else None

-- what a table of names can be made of
pub record AreNames (names : List (ℕ × List ℕ)) : Type 0 where
  pub rise : Rise 0 names
  pub few : length names ≤ 1000
  -- the bytes of UTF-16 of all texts
  pub small : sum_by (λ own. 2 * utf16_length own.1) names ≤ 65535
