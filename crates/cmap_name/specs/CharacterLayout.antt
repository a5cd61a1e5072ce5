-- How the character map is written, byte for byte, and which subtables it has.
use Rattle.std.specs.Prelude.{◌≡◌, ℕ, ◌+◌, ◌-◌, ◌*◌, ◌%◌, Bool, not, ◌||◌, List, [], ◌∷◌, ◌++◌, length, map, if◌then◌else◌, nat_le, IsTrue}
use Rattle.std.specs.Int.{w16, to_be_bytes}
use Rattle.std.specs.List.{flat_map, list_any}
use Rattle.be_bytes.specs.Fields.{fields_bytes}
use Rattle.be_bytes.specs.declared.field.Field.{Field}
use Rattle.be_bytes.specs.declared.field.Field.TheVariants.{Uint16, Uint32}
use Rattle.search_fields.specs.SearchFields.{AreSearchFields}
use Rattle.search_fields.specs.declared.SearchFields.{SearchFields}
use Rattle.cmap_name.specs.Characters.{EncodingRecord}
use Rattle.cmap_name.specs.Groups.{basic_codes, exceeds, groups_of}
use Rattle.cmap_name.specs.declared.format_4.Array.{Array}
use Rattle.cmap_name.specs.declared.format_4.Array.TheVariants.{EndCode, StartCode, IdDelta, IdRangeOffset}
use Rattle.cmap_name.specs.declared.format_4.Segment.{Segment}
use Rattle.cmap_name.specs.declared.groups.Group.{Group}

-- ---- format 4

abbrev pub segment_of : Group → Segment
segment_of group =
    record { end_code = group.last; start_code = group.first; id_delta = (group.glyph + 65536 - group.first) % 65536; id_range_offset = 0 }

-- the segment that ends the search of each character; it gives 0xFFFF the glyph 0
abbrev pub last_segment : Segment
last_segment = record { end_code = 0xFFFF; start_code = 0xFFFF; id_delta = 1; id_range_offset = 0 }

abbrev pub segments_of : List Group → List Segment
segments_of groups = map segment_of groups ++ last_segment ∷ []

-- format, length, language, segCountX2, searchRange, entrySelector, rangeShift
unfoldable pub format_4_fields : ℕ → SearchFields → List Field
format_4_fields count search =
    Uint16 4 ∷ Uint16 (16 + 8 * count) ∷ Uint16 0 ∷ Uint16 (2 * count) ∷ Uint16 search.search_range ∷ Uint16 search.entry_selector ∷ Uint16 search.range_shift ∷ []

-- what an array has of a segment
abbrev pub item_of : Array → Segment → ℕ
item_of EndCode own = own.end_code
item_of StartCode own = own.start_code
item_of IdDelta own = own.id_delta
item_of IdRangeOffset own = own.id_range_offset

abbrev pub word : ℕ → List ℕ
word n = to_be_bytes w16 n

abbrev pub array_bytes : Array → List Segment → List ℕ
array_bytes array segments = flat_map word (map (item_of array) segments)

-- endCode, reservedPad, startCode, idDelta, idRangeOffset
abbrev pub format_4_bytes : SearchFields → List Segment → List ℕ
format_4_bytes search segments =
    fields_bytes (format_4_fields (length segments) search)
    ++ (array_bytes EndCode segments ++ (word 0 ++ (array_bytes StartCode segments ++ (array_bytes IdDelta segments ++ array_bytes IdRangeOffset segments))))

-- the subtable in format 4 of these runs
pub record IsFormat4 (groups : List Group) (bytes : List ℕ) : Type 0 where
  pub search : SearchFields
  pub search_are : AreSearchFields 2 (length groups + 1) search
  pub bytes_are : bytes ≡ format_4_bytes search (segments_of groups)

-- ---- format 12

-- format, reserved, length, language, numGroups
unfoldable pub format_12_fields : ℕ → List Field
format_12_fields count = Uint16 12 ∷ Uint16 0 ∷ Uint32 (16 + 12 * count) ∷ Uint32 0 ∷ Uint32 count ∷ []

-- startCharCode, endCharCode, startGlyphID
unfoldable pub group_fields : Group → List Field
group_fields group = Uint32 group.first ∷ Uint32 group.last ∷ Uint32 group.glyph ∷ []

abbrev pub group_bytes : Group → List ℕ
group_bytes group = fields_bytes (group_fields group)

abbrev pub format_12_bytes : List Group → List ℕ
format_12_bytes groups = fields_bytes (format_12_fields (length groups)) ++ flat_map group_bytes groups

-- ---- the table

-- platformID, encodingID, and the offset of the subtable
unfoldable pub encoding_fields : EncodingRecord → List Field
encoding_fields own = Uint16 own.platform ∷ Uint16 own.encoding ∷ Uint32 own.offset ∷ []

abbrev pub encoding_bytes : EncodingRecord → List ℕ
encoding_bytes own = fields_bytes (encoding_fields own)

-- the records of subtables of Windows, each with its encoding, which stand one after another from this offset on
abbrev pub encodings_from : ℕ → List (ℕ × List ℕ) → List EncodingRecord
encodings_from offset [] = []
encodings_from offset (own ∷ others) =
    record { platform = 3; encoding = own.0; offset = offset } ∷ encodings_from (offset + length own.1) others

-- version, numTables, the encoding records, and the subtables
abbrev pub cmap_bytes : List (ℕ × List ℕ) → List ℕ
cmap_bytes subtables =
    fields_bytes (Uint16 0 ∷ Uint16 (length subtables) ∷ [])
    ++ (flat_map encoding_bytes (encodings_from (4 + 8 * length subtables) subtables) ++ flat_map (λ own. own.1) subtables)

-- Encoding 1 is there unless its format 4 needs more than 8189 segments, the last one included.
abbrev pub has_basic : List (ℕ × ℕ) → Bool
has_basic codes = nat_le (length (groups_of (basic_codes codes)) + 1) 8189

-- Encoding 10 is there where a code exceeds 0xFFFF, or where encoding 1 isn't there.
abbrev pub has_whole : List (ℕ × ℕ) → Bool
has_whole codes = list_any exceeds codes || not (has_basic codes)

-- the subtables that are there, in the order of their encodings
abbrev pub subtables_of : List (ℕ × ℕ) → List ℕ → List (ℕ × List ℕ)
subtables_of codes basic =
    (if has_basic codes then (1, basic) ∷ [] else []) ++ (if has_whole codes then (10, format_12_bytes (groups_of codes)) ∷ [] else [])

pub record IsCharacterMap (codes : List (ℕ × ℕ)) (bytes : List ℕ) : Type 0 where
  -- the subtable of encoding 1, where it is there
  pub basic : List ℕ
  pub basic_is : IsTrue (has_basic codes) → IsFormat4 (groups_of (basic_codes codes)) basic
  pub bytes_are : bytes ≡ cmap_bytes (subtables_of codes basic)
