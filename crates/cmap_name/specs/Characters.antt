-- What the character map means (OpenType, "cmap"): a character's glyph by the subtable of Windows for all of Unicode
-- (platform 3, encoding 10) where it is there, else by the one for its first 65536 characters (encoding 1), and 0 where
-- neither is there. Subtables are read in format 4 and in format 12, each within the bytes that it says it has.
use Rattle.std.specs.Prelude.{◌≡◌, ℕ, ◌+◌, ◌-◌, ◌*◌, ◌/◌, ◌%◌, ◌≤◌, Bool, ◌&&◌, List, [], ◌∷◌, drop, Option, Some, None, if◌then◌else◌, nat_eq, nat_le}
use Rattle.basics.specs.Optional.{◌>>=◌}
use Rattle.be_bytes.specs.Reading.{prefix_of, records, uint16, uint32}
use Rattle.cmap_name.specs.declared.format_4.Segment.{Segment}
use Rattle.cmap_name.specs.declared.groups.Group.{Group}

-- ---- format 12

-- startCharCode, endCharCode, startGlyphID
abbrev pub group_in : List ℕ → Option Group
group_in bytes = do
  first ← uint32 bytes
  last ← uint32 (drop 4 bytes)
  glyph ← uint32 (drop 8 bytes)
  Some (record { first = first; last = last; glyph = glyph })

abbrev pub groups_in : List ℕ → Option (List Group)
groups_in bytes = do
  size ← uint32 (drop 4 bytes)
  own ← prefix_of size bytes
  count ← uint32 (drop 12 own)
  records group_in 12 count (drop 16 own)

abbrev pub is_in : Group → ℕ → Bool
is_in group c = nat_le group.first c && nat_le c group.last

-- by the first group that has the character, and 0 where none has it
abbrev pub glyph_in_groups : List Group → ℕ → ℕ
glyph_in_groups [] c = 0
glyph_in_groups (group ∷ groups) c = if is_in group c then group.glyph + (c - group.first) else glyph_in_groups groups c

-- ---- format 4

-- the items of four arrays of one length, segment by segment
abbrev pub zipped : List ℕ → List ℕ → List ℕ → List ℕ → List Segment
zipped (end ∷ ends) (start ∷ starts) (delta ∷ deltas) (offset ∷ offsets) =
    record { end_code = end; start_code = start; id_delta = delta; id_range_offset = offset } ∷ zipped ends starts deltas offsets
zipped _ _ _ _ = []

-- the segments, and the bytes from the idRangeOffset of the first one on
pub record Segments : Type 0 where
  pub segments : List Segment
  pub bytes : List ℕ

abbrev pub segments_in : List ℕ → Option Segments
segments_in bytes = do
  size ← uint16 (drop 2 bytes)
  own ← prefix_of size bytes
  doubled ← uint16 (drop 6 own)
  ends ← records uint16 2 (doubled / 2) (drop 14 own)
  starts ← records uint16 2 (doubled / 2) (drop (16 + doubled) own)
  deltas ← records uint16 2 (doubled / 2) (drop (16 + 2 * doubled) own)
  offsets ← records uint16 2 (doubled / 2) (drop (16 + 3 * doubled) own)
  Some (record { segments = zipped ends starts deltas offsets; bytes = drop (16 + 3 * doubled) own })

-- The glyph of a character of a segment: its code with idDelta added, modulo 65536, or where idRangeOffset isn't 0 what
-- stands so many bytes after that field, with idDelta added where it isn't 0.
abbrev pub glyph_in_segment : Segment → List ℕ → ℕ → Option ℕ
glyph_in_segment own bytes c =
    if nat_eq own.id_range_offset 0 then Some ((c + own.id_delta) % 65536)
    else (uint16 (drop (own.id_range_offset + 2 * (c - own.start_code)) bytes) >>= λ glyph. Some (if nat_eq glyph 0 then 0 else (glyph + own.id_delta) % 65536))

-- by the first segment that doesn't end before the character; the bytes are those from its idRangeOffset on
abbrev pub glyph_in_segments : List Segment → List ℕ → ℕ → Option ℕ
glyph_in_segments [] bytes c = Some 0
glyph_in_segments (own ∷ segments) bytes c =
    if nat_le c own.end_code then (if nat_le own.start_code c then glyph_in_segment own bytes c else Some 0)
    else glyph_in_segments segments (drop 2 bytes) c

-- ---- the table

-- the glyph of a character by a subtable, which is these bytes or what they begin with
abbrev pub glyph_in : List ℕ → ℕ → Option ℕ
glyph_in bytes c = do
  format ← uint16 bytes
  if nat_eq format 12 then (groups_in bytes >>= λ groups. Some (glyph_in_groups groups c)) else (if nat_eq format 4 then (segments_in bytes >>= λ own. glyph_in_segments own.segments own.bytes c) else None)

-- platformID, encodingID and the offset of the subtable
pub record EncodingRecord : Type 0 where
  pub platform : ℕ
  pub encoding : ℕ
  pub offset : ℕ

abbrev pub encoding_record_in : List ℕ → Option EncodingRecord
encoding_record_in bytes = do
  platform ← uint16 bytes
  encoding ← uint16 (drop 2 bytes)
  offset ← uint32 (drop 4 bytes)
  Some (record { platform = platform; encoding = encoding; offset = offset })

abbrev pub encoding_records_in : List ℕ → Option (List EncodingRecord)
encoding_records_in bytes = do
  version ← uint16 bytes
  count ← uint16 (drop 2 bytes)
  own ← records encoding_record_in 8 count (drop 4 bytes)
  if nat_eq version 0 then Some own else None

-- where the subtable of an encoding of Windows begins
abbrev pub offset_of : ℕ → List EncodingRecord → Option ℕ
offset_of encoding [] = None
offset_of encoding (own ∷ others) =
    if nat_eq own.platform 3 && nat_eq own.encoding encoding then Some own.offset else offset_of encoding others

-- by the subtable of encoding 10, else by that of encoding 1
abbrev pub glyph_by : List ℕ → Option ℕ → Option ℕ → ℕ → Option ℕ
glyph_by bytes (Some offset) basic c = glyph_in (drop offset bytes) c
glyph_by bytes None (Some offset) c = glyph_in (drop offset bytes) c
glyph_by bytes None None c = Some 0

-- the glyph of a character
abbrev pub glyph_of_character : List ℕ → ℕ → Option ℕ
glyph_of_character bytes c = do
  own ← encoding_records_in bytes
  glyph_by bytes (offset_of 10 own) (offset_of 1 own) c

-- the bytes from the subtable of an encoding of Windows on
abbrev pub subtable_in : List ℕ → ℕ → Option (List ℕ)
subtable_in bytes encoding = do
  own ← encoding_records_in bytes
  offset ← offset_of encoding own
  Some (drop offset bytes)

-- where both subtables are there, they give each character up to 0xFFFE the same glyph
abbrev pub Agree : List ℕ → Type 0
Agree bytes =
    (whole basic : List ℕ) (c : ℕ) → subtable_in bytes 10 ≡ Some whole → subtable_in bytes 1 ≡ Some basic
    → c ≤ 0xFFFE → glyph_in basic c ≡ glyph_in whole c
