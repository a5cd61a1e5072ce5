-- How the table is written, byte for byte: a header, one script, one feature, the lookups, and what varies over the
-- design space. Each offset counts from the start of the table that has it.
use Rattle.std.specs.Prelude.{ℕ, zero, suc, ◌+◌, ◌-◌, ◌*◌, ℤ, pos, neg_ℤ, Bool, ◌&&◌, List, [], ◌∷◌, ◌++◌, codes, length, map, Option, Some, None, if◌then◌else◌}
use Rattle.std.specs.BTreeMap.{insert_entry}
use Rattle.std.specs.List.{flat_map}
use Rattle.std.specs.Ordering.{int_eq, nat_cmp}
use Rattle.be_bytes.specs.Fields.{field_bytes, fields_bytes}
use Rattle.be_bytes.specs.declared.field.Field.{Field}
use Rattle.be_bytes.specs.declared.field.Field.TheVariants.{Int16, Tag, Uint16, Uint32}
use Rattle.rule_boxes.specs.declared.condition.Condition.{Condition}
use Rattle.rule_boxes.specs.declared.cell.Cell.{Cell}
use Rattle.feature_var.specs.Meaning.{feature_tag}

-- where things of one size stand, so many one after another from a place on
abbrev pub places_from : ℕ → ℕ → ℕ → List ℕ
places_from size place zero = []
places_from size place (suc count) = place ∷ places_from size (place + size) count

-- the number of a glyph or of a lookup, or an offset of 16 bits
abbrev pub word_bytes : ℕ → List ℕ
word_bytes n = field_bytes (Uint16 n)

abbrev pub long_bytes : ℕ → List ℕ
long_bytes n = field_bytes (Uint32 n)

-- ---- lookups

-- the pairs by rising first glyphs; of several with one first glyph the first alone
abbrev pub in_glyph_order : List (ℕ × ℕ) → List (ℕ × ℕ)
in_glyph_order [] = []
in_glyph_order (pair ∷ pairs) = insert_entry nat_cmp (in_glyph_order pairs) pair.0 pair.1

-- substFormat, coverageOffset, glyphCount
unfoldable pub single_fields : ℕ → List Field
single_fields count = Uint16 2 ∷ Uint16 (6 + 2 * count) ∷ Uint16 count ∷ []

-- coverageFormat, glyphCount
unfoldable pub coverage_fields : ℕ → List Field
coverage_fields count = Uint16 1 ∷ Uint16 count ∷ []

-- a single substitution: the glyphs that replace others, and after them the coverage, which has those others
abbrev pub single_bytes : List (ℕ × ℕ) → List ℕ
single_bytes pairs =
    fields_bytes (single_fields (length pairs)) ++ (flat_map (λ pair. word_bytes pair.1) pairs
    ++ (fields_bytes (coverage_fields (length pairs)) ++ flat_map (λ pair. word_bytes pair.0) pairs))

abbrev pub single_size : List (ℕ × ℕ) → ℕ
single_size pairs = 10 + 4 * length pairs

-- lookupType, lookupFlag, subTableCount and the offset of the subtable, which is an extension: substFormat,
-- extensionLookupType, extensionOffset
unfoldable pub lookup_fields : ℕ → List Field
lookup_fields offset = Uint16 7 ∷ Uint16 0 ∷ Uint16 1 ∷ Uint16 8 ∷ Uint16 1 ∷ Uint16 1 ∷ Uint32 offset ∷ []

-- the lookups of lists of pairs; the first one's single substitution is so far from it
abbrev pub lookups_from : ℕ → List (List (ℕ × ℕ)) → List ℕ
lookups_from distance [] = []
lookups_from distance (pairs ∷ lists) =
    fields_bytes (lookup_fields (distance - 8)) ++ lookups_from (distance + single_size pairs - 16) lists

-- the offsets of so many lookups, each of 16 bytes
abbrev pub lookup_offsets : ℕ → List ℕ
lookup_offsets count = places_from 16 (2 + 2 * count) count

-- the lookup list: lookupCount, the offsets of the lookups, the lookups, and after all of them the single substitutions
abbrev pub lookup_list_bytes : List (List (ℕ × ℕ)) → List ℕ
lookup_list_bytes lists =
    word_bytes (length lists) ++ (flat_map word_bytes (lookup_offsets (length lists))
    ++ (lookups_from (16 * length lists) lists ++ flat_map single_bytes lists))

-- ---- variations

-- whether the two are the ends of a whole axis
abbrev pub is_whole : ℤ → ℤ → Bool
is_whole low high = int_eq low (neg_ℤ (pos 16384)) && int_eq high (pos 16384)

-- a condition for each axis but the whole ones, the first axis counted as this number
abbrev pub conditions_from : ℕ → List ℤ → List ℤ → List Condition
conditions_from axis (low ∷ lows) (high ∷ highs) =
    if is_whole low high then conditions_from (axis + 1) lows highs
    else (record { axis = axis; low = low; high = high }) ∷ conditions_from (axis + 1) lows highs
conditions_from axis _ _ = []

abbrev pub conditions_of : Cell → List Condition
conditions_of cell = conditions_from 0 cell.low.items cell.high.items

-- format, axisIndex, filterRangeMinValue, filterRangeMaxValue
unfoldable pub condition_fields : Condition → List Field
condition_fields condition = Uint16 1 ∷ Uint16 condition.axis ∷ Int16 condition.low ∷ Int16 condition.high ∷ []

abbrev pub condition_bytes : Condition → List ℕ
condition_bytes condition = fields_bytes (condition_fields condition)

-- the offsets of so many conditions, each of 8 bytes
abbrev pub condition_offsets : ℕ → List ℕ
condition_offsets count = places_from 8 (2 + 4 * count) count

-- conditionCount, the offsets of the conditions, and the conditions
abbrev pub condition_set_bytes : List Condition → List ℕ
condition_set_bytes conditions =
    word_bytes (length conditions) ++ (flat_map long_bytes (condition_offsets (length conditions))
    ++ flat_map condition_bytes conditions)

abbrev pub condition_set_size : List Condition → ℕ
condition_set_size conditions = 2 + 12 * length conditions

-- majorVersion, minorVersion, substitutionCount, featureIndex and alternateFeatureOffset; of that feature
-- featureParamsOffset and lookupIndexCount
unfoldable pub alternate_fields : ℕ → List Field
alternate_fields count = Uint16 1 ∷ Uint16 0 ∷ Uint16 1 ∷ Uint16 0 ∷ Uint32 12 ∷ Uint16 0 ∷ Uint16 count ∷ []

-- the feature in place of the first one, which lists the lookups of these numbers
abbrev pub alternate_bytes : List ℕ → List ℕ
alternate_bytes numbers = fields_bytes (alternate_fields (length numbers)) ++ flat_map word_bytes numbers

abbrev pub alternate_size : List ℕ → ℕ
alternate_size numbers = 16 + 2 * length numbers

-- what a record refers to: its condition set, and after it the feature that it gives
abbrev pub block_bytes : Cell → List ℕ
block_bytes cell = condition_set_bytes (conditions_of cell) ++ alternate_bytes cell.rules

abbrev pub block_size : Cell → ℕ
block_size cell = condition_set_size (conditions_of cell) + alternate_size cell.rules

-- conditionSetOffset, featureTableSubstitutionOffset
unfoldable pub record_fields : ℕ × ℕ → List Field
record_fields offsets = Uint32 offsets.0 ∷ Uint32 offsets.1 ∷ []

abbrev pub record_bytes : ℕ × ℕ → List ℕ
record_bytes offsets = fields_bytes (record_fields offsets)

-- the offsets of each record, where their blocks stand one after another from a place on
abbrev pub records_from : ℕ → List Cell → List (ℕ × ℕ)
records_from place [] = []
records_from place (cell ∷ cells) =
    (place, place + condition_set_size (conditions_of cell)) ∷ records_from (place + block_size cell) cells

-- majorVersion, minorVersion, featureVariationRecordCount
unfoldable pub variations_fields : ℕ → List Field
variations_fields count = Uint16 1 ∷ Uint16 0 ∷ Uint32 count ∷ []

-- the records, and after all of them their blocks
abbrev pub variations_bytes : List Cell → List ℕ
variations_bytes cells =
    fields_bytes (variations_fields (length cells)) ++ (flat_map record_bytes (records_from (8 + 8 * length cells) cells)
    ++ flat_map block_bytes cells)

-- ---- the table

-- majorVersion, minorVersion, scriptListOffset, featureListOffset, lookupListOffset, featureVariationsOffset
unfoldable pub header_fields : ℕ → List Field
header_fields variations = Uint16 1 ∷ Uint16 1 ∷ Uint16 14 ∷ Uint16 34 ∷ Uint16 46 ∷ Uint32 variations ∷ []

-- scriptCount, the script's tag and offset; defaultLangSysOffset, langSysCount; lookupOrderOffset,
-- requiredFeatureIndex, featureIndexCount, and feature 0
unfoldable pub script_fields : List Field
script_fields =
    Uint16 1 ∷ Tag (codes "DFLT") ∷ Uint16 8 ∷ Uint16 4 ∷ Uint16 0 ∷ Uint16 0 ∷ Uint16 0xFFFF ∷ Uint16 1 ∷ Uint16 0 ∷ []

-- featureCount, the feature's tag and offset; featureParamsOffset, lookupIndexCount
unfoldable pub feature_fields : List ℕ → List Field
feature_fields tag = Uint16 1 ∷ Tag tag ∷ Uint16 8 ∷ Uint16 0 ∷ Uint16 0 ∷ []

-- the header, the script list, the feature list, the lookup list of these lists of pairs, and the variations
abbrev pub table_bytes : List ℕ → List Cell → List (List (ℕ × ℕ)) → List ℕ
table_bytes tag cells lists =
    fields_bytes (header_fields (46 + length (lookup_list_bytes lists))) ++ (fields_bytes script_fields
    ++ (fields_bytes (feature_fields tag) ++ (lookup_list_bytes lists ++ variations_bytes cells)))

-- no table where there are no boxes
abbrev pub written_table : Bool → List Cell → List (List (ℕ × ℕ)) → Option (List ℕ)
written_table last [] subs = None
written_table last (cell ∷ cells) subs = Some (table_bytes (feature_tag last) (cell ∷ cells) (map in_glyph_order subs))
