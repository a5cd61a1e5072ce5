-- How a store is written, byte for byte: the region list, and after it one item variation data with a word for each delta.
use Rattle.std.specs.Prelude.{ℕ, ◌+◌, ◌*◌, ℤ, List, [], ◌∷◌, ◌++◌, length}
use Rattle.std.specs.List.{flat_map}
use Rattle.be_bytes.specs.Fields.{field_bytes, fields_bytes}
use Rattle.be_bytes.specs.declared.field.Field.{Field}
use Rattle.be_bytes.specs.declared.field.Field.TheVariants.{Int16, Uint16, Uint32}
use Rattle.variation_rules.specs.PackedPoints.{count_from}
use Rattle.variation_rules.specs.declared.region.Triple.{Triple}

-- format, variationRegionListOffset, itemVariationDataCount, and the offset of the one item variation data
unfoldable pub store_header : ℕ → ℕ → List Field
store_header axes regions = Uint16 1 ∷ Uint32 12 ∷ Uint16 1 ∷ Uint32 (16 + 6 * axes * regions) ∷ []

-- startCoord, peakCoord, endCoord
unfoldable pub triple_fields : Triple → List Field
triple_fields triple = Int16 triple.start ∷ Int16 triple.peak ∷ Int16 triple.end ∷ []

abbrev pub triple_bytes : Triple → List ℕ
triple_bytes triple = fields_bytes (triple_fields triple)

abbrev pub region_bytes : List Triple → List ℕ
region_bytes region = flat_map triple_bytes region

-- axisCount, regionCount, and the regions
abbrev pub region_list_bytes : ℕ → List (List Triple) → List ℕ
region_list_bytes axes regions = fields_bytes (Uint16 axes ∷ Uint16 (length regions) ∷ []) ++ flat_map region_bytes regions

-- the index of a region
abbrev pub index_bytes : ℕ → List ℕ
index_bytes index = field_bytes (Uint16 index)

abbrev pub delta_bytes : ℤ → List ℕ
delta_bytes delta = field_bytes (Int16 delta)

abbrev pub row_bytes : List ℤ → List ℕ
row_bytes row = flat_map delta_bytes row

-- itemCount, wordDeltaCount, regionIndexCount, an index for each of so many regions, and the rows
abbrev pub item_data_bytes : ℕ → List (List ℤ) → List ℕ
item_data_bytes regions rows =
    fields_bytes (Uint16 (length rows) ∷ Uint16 regions ∷ Uint16 regions ∷ []) ++ (flat_map index_bytes (count_from regions 0) ++ flat_map row_bytes rows)

abbrev pub store_bytes : ℕ → List (List Triple) → List (List ℤ) → List ℕ
store_bytes axes regions rows =
    fields_bytes (store_header axes (length regions)) ++ (region_list_bytes axes regions ++ item_data_bytes (length regions) rows)
