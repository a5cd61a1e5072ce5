-- What an item variation store has (OpenType, "Font variations common table formats"): regions, and rows of deltas with
-- one column for each of the regions that an index list names. Coordinates are F2DOT14, by their raw numbers.
use Rattle.std.specs.Prelude.{ℕ, ℤ, ◌+◌, ◌-◌, ◌*◌, ◌%◌, Bool, List, ◌++◌, drop, Option, Some, None, if◌then◌else◌, nat_eq, nat_le, nat_lt}
use Rattle.std.specs.Int.{w8, cast_signed}
use Rattle.basics.specs.Optional.{◌>>=◌, each}
use Rattle.be_bytes.specs.Reading.{int16, int32, records, uint16, uint32, uint8}
use Rattle.variation_rules.specs.declared.region.Triple.{Triple}

-- ---- the regions

-- one axis of a region: startCoord, peakCoord, endCoord
abbrev pub triple_in : List ℕ → Option Triple
triple_in bytes = do
  start ← int16 bytes
  peak ← int16 (drop 2 bytes)
  end ← int16 (drop 4 bytes)
  Some (record { start = start; peak = peak; end = end })

-- how many axes there are, and the regions, each with one triple an axis
pub record RegionList : Type 0 where
  pub axes : ℕ
  pub regions : List (List Triple)

-- axisCount, regionCount, which is below 32768, and the regions
abbrev pub region_list_in : List ℕ → Option RegionList
region_list_in bytes = do
  axes ← uint16 bytes
  count ← uint16 (drop 2 bytes)
  regions ← records (records triple_in 6 axes) (6 * axes) count (drop 4 bytes)
  if nat_lt count 32768 then Some (record { axes = axes; regions = regions }) else None

-- ---- the rows

-- one item variation data: the index of each column's region, and the rows
pub record ItemData : Type 0 where
  pub indexes : List ℕ
  pub rows : List (List ℤ)

-- int8
abbrev pub int8 : List ℕ → Option ℤ
int8 bytes = uint8 bytes >>= λ n. Some (cast_signed w8 n)

-- A column is wide or narrow: of 16 bits or 8, and where words are long of 32 bits or 16.
abbrev pub wide_size : Bool → ℕ
wide_size long = if long then 4 else 2

abbrev pub narrow_size : Bool → ℕ
narrow_size long = if long then 2 else 1

abbrev pub wide_in : Bool → List ℕ → Option ℤ
wide_in long bytes = if long then int32 bytes else int16 bytes

abbrev pub narrow_in : Bool → List ℕ → Option ℤ
narrow_in long bytes = if long then int16 bytes else int8 bytes

-- a row: so many wide columns, and so many narrow ones after them
abbrev pub row_in : Bool → ℕ → ℕ → List ℕ → Option (List ℤ)
row_in long wide narrow bytes = do
  first ← records (wide_in long) (wide_size long) wide bytes
  more ← records (narrow_in long) (narrow_size long) narrow (drop (wide_size long * wide) bytes)
  Some (first ++ more)

-- so many rows; of their columns no more are wide than there are
abbrev pub rows_in : Bool → ℕ → ℕ → ℕ → List ℕ → Option (List (List ℤ))
rows_in long wide columns count bytes =
    if nat_le wide columns
    then records (row_in long wide (columns - wide)) (wide_size long * wide + narrow_size long * (columns - wide)) count bytes
    else None

-- itemCount; wordDeltaCount, of which 0x8000 says that words are long and 0x7FFF how many columns are wide;
-- regionIndexCount; the indexes, and the rows
abbrev pub item_data_in : List ℕ → Option ItemData
item_data_in bytes = do
  count ← uint16 bytes
  words ← uint16 (drop 2 bytes)
  columns ← uint16 (drop 4 bytes)
  indexes ← records uint16 2 columns (drop 6 bytes)
  rows ← rows_in (nat_le 32768 words) (words % 32768) columns count (drop (6 + 2 * columns) bytes)
  Some (record { indexes = indexes; rows = rows })

-- ---- the store

pub record Store : Type 0 where
  pub axes : ℕ
  pub regions : List (List Triple)
  pub item_data : List ItemData

-- format, which is 1, variationRegionListOffset, itemVariationDataCount, and the offset of each item variation data
abbrev pub store_in : List ℕ → Option Store
store_in bytes = do
  format ← uint16 bytes
  list_offset ← uint32 (drop 2 bytes)
  count ← uint16 (drop 6 bytes)
  offsets ← records uint32 4 count (drop 8 bytes)
  list ← region_list_in (drop list_offset bytes)
  item_data ← each (λ offset. item_data_in (drop offset bytes)) offsets
  if nat_eq format 1 then Some (record { axes = list.axes; regions = list.regions; item_data = item_data }) else None
