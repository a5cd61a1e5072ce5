-- What the table of advance variations means (OpenType, "HVAR", version 1.0). It is read only where it has no map of
-- side bearings.
use Rattle.std.specs.Prelude.{◌≡◌, ℕ, ℤ, ◌&&◌, List, drop, Option, Some, None, if◌then◌else◌, nat_eq, slice_get}
use Rattle.std.specs.List.{zip}
use Rattle.basics.specs.Optional.{◌>>=◌}
use Rattle.be_bytes.specs.Reading.{uint16, uint32}
use Rattle.variation_rules.specs.declared.region.Triple.{Triple}
use Rattle.item_var_store.specs.DeltaSets.{delta_set_in, value_of, weighted_sum}
use Rattle.item_var_store.specs.Store.{Store, store_in}
use Rattle.hvar.specs.IndexMap.{RowNumber, entry_of, map_in}

-- the rows, and which of them each glyph has, where a map tells it
pub record Advances : Type 0 where
  pub store : Store
  pub map : Option (List RowNumber)

-- no map where the offset is 0
abbrev pub map_at : ℕ → List ℕ → Option (Option (List RowNumber))
map_at offset bytes = if nat_eq offset 0 then Some None else (map_in (drop offset bytes) >>= λ map. Some (Some map))

-- majorVersion, minorVersion, itemVariationStoreOffset, advanceWidthMappingOffset, lsbMappingOffset, rsbMappingOffset
abbrev pub advances_in : List ℕ → Option Advances
advances_in bytes = do
  major ← uint16 bytes
  minor ← uint16 (drop 2 bytes)
  store_offset ← uint32 (drop 4 bytes)
  map_offset ← uint32 (drop 8 bytes)
  left ← uint32 (drop 12 bytes)
  right ← uint32 (drop 16 bytes)
  store ← store_in (drop store_offset bytes)
  map ← map_at map_offset bytes
  if nat_eq major 1 && nat_eq minor 0 && nat_eq left 0 && nat_eq right 0 then Some (record { store = store; map = map }) else None

-- the row of a glyph; without a map it is that of the glyph's number in the first item variation data
abbrev pub row_number : Option (List RowNumber) → ℕ → Option RowNumber
row_number None glyph = Some (record { outer = 0; inner = glyph })
row_number (Some entries) glyph = entry_of entries glyph

-- the deltas of a glyph's advance, each with its region
abbrev pub advance_deltas : Advances → ℕ → Option (List (List Triple × ℤ))
advance_deltas table glyph = row_number table.map glyph >>= λ row. delta_set_in table.store row.outer row.inner

-- how far the advance of a glyph moves at a location: the sum of the deltas, each times the scalar of its region, in
-- 65536ths
abbrev pub advance_movement : Advances → ℕ → List ℤ → Option ℤ
advance_movement table glyph at = advance_deltas table glyph >>= λ pairs. Some (value_of pairs at)

-- The bytes are read as a table of these axes and regions, in which the deltas of a glyph's advance are the row of its
-- number, each with its region, in their order. No other glyph has any. At every location the advance moves by the sum
-- over the regions.
pub record MeansAdvances (axes : ℕ) (regions : List (List Triple)) (rows : List (List ℤ)) (bytes : List ℕ) : Type 0 where
  pub table : Advances
  pub read : advances_in bytes ≡ Some table
  pub axes_are : table.store.axes ≡ axes
  pub regions_are : table.store.regions ≡ regions
  pub row_is : (glyph : ℕ) → advance_deltas table glyph ≡ (slice_get rows glyph >>= λ row. Some (zip regions row))
  pub movement_is : (glyph : ℕ) (row at : List ℤ) → slice_get rows glyph ≡ Some row → advance_movement table glyph at ≡ Some (weighted_sum regions row at)
