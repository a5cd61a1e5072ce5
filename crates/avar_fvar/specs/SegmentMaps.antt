-- What the table of the segment maps means (OpenType, "avar", version 1.0): for each axis pairs of a normalised user
-- value and the normalised design value that it becomes. Both are F2DOT14, by their raw numbers.
use Rattle.std.specs.Prelude.{◌≡◌, ℕ, ◌+◌, ◌*◌, ℤ, ◌&&◌, List, drop, Option, Some, None, if◌then◌else◌, nat_eq, slice_get}
use Rattle.basics.specs.Optional.{◌>>=◌}
use Rattle.be_bytes.specs.Reading.{int16, records, sized_records, uint16}
use Rattle.norm_loc.specs.AvarPairs.{avar_at, avar_pairs}
use Rattle.norm_loc.specs.PairBounds.{IsCoordinate}
use Rattle.norm_loc.specs.SegmentMap.{mapped}
use Rattle.avar_fvar.specs.declared.records.AxisRecord.{AxisRecord}

abbrev pub pair_in : List ℕ → Option (ℤ × ℤ)
pair_in bytes = do
  from ← int16 bytes
  to ← int16 (drop 2 bytes)
  Some (from, to)

-- the pairs of an axis, after their number, with the size of all
abbrev pub segment_map_in : List ℕ → Option (List (ℤ × ℤ) × ℕ)
segment_map_in bytes = do
  count ← uint16 bytes
  pairs ← records pair_in 4 count (drop 2 bytes)
  Some (pairs, 2 + 4 * count)

-- the pairs of each axis
abbrev pub segment_maps_in : List ℕ → Option (List (List (ℤ × ℤ)))
segment_maps_in bytes = do
  major ← uint16 bytes
  minor ← uint16 (drop 2 bytes)
  axes ← uint16 (drop 6 bytes)
  maps ← sized_records segment_map_in axes (drop 8 bytes)
  if nat_eq major 1 && nat_eq minor 0 then Some maps else None

-- what a value becomes by the segment map of an axis
abbrev pub mapped_in : List ℕ → ℕ → ℤ → Option ℤ
mapped_in bytes axis v = segment_maps_in bytes >>= λ maps. slice_get maps axis >>= λ pairs. mapped pairs v

-- the pairs of an axis's map
abbrev pub pairs_of : AxisRecord → List (ℤ × ℤ)
pairs_of axis = avar_pairs axis.map

-- by the table each coordinate on an axis becomes what the axis's map makes of it
abbrev pub MapsAsAxes : List AxisRecord → List ℕ → Type 0
MapsAsAxes axes bytes =
    (index : ℕ) (axis : AxisRecord) (v : ℤ) → slice_get axes index ≡ Some axis → IsCoordinate v
    → mapped_in bytes index v ≡ Some (avar_at axis.map v)
