-- The table of the segment maps is read back as it was written.
use Rattle.std.proofs.Common.{◌≡◌, ℕ, ℤ, ◌+◌, ◌*◌, ◌≤◌, List, [], ◌∷◌, ◌++◌, length, drop, Some, FitsSigned, refl, sym, ap, subst, ◌∙◌, arith}
use Rattle.std.proofs.lemmas.Int.{ints}
use Rattle.std.proofs.lemmas.List.{append-nil}
use Rattle.std.proofs.lemmas.List.Elements.{recursion_from_All}
use Rattle.std.proofs.lemmas.Option.{get_or_from_slice_get, slice_get-map, slice_get_within}
use Rattle.std.specs.Prelude.{All, map, option_map, slice_get}
use Rattle.std.specs.Int.{w16}
use Rattle.std.specs.List.{flat_map}
use Rattle.be_bytes.specs.Fields.{fields_bytes}
use Rattle.be_bytes.specs.Reading.{int16, records, sized_records, uint16}
use Rattle.be_bytes.specs.declared.field.Field.TheVariants.{Int16}
use Rattle.be_bytes.proofs.FieldLemmas.{int16-field, uint16-field}
use Rattle.be_bytes.proofs.RecordLemmas.{ComesBack, ComesBackSized, each_of, records_back, records_size, sized_records_back}
use Rattle.norm_loc.specs.PairBounds.{AreSegments, IsCoordinate, IsPair}
use Rattle.avar_fvar.specs.Layout.{avar_bytes, pair_bytes, segment_map_bytes}
use Rattle.norm_loc.specs.SegmentMap.{mapped}
use Rattle.norm_loc.proofs.SegmentMapping.{avar_at_mapped}
use Rattle.avar_fvar.specs.SegmentMaps.{MapsAsAxes, mapped_in, pair_in, pairs_of, segment_map_in, segment_maps_in}
use Rattle.avar_fvar.specs.declared.records.AxisRecord.{AxisRecord}

-- ---- a pair

read_pair : (bytes : List ℕ) (from to : ℤ) → int16 bytes ≡ Some from → int16 (drop 2 bytes) ≡ Some to → pair_in bytes ≡ Some (from, to)
read_pair bytes from to a b = rw (a, b) refl

coordinate_fits : (z : ℤ) → IsCoordinate z → FitsSigned w16 z
coordinate_fits z own = omega (arith, ints, own.low, own.high)

pair_back : (p : ℤ × ℤ) → IsPair p → ComesBack pair_bytes pair_in 4 p
pair_back p own = record {
  size_is = refl;
  back = read_pair (pair_bytes p) p.0 p.1 (int16-field p.0 (fields_bytes (Int16 p.1 ∷ [])) (coordinate_fits p.0 own.key)) (int16-field p.1 [] (coordinate_fits p.1 own.value));
}

-- ---- a segment map

read_segment_map : (bytes : List ℕ) (count : ℕ) (pairs : List (ℤ × ℤ)) → uint16 bytes ≡ Some count → records pair_in 4 count (drop 2 bytes) ≡ Some pairs → segment_map_in bytes ≡ Some (pairs, 2 + 4 * count)
read_segment_map bytes count pairs a b = rw (a, b) refl

segment_map_back : (pairs : List (ℤ × ℤ)) → AreSegments pairs → ComesBackSized segment_map_bytes segment_map_in pairs
segment_map_back pairs own rest =
    let each = each_of IsPair (ComesBack pair_bytes pair_in 4) pair_back pairs (recursion_from_All IsPair pairs own.each) in
    let size : 2 + 4 * length pairs ≡ length (segment_map_bytes pairs) = omega (arith, records_size pair_bytes pair_in 4 pairs each) in
    read_segment_map (segment_map_bytes pairs ++ rest) (length pairs) pairs
    (uint16-field (length pairs) (flat_map pair_bytes pairs ++ rest) (omega (arith, own.few)))
    (records_back pair_bytes pair_in 4 pairs rest each)
    ∙ ap (λ (n : ℕ). let read : List (ℤ × ℤ) × ℕ = (pairs, n) in Some read) size

-- ---- the table

read_segment_maps : (bytes : List ℕ) (axes : ℕ) (maps : List (List (ℤ × ℤ))) → uint16 bytes ≡ Some 1 → uint16 (drop 2 bytes) ≡ Some 0 → uint16 (drop 6 bytes) ≡ Some axes → sized_records segment_map_in axes (drop 8 bytes) ≡ Some maps → segment_maps_in bytes ≡ Some maps
read_segment_maps bytes axes maps a b c d = rw (a, b, c, d) refl

pub avar_back : (maps : List (List (ℤ × ℤ))) → length maps ≤ 8 → All AreSegments maps → segment_maps_in (avar_bytes maps) ≡ Some maps
avar_back maps few each =
    let own : List ℕ = flat_map segment_map_bytes maps in
    read_segment_maps (avar_bytes maps) (length maps) maps refl refl
    (uint16-field (length maps) own (omega arith))
    (ap (sized_records segment_map_in (length maps)) (sym (append-nil own)) ∙ sized_records_back segment_map_bytes segment_map_in maps [] (each_of AreSegments (ComesBackSized segment_map_bytes segment_map_in) segment_map_back maps (recursion_from_All AreSegments maps each)))

-- ---- what coordinates become

read_mapped : (bytes : List ℕ) (index : ℕ) (v : ℤ) (maps : List (List (ℤ × ℤ))) (pairs : List (ℤ × ℤ)) → segment_maps_in bytes ≡ Some maps → slice_get maps index ≡ Some pairs → mapped_in bytes index v ≡ mapped pairs v
read_mapped bytes index v maps pairs a b = rw (a, b) refl

pub maps_as_axes : (axes : List AxisRecord) (bytes : List ℕ) → segment_maps_in bytes ≡ Some (map pairs_of axes) → All AreSegments (map pairs_of axes) → MapsAsAxes axes bytes
maps_as_axes axes bytes read each index axis v is within =
    let maps : List (List (ℤ × ℤ)) = map pairs_of axes in
    let found : slice_get maps index ≡ Some (pairs_of axis) = slice_get-map pairs_of axes index ∙ ap (option_map pairs_of) is in
    let there = slice_get_within maps index (pairs_of axis) found in
    let own : AreSegments (pairs_of axis) = subst AreSegments (get_or_from_slice_get maps index (pairs_of axis) (pairs_of axis) found) (each index (pairs_of axis) there) in
    read_mapped bytes index v maps (pairs_of axis) read found ∙ avar_at_mapped axis.map own v within
