-- How the tuple variations of one glyph are written (OpenType, "gvar" and "Tuple variation store"): every
-- peak in its header, every tuple with points of its own, every packed list in maximal runs.
use Rattle.std.specs.Prelude.{◌≡◌, ℕ, ℤ, pos, ◌+◌, ◌^◌, ◌<◌, List, [], ◌∷◌, ◌++◌, length, map, Some, None, Bool, true, if◌then◌else◌, ◌&&◌}
use Rattle.std.specs.Ordering.{int_eq}
use Rattle.std.specs.Int.{int_min, int_max}
use Rattle.std.specs.List.{list_all}
use Rattle.variation_rules.specs.Fields.{word}
use Rattle.variation_rules.specs.PackedDeltas.{PacksDeltas}
use Rattle.variation_rules.specs.PackedPoints.{PacksPoints}
use Rattle.variation_rules.specs.TupleVariations.{Header, embedded, IsPart, header_bytes}
use Rattle.variation_rules.specs.declared.region.Triple.{Triple}
use Rattle.variation_rules.specs.declared.tuple.TupleVariation.{TupleVariation}
use Rattle.gvar_table.specs.declared.header.Coordinate.{Coordinate}
use Rattle.gvar_table.specs.declared.header.Coordinate.TheVariants.{Start, Peak, End}

-- one of the three coordinates of an axis
abbrev pub coordinate_of : Coordinate → Triple → ℤ
coordinate_of Start triple = triple.start
coordinate_of Peak triple = triple.peak
coordinate_of End triple = triple.end

-- the axis reaches from the default to its peak
abbrev pub is_implied_axis : Triple → Bool
is_implied_axis triple = int_eq triple.start (int_min (pos 0) triple.peak) && int_eq triple.end (int_max (pos 0) triple.peak)

-- and so does every axis of the region
abbrev pub is_implied : List Triple → Bool
is_implied region = list_all is_implied_axis region

-- The header of a tuple: an embedded peak, points of its own, and start and end for all axes exactly where the
-- region isn't plain.
abbrev pub header_of : List Triple → Header
header_of region = record {
  peak = embedded (map (coordinate_of Peak) region);
  intermediate = if is_implied region then None else Some (record { starts = map (coordinate_of Start) region; ends = map (coordinate_of End) region });
  private = true;
}

-- The packed part of a tuple: its points, a single 0 where they are all, the x deltas and the y deltas. Its
-- size fits the header's field.
pub record IsWrittenPart (count : ℕ) (part : List ℕ) (tuple : TupleVariation) : Type 0 where
  pub is_part : IsPart PacksPoints PacksDeltas count None true part tuple
  pub small : length part < 2 ^ 16

-- headers and packed parts, one each, in the order of the tuples
abbrev pub AreWritten : ℕ → List ℕ → List ℕ → List TupleVariation → Type 0
AreWritten count headers parts [] = (headers ≡ []) × (parts ≡ [])
AreWritten count headers parts (tuple ∷ tuples) =
    (part : List ℕ) × (more_headers : List ℕ) × (more_parts : List ℕ)
    × IsWrittenPart count part tuple
    × (headers ≡ header_bytes (length part) (header_of tuple.region) ++ more_headers)
    × (parts ≡ part ++ more_parts)
    × AreWritten count more_headers more_parts tuples

-- the number of tuples, the offset after the headers, the headers, the packed parts
pub record IsWrittenData (count : ℕ) (bytes : List ℕ) (tuples : List TupleVariation) : Type 0 where
  pub headers : List ℕ
  pub parts : List ℕ
  pub near : 4 + length headers < 2 ^ 16
  pub each : AreWritten count headers parts tuples
  pub spelled : bytes ≡ word (length tuples) ++ (word (4 + length headers) ++ (headers ++ parts))

-- The data of a glyph of so many points, the four phantom points among them. No tuples take no bytes.
abbrev pub IsWritten : ℕ → List ℕ → List TupleVariation → Type 0
IsWritten count bytes [] = bytes ≡ []
IsWritten count bytes (tuple ∷ tuples) = IsWrittenData count bytes (tuple ∷ tuples)

-- one tuple more after the headers and the packed parts that are written
pub record AddsTuple (count : ℕ) (tuple : TupleVariation) (headers new_headers parts new_parts : List ℕ) : Type 0 where
  pub part : List ℕ
  pub is_written : IsWrittenPart count part tuple
  pub header_after : new_headers ≡ headers ++ header_bytes (length part) (header_of tuple.region)
  pub part_after : new_parts ≡ parts ++ part
