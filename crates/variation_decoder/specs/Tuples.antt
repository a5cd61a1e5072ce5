-- Reading the headers of tuple variations and their packed parts.
use Rattle.std.specs.Prelude.{ℕ, ℤ, pos, negsuc, ◌+◌, bit_and, List, [], ◌∷◌, length, map, take, drop, Option, Some, None, Bool, true, false, if◌then◌else◌, nat_lt, nat_eq, int_le, not, ◌&&◌, slice_get}
use Rattle.std.specs.List.{list_all}
use Rattle.fixpoint.specs.declared.plane.Pair.{Pair}
use Rattle.variation_decoder.specs.Reading.{many, word_at, signed_word_at}
use Rattle.variation_decoder.specs.Deltas.{deltas_at}
use Rattle.variation_decoder.specs.Points.{points_at}
use Rattle.variation_rules.specs.TupleVariations.{implied_triple, triples}
use Rattle.variation_decoder.specs.declared.header.Head.{Head}
use Rattle.variation_decoder.specs.declared.reader.DataHeader.{DataHeader}
use Rattle.variation_rules.specs.declared.region.Triple.{Triple}
use Rattle.variation_rules.specs.declared.tuple.TupleVariation.{TupleVariation}
use Rattle.basics.specs.Optional.{◌>>=◌}

-- some bit of the mask is set in the word
abbrev pub has_bits : ℕ → ℕ → Bool
has_bits mask number = not (nat_eq (bit_and number mask) 0)

-- one coordinate an axis
abbrev pub coordinates_at : ℕ → List ℕ → Option (List ℤ × List ℕ)
coordinates_at axes bytes = many signed_word_at axes bytes

abbrev pub is_coordinate : ℤ → Bool
is_coordinate number = int_le (negsuc 32767) number && int_le number (pos 32767)

abbrev pub is_tuple : ℕ → List ℤ → Bool
is_tuple axes coordinates = nat_eq (length coordinates) axes && list_all is_coordinate coordinates

-- the shared peak of this index, if it has one coordinate an axis
unfoldable pub shared_peak : ℕ → List (List ℤ) → ℕ → Option (List ℤ)
shared_peak axes peaks index = slice_get peaks index >>= λ peak. if is_tuple axes peak then Some peak else None

-- the peak in the header or in the list of shared peaks; beside one in the header the index is 0
unfoldable pub peak_at : ℕ → List (List ℤ) → ℕ → List ℕ → Option (List ℤ × List ℕ)
peak_at axes peaks index bytes =
    if has_bits 0x8000 index then (if has_bits 0x0FFF index then None else coordinates_at axes bytes)
    else (shared_peak axes peaks (bit_and index 0x0FFF) >>= λ peak. Some (peak, bytes))

-- the region from its peak, with the start and the end where it is intermediate
unfoldable pub region_at : ℕ → Bool → List ℤ → List ℕ → Option (List Triple × List ℕ)
region_at axes false peak bytes = Some (map implied_triple peak, bytes)
region_at axes true peak bytes = do
  starts ← coordinates_at axes bytes
  ends ← coordinates_at axes starts.1
  Some (triples starts.0 peak ends.0, ends.1)

-- a header; the bit 0x1000 of the tupleIndex is reserved
unfoldable pub header_at : ℕ → List (List ℤ) → List ℕ → Option (Head × List ℕ)
header_at axes peaks bytes = do
  size ← word_at bytes
  index ← word_at size.1
  if has_bits 0x1000 index.0 then None else (do
    peak ← peak_at axes peaks index.0 index.1
    region ← region_at axes (has_bits 0x4000 index.0) peak.0 peak.1
    Some (record { size = size.0; region = region.0; private = has_bits 0x2000 index.0 }, region.1))

-- the points of a tuple: its private list, or the shared one
unfoldable pub tuple_points_at : ℕ → Option (List ℕ) → Bool → List ℕ → Option (List ℕ × List ℕ)
tuple_points_at total shared true bytes = points_at total bytes
tuple_points_at total (Some points) false bytes = Some (points, bytes)
tuple_points_at total None false bytes = None

abbrev pub pairs : List ℤ → List ℤ → List Pair
pairs (x ∷ xs) (y ∷ ys) = record { x = x; y = y } ∷ pairs xs ys
pairs _ _ = []

-- a tuple of this header from its packed part
unfoldable pub part_at : ℕ → Option (List ℕ) → Head → List ℕ → Option (TupleVariation × List ℕ)
part_at total shared head part = do
  points ← tuple_points_at total shared head.private part
  xs ← deltas_at (length points.0) points.1
  ys ← deltas_at (length points.0) xs.1
  Some (record { region = head.region; points = points.0; deltas = pairs xs.0 ys.0 }, ys.1)

-- a tuple whose packed part has the size that the header says
unfoldable pub tuple_at : ℕ → Option (List ℕ) → Head → List ℕ → Option (TupleVariation × List ℕ)
tuple_at total shared head bytes =
    if nat_lt (length bytes) head.size then None
    else (part_at total shared head (take head.size bytes) >>= λ tuple. if nat_eq (length tuple.1) 0 then Some (tuple.0, drop head.size bytes) else None)

-- one tuple for each header
unfoldable pub tuples_at : ℕ → Option (List ℕ) → List Head → List ℕ → Option (List TupleVariation × List ℕ)
tuples_at total shared [] bytes = Some ([], bytes)
tuples_at total shared (head ∷ heads) bytes = do
  tuple ← tuple_at total shared head bytes
  more ← tuples_at total shared heads tuple.1
  Some (tuple.0 ∷ more.0, more.1)

unfoldable pub shared_points_at : ℕ → Bool → List ℕ → Option (Option (List ℕ) × List ℕ)
shared_points_at total false bytes = Some (None, bytes)
shared_points_at total true bytes = points_at total bytes >>= λ points. Some (Some points.0, points.1)

-- The count, the offset and the headers. The bits 0x7000 of the count are reserved.
unfoldable pub data_header_at : ℕ → List (List ℤ) → List ℕ → Option (DataHeader × List ℕ)
data_header_at axes peaks bytes = do
  count ← word_at bytes
  offset ← word_at count.1
  if has_bits 0x7000 count.0 then None else (do
    heads ← many (header_at axes peaks) (bit_and count.0 0x0FFF) offset.1
    Some (record { count = count.0; offset = offset.0; heads = heads.0 }, heads.1))

-- the same, where the offset leads after the headers
unfoldable pub headers_at : ℕ → List (List ℤ) → List ℕ → Option (DataHeader × List ℕ)
headers_at axes peaks bytes =
    data_header_at axes peaks bytes >>= λ prefix. if nat_eq (prefix.0.offset + length prefix.1) (length bytes) then Some prefix else None

-- the data of one glyph
unfoldable pub glyph_data_at : ℕ → ℕ → List (List ℤ) → List ℕ → Option (List TupleVariation × List ℕ)
glyph_data_at axes total peaks bytes = do
  prefix ← headers_at axes peaks bytes
  shared ← shared_points_at total (has_bits 0x8000 prefix.0.count) prefix.1
  tuples_at total shared.0 prefix.0.heads shared.1

-- all of the bytes; no bytes mean no tuple
unfoldable pub tuples_of : ℕ → ℕ → List (List ℤ) → List ℕ → Option (List TupleVariation)
tuples_of axes total peaks bytes =
    if nat_eq (length bytes) 0 then Some []
    else (glyph_data_at axes total peaks bytes >>= λ tuples. if nat_eq (length tuples.1) 0 then Some tuples.0 else None)
