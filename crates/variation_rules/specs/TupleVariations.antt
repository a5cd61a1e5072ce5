-- Glyph variation data (OpenType, "Tuple variation store" and "gvar"): a header for each tuple, and after
-- the headers the packed points and deltas.
use Rattle.std.specs.Prelude.{◌≡◌, ℕ, ℤ, pos, ◌+◌, ◌^◌, ◌<◌, ◌⊎◌, List, [], ◌∷◌, ◌++◌, length, map, All, Option, Some, None, Bool, true, false, FitsSigned, slice_get}
use Rattle.std.specs.Int.{w16, int_min, int_max}
use Rattle.std.specs.List.{flat_map}
use Rattle.fixpoint.specs.declared.plane.Pair.{Pair}
use Rattle.variation_rules.specs.Fields.{word, signed_word}
use Rattle.variation_rules.specs.PackedPoints.{ReadsPoints, PacksPoints}
use Rattle.variation_rules.specs.PackedDeltas.{ReadsDeltas, PacksDeltas}
use Rattle.variation_rules.specs.declared.region.Triple.{Triple}
use Rattle.variation_rules.specs.declared.tuple.TupleVariation.{TupleVariation}

-- where a tuple's region has its peak: in the header, or in the list of shared peaks
pub data Peak : Type 0 where
  embedded : (coordinates : List ℤ) → Peak
  shared : (index : ℕ) → Peak

-- the start and the end of an intermediate region, one coordinate an axis
pub record Ends : Type 0 where
  pub starts : List ℤ
  pub ends : List ℤ

pub record Header : Type 0 where
  pub peak : Peak
  pub intermediate : Option Ends
  pub private : Bool

-- The tupleIndex: 0x8000 for an embedded peak, 0x4000 for an intermediate region, 0x2000 for private
-- points, and the index of a shared peak.
abbrev pub peak_bits : Peak → ℕ
peak_bits (embedded _) = 32768
peak_bits (shared index) = index

abbrev pub intermediate_bits : Option Ends → ℕ
intermediate_bits None = 0
intermediate_bits (Some _) = 16384

abbrev pub private_bits : Bool → ℕ
private_bits false = 0
private_bits true = 8192

abbrev pub tuple_index : Header → ℕ
tuple_index header = peak_bits header.peak + (intermediate_bits header.intermediate + private_bits header.private)

abbrev pub peak_bytes : Peak → List ℕ
peak_bytes (embedded coordinates) = flat_map signed_word coordinates
peak_bytes (shared _) = []

abbrev pub intermediate_bytes : Option Ends → List ℕ
intermediate_bytes None = []
intermediate_bytes (Some range) = flat_map signed_word range.starts ++ flat_map signed_word range.ends

-- a header before a packed part of this size
abbrev pub header_bytes : ℕ → Header → List ℕ
header_bytes size header = word size ++ (word (tuple_index header) ++ (peak_bytes header.peak ++ intermediate_bytes header.intermediate))

-- the coordinates of one location in F2DOT14, one an axis
pub record IsTuple (axes : ℕ) (coordinates : List ℤ) : Type 0 where
  pub length_is : length coordinates ≡ axes
  pub fits : All (FitsSigned w16) coordinates

-- the peak is these coordinates
abbrev pub PeaksAt : ℕ → List (List ℤ) → Peak → List ℤ → Type 0
PeaksAt axes peaks (embedded coordinates) peak = (coordinates ≡ peak) × IsTuple axes peak
PeaksAt axes peaks (shared index) peak = (index < 2 ^ 12) × (slice_get peaks index ≡ Some peak) × IsTuple axes peak

-- without an intermediate region an axis reaches from the default to its peak
abbrev pub implied_triple : ℤ → Triple
implied_triple peak = record { start = int_min (pos 0) peak; peak = peak; end = int_max (pos 0) peak }

abbrev pub triples : List ℤ → List ℤ → List ℤ → List Triple
triples (start ∷ starts) (peak ∷ peaks) (end ∷ ends) = record { start = start; peak = peak; end = end } ∷ triples starts peaks ends
triples _ _ _ = []

abbrev pub region_of : List ℤ → Option Ends → List Triple
region_of peak None = map implied_triple peak
region_of peak (Some range) = triples range.starts peak range.ends

abbrev pub AreEnds : ℕ → Option Ends → Type 0
AreEnds axes None = Unit {0}
AreEnds axes (Some range) = IsTuple axes range.starts × IsTuple axes range.ends

-- the header has this region
pub record HasRegion (axes : ℕ) (peaks : List (List ℤ)) (header : Header) (region : List Triple) : Type 0 where
  pub peak : List ℤ
  pub peaks_at : PeaksAt axes peaks header.peak peak
  pub ends : AreEnds axes header.intermediate
  pub region_is : region ≡ region_of peak header.intermediate

-- How the two kinds of packed list are spelled: any spelling where data are read, one where they are written.
-- The points of a tuple: its private list, or the shared one.
abbrev pub HasPoints : (ℕ → List ℕ → List ℕ → Type 0) → ℕ → Option (List ℕ) → Bool → List ℕ → List ℕ → Type 0
HasPoints Points total shared_points true bytes points = Points total bytes points
HasPoints Points total shared_points false bytes points = (bytes ≡ []) × (shared_points ≡ Some points)

-- the packed part of one tuple: its points if private, the x deltas, the y deltas
pub record IsPart (Points : ℕ → List ℕ → List ℕ → Type 0) (Deltas : List ℕ → List ℤ → Type 0) (total : ℕ) (shared_points : Option (List ℕ)) (private : Bool) (bytes : List ℕ) (tuple : TupleVariation) : Type 0 where
  pub point_bytes : List ℕ
  pub x_bytes : List ℕ
  pub y_bytes : List ℕ
  pub points : HasPoints Points total shared_points private point_bytes tuple.points
  pub xs : Deltas x_bytes (map (λ (delta : Pair). delta.x) tuple.deltas)
  pub ys : Deltas y_bytes (map (λ (delta : Pair). delta.y) tuple.deltas)
  pub one_each : length tuple.deltas ≡ length tuple.points
  pub spelled : bytes ≡ point_bytes ++ (x_bytes ++ y_bytes)

-- headers and packed parts stand for the tuples, one each
abbrev pub AreTuples : (ℕ → List ℕ → List ℕ → Type 0) → (List ℕ → List ℤ → Type 0) → ℕ → ℕ → List (List ℤ) → Option (List ℕ) → List ℕ → List ℕ → List TupleVariation → Type 0
AreTuples Points Deltas axes total peaks shared_points headers parts [] = (headers ≡ []) × (parts ≡ [])
AreTuples Points Deltas axes total peaks shared_points headers parts (tuple ∷ tuples) =
    (header : Header) × (part : List ℕ) × (more_headers : List ℕ) × (more_parts : List ℕ)
    × HasRegion axes peaks header tuple.region
    × IsPart Points Deltas total shared_points header.private part tuple
    × (length part < 2 ^ 16)
    × (headers ≡ header_bytes (length part) header ++ more_headers)
    × (parts ≡ part ++ more_parts)
    × AreTuples Points Deltas axes total peaks shared_points more_headers more_parts tuples

abbrev pub HasSharedPoints : (ℕ → List ℕ → List ℕ → Type 0) → ℕ → Option (List ℕ) → List ℕ → Type 0
HasSharedPoints Points total None bytes = bytes ≡ []
HasSharedPoints Points total (Some points) bytes = Points total bytes points

abbrev pub shared_bits : Option (List ℕ) → ℕ
shared_bits None = 0
shared_bits (Some _) = 32768

-- The data of one glyph: the number of tuples with 0x8000 for shared points, the offset after the headers,
-- the headers, the shared points, the packed parts.
pub record IsGlyphData (Points : ℕ → List ℕ → List ℕ → Type 0) (Deltas : List ℕ → List ℤ → Type 0) (axes total : ℕ) (peaks : List (List ℤ)) (bytes : List ℕ) (tuples : List TupleVariation) : Type 0 where
  pub shared_points : Option (List ℕ)
  pub headers : List ℕ
  pub shared_bytes : List ℕ
  pub parts : List ℕ
  pub few : length tuples < 2 ^ 12
  pub near : 4 + length headers < 2 ^ 16
  pub shared_list : HasSharedPoints Points total shared_points shared_bytes
  pub each : AreTuples Points Deltas axes total peaks shared_points headers parts tuples
  pub spelled : bytes ≡ word (shared_bits shared_points + length tuples) ++ (word (4 + length headers) ++ (headers ++ (shared_bytes ++ parts)))

-- The bytes mean these tuples, for a glyph of so many points, the four phantom points among them, in a font
-- of so many axes with these shared peaks. No bytes mean no tuple.
abbrev pub MeansTuples : ℕ → ℕ → List (List ℤ) → List ℕ → List TupleVariation → Type 0
MeansTuples axes total peaks bytes tuples =
    ((bytes ≡ []) × (tuples ≡ [])) ⊎ IsGlyphData ReadsPoints ReadsDeltas axes total peaks bytes tuples

-- the same, every packed list in maximal runs
abbrev pub PacksTuples : ℕ → ℕ → List (List ℤ) → List ℕ → List TupleVariation → Type 0
PacksTuples axes total peaks bytes tuples =
    ((bytes ≡ []) × (tuples ≡ [])) ⊎ IsGlyphData PacksPoints PacksDeltas axes total peaks bytes tuples
