-- The header of a tuple: it has the region, and how many bytes it takes.
use Rattle.std.proofs.Common.{◌≡◌, ℕ, ℤ, pos, negsuc, ◌≤ℤ◌, ◌+◌, ◌*◌, ◌≤◌, List, [], ◌∷◌, length, map, All, FitsSigned, Option, Some, None, Bool, true, false, if◌then◌else◌, ◌&&◌, refl, ap, ◌∙◌, arith, length-append}
use Rattle.std.specs.Int.{w16, int_min, int_max}
use Rattle.std.specs.List.{flat_map}
use Rattle.std.specs.Ordering.{int_eq}
use Rattle.std.proofs.lemmas.Bool.{false≢true}
use Rattle.std.proofs.lemmas.Bool.Decides.{Decides-int_eq}
use Rattle.std.proofs.lemmas.Int.{ints}
use Rattle.std.proofs.lemmas.List.{length-map}
use Rattle.std.proofs.lemmas.List.Elements.{All-map}
use Rattle.variation_rules.specs.Fields.{signed_word}
use Rattle.variation_rules.specs.TupleVariations.{Ends, AreEnds, HasRegion, IsTuple, header_bytes, intermediate_bytes, implied_triple, region_of, triples}
use Rattle.variation_rules.specs.declared.region.Triple.{Triple}
use Rattle.gvar_table.specs.declared.header.Coordinate.{Coordinate}
use Rattle.gvar_table.specs.declared.header.Coordinate.TheVariants.{Start, Peak, End}
use Rattle.gvar_table.specs.Layout.{coordinate_of, header_of, is_implied, is_implied_axis}
use Rattle.gvar_table.specs.Tuples.{IsCoordinate, IsRegionAxis}

-- one of the coordinates, of each axis
abbrev pub coordinates : Coordinate → List Triple → List ℤ
coordinates which region = map (coordinate_of which) region

coordinate_fits : (raw : ℤ) → IsCoordinate raw → FitsSigned w16 raw
coordinate_fits raw is =
    let low : negsuc 16383 ≤ℤ raw = is.low in
    let high : raw ≤ℤ pos 16384 = is.high in
    omega (arith, ints)

axis_fits : (which : Coordinate) (triple : Triple) → IsRegionAxis triple → FitsSigned w16 (coordinate_of which triple)
axis_fits Start triple is = coordinate_fits triple.start is.start
axis_fits Peak triple is = coordinate_fits triple.peak is.peak
axis_fits End triple is = coordinate_fits triple.end is.end

-- each of the coordinates of a region that can be written is a tuple of the font
pub are_tuple : (axes : ℕ) (which : Coordinate) (region : List Triple) → length region ≡ axes → All IsRegionAxis region → IsTuple axes (coordinates which region)
are_tuple axes which region axis_each are = record {
  length_is = length-map region (coordinate_of which) ∙ axis_each;
  fits = All-map (FitsSigned w16) (coordinate_of which) region (λ k d h. axis_fits which _ (are k d h));
}

both_true : (a b : Bool) → (a && b) ≡ true → (a ≡ true) × (b ≡ true)
both_true true b h = (refl, h)
both_true false b h = absurd (false≢true h)

-- a plain axis is told by its peak
implied_axis : (triple : Triple) → is_implied_axis triple ≡ true → triple ≡ implied_triple triple.peak
implied_axis triple implied =
    let both = both_true (int_eq triple.start (int_min (pos 0) triple.peak)) (int_eq triple.end (int_max (pos 0) triple.peak)) implied in
    let start : triple.start ≡ int_min (pos 0) triple.peak = (Decides-int_eq triple.start (int_min (pos 0) triple.peak)).0 both.0 in
    let end : triple.end ≡ int_max (pos 0) triple.peak = (Decides-int_eq triple.end (int_max (pos 0) triple.peak)).0 both.1 in
    ap (λ s. let t : Triple = record { start = s; peak = triple.peak; end = triple.end } in t) start
    ∙ ap (λ e. let t : Triple = record { start = int_min (pos 0) triple.peak; peak = triple.peak; end = e } in t) end

-- and so is a plain region
implied_region : (region : List Triple) → is_implied region ≡ true → region ≡ map implied_triple (coordinates Peak region)
implied_region [] implied = refl
implied_region (triple ∷ region) implied =
    let both = both_true (is_implied_axis triple) (is_implied region) implied in
    ap (λ t. t ∷ region) (implied_axis triple both.0) ∙ ap (λ r. implied_triple triple.peak ∷ r) (implied_region region both.1)

-- any region is told by its three coordinates
whole_region : (region : List Triple) → region ≡ triples (coordinates Start region) (coordinates Peak region) (coordinates End region)
whole_region [] = refl
whole_region (triple ∷ region) = ap (λ r. triple ∷ r) (whole_region region)

-- start and end, where the region isn't plain
abbrev ends_by : Bool → List Triple → Option Ends
ends_by implied region = if implied then None else Some (record { starts = coordinates Start region; ends = coordinates End region })

ends_are : (axes : ℕ) (implied : Bool) (region : List Triple) → length region ≡ axes → All IsRegionAxis region → AreEnds axes (ends_by implied region)
ends_are axes true region axis_each are = tt
ends_are axes false region axis_each are = (are_tuple axes Start region axis_each are, are_tuple axes End region axis_each are)

region_is : (implied : Bool) (region : List Triple) → is_implied region ≡ implied → region ≡ region_of (coordinates Peak region) (ends_by implied region)
region_is true region test = implied_region region test
region_is false region test = whole_region region

-- the header has the region
pub has_region : (axes : ℕ) (region : List Triple) → length region ≡ axes → All IsRegionAxis region → HasRegion axes [] (header_of region) region
has_region axes region axis_each are = record {
  peak = coordinates Peak region;
  peaks_at = (refl, are_tuple axes Peak region axis_each are);
  ends = ends_are axes (is_implied region) region axis_each are;
  region_is = region_is (is_implied region) region refl;
}

-- a word takes two bytes
words_length : (values : List ℤ) → length (flat_map signed_word values) ≡ 2 * length values
words_length [] = refl
words_length (value ∷ values) = omega (arith, words_length values)

coordinates_length : (which : Coordinate) (region : List Triple) → length (flat_map signed_word (coordinates which region)) ≡ 2 * length region
coordinates_length which region = words_length (coordinates which region) ∙ ap (λ n. 2 * n) (length-map region (coordinate_of which))

ends_length : (implied : Bool) (region : List Triple) → length (intermediate_bytes (ends_by implied region)) ≤ 4 * length region
ends_length true region = omega arith
ends_length false region =
    omega (arith, length-append (flat_map signed_word (coordinates Start region)) (flat_map signed_word (coordinates End region)), coordinates_length Start region, coordinates_length End region)

-- a header takes four bytes, and at most six an axis
pub header_length : (size : ℕ) (region : List Triple) → length (header_bytes size (header_of region)) ≤ 4 + 6 * length region
header_length size region =
    omega (arith, length-append (flat_map signed_word (coordinates Peak region)) (intermediate_bytes (ends_by (is_implied region) region)), coordinates_length Peak region, ends_length (is_implied region) region)
