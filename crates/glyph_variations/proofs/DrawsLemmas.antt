-- The tuple variations of a glyph draw the model of its masters.
use Rattle.std.proofs.Common.{◌≡◌, ℕ, ℤ, zero, suc, pos, ◌+◌, ◌<◌, ◌≤◌, ◌+ℤ◌, ◌-ℤ◌, ◌*ℤ◌, List, [], ◌∷◌, ◌++◌, length, map, get_or, All, sum, refl, sym, ◌∙◌, ap, subst, arith}
use Rattle.std.proofs.lemmas.Int.{ints}
use Rattle.std.proofs.lemmas.List.{ext_get_or, get_or-map, length-map}
use Rattle.std.proofs.lemmas.List.Concat.{length-flat_map}
use Rattle.std.proofs.lemmas.List.Elements.{All-head, All-tail}
use Rattle.std.proofs.lemmas.List.Sums.{sum-map}
use Rattle.fixpoint.specs.Rounding.{round_up, round_down}
use Rattle.fixpoint.specs.declared.plane.Pair.{Pair}
use Rattle.fixpoint.proofs.RoundingLemmas.{comes_back, scaled_by_one}
use Rattle.glif.specs.Limits.{IsWithinLimits}
use Rattle.glif.specs.declared.shape.Outline.{Outline}
use Rattle.glif.specs.declared.shape.Point.{Point}
use Rattle.variation_rules.specs.InferredDelta.{still}
use Rattle.variation_rules.specs.DrawnOutline.{Fills, phantom_movement}
use Rattle.variation_rules.specs.Scalar.{scalar_of}
use Rattle.variation_rules.specs.declared.region.Triple.{Triple}
use Rattle.variation_rules.specs.declared.tuple.TupleVariation.{TupleVariation}
use Rattle.region_support.specs.Regions.{AreTriangular, FirstIsWhole, regions_of}
use Rattle.region_support.proofs.RegionLaw.{first_is_whole, regions_law}
use Rattle.delta_solve.specs.Deltas.{ComeBack, deltas_after, deltas_by, deltas_of, dot, model_value, next_delta, scalars_at, whole_rows}
use Rattle.delta_solve.specs.GlyphModels.{AreTuplesBy, IsTupleWithin, default_of, delta_advance, delta_x, delta_y}
use Rattle.delta_solve.specs.Outlines.{advance_of, all_points, contour_lengths, position, points_of, x_at, x_of, y_at, y_of}
use Rattle.delta_solve.specs.declared.model.GlyphTuple.{GlyphTuple}
use Rattle.delta_solve.proofs.GlyphLemmas.{few_points}
use Rattle.delta_solve.proofs.MasterLaw.{masters_law}
use Rattle.explicit_points.specs.ExplicitPoints.{IsCount}
use Rattle.glyph_variations.specs.Draws.{Draws, DrawsMasters, DrawsModel, ModelsAreDrawn}
use Rattle.glyph_variations.specs.Variations.{AreMoving, AreVariations}
use Rattle.glyph_variations.proofs.GlyphLemmas.{counts_within, is_glyph_of}
use Rattle.glyph_variations.proofs.MovingLemmas.{IsGlyphOf, moving_advance, moving_filled, moving_fills, moving_moves}

-- ---- the default's delta is its value

none_given : (row : List ℤ) → dot row [] ≡ pos 0
none_given [] = refl
none_given (scalar ∷ row) = refl

first_delta : (row : List ℤ) (value : ℤ) → next_delta row value [] ≡ value
unfolding next_delta
first_delta row value =
    let d = round_down ((pos 65536 *ℤ value) -ℤ pos 0) 65536 in
    let back : round_up (pos 0 +ℤ (pos 65536 *ℤ d)) 65536 ≡ value = comes_back (pos 0) value in
    let turned : d *ℤ pos 65536 ≡ pos 0 +ℤ (pos 65536 *ℤ d) = omega (arith, ints) in
    ap (λ given. round_down ((pos 65536 *ℤ value) -ℤ given) 65536) (none_given row)
    ∙ (sym (scaled_by_one d 65536 (omega arith)) ∙ (ap (λ z. round_up z 65536) turned ∙ back))

-- so its tuple is its outline
default_deltas : (row : List ℤ) (rows : List (List ℤ)) (outline : Outline) (outlines : List Outline) (tuple : GlyphTuple) (tuples : List GlyphTuple) → AreTuplesBy (row ∷ rows) (outline ∷ outlines) (tuple ∷ tuples) → tuple.deltas ≡ points_of outline
default_deltas row rows outline outlines tuple tuples are =
    let same : length tuple.deltas ≡ length (points_of outline) = are.points 0 tuple (omega arith) in
    ext_get_or still tuple.deltas (points_of outline) same
    (λ k below.
    let inside : k < length (points_of outline) = omega arith in
    let x_same : x_at k tuple.deltas ≡ x_of k outline = ap (λ deltas. get_or deltas 0 (pos 0)) (are.xs k inside) ∙ first_delta row (x_of k outline) in
    let y_same : y_at k tuple.deltas ≡ y_of k outline = ap (λ deltas. get_or deltas 0 (pos 0)) (are.ys k inside) ∙ first_delta row (y_of k outline) in
    λ i. record { x = x_same i; y = y_same i })

default_advance : (row : List ℤ) (rows : List (List ℤ)) (outline : Outline) (outlines : List Outline) (tuple : GlyphTuple) (tuples : List GlyphTuple) → AreTuplesBy (row ∷ rows) (outline ∷ outlines) (tuple ∷ tuples) → tuple.advance ≡ advance_of outline
default_advance row rows outline outlines tuple tuples are =
    ap (λ deltas. get_or deltas 0 (pos 0)) are.advances ∙ first_delta row (advance_of outline)

-- an outline has the points of its contours
pub outline_count : (outline : Outline) → sum (contour_lengths outline) ≡ length (points_of outline)
outline_count outline =
    omega (arith, length-map (all_points outline) position, length-flat_map (λ (contour : List Point). contour) outline.contours, sum-map length outline.contours)

-- ---- the model's value at a location

-- the default's region is whole, so its tuple counts whole
value_over : (region : List Triple) (regions : List (List Triple)) (at : List ℤ) (number : GlyphTuple → ℤ) (tuple : GlyphTuple) (tuples : List GlyphTuple) → scalar_of 16 region at ≡ pos 65536
    → model_value (region ∷ regions) (map number (tuple ∷ tuples)) at ≡ (pos 65536 *ℤ number tuple) +ℤ dot (scalars_at regions at) (map number tuples)
value_over region regions at number tuple tuples whole = ap (λ scalar. (scalar *ℤ number tuple) +ℤ dot (scalars_at regions at) (map number tuples)) whole

-- ---- what is drawn

drawn_over : (regions : List (List Triple)) (region : List Triple) (rows : List (List ℤ)) (row : List ℤ) (locations : List (List ℤ)) (lengths : List ℕ) (outline : Outline) (outlines : List Outline) (tuple : GlyphTuple) (tuples : List GlyphTuple) (found : List TupleVariation)
    → FirstIsWhole (region ∷ regions) → whole_rows (region ∷ regions) locations ≡ row ∷ rows → AreTuplesBy (row ∷ rows) (outline ∷ outlines) (tuple ∷ tuples)
    → All (IsGlyphOf lengths tuple.deltas) tuples → AreMoving lengths tuple.deltas regions tuples found
    → DrawsModel (region ∷ regions) locations (outline ∷ outlines) found (moving_fills regions tuples)
drawn_over regions region rows row locations lengths outline outlines tuple tuples found whole rows_are are glyphs moving =
    let all = region ∷ regions in
    let same = default_deltas row rows outline outlines tuple tuples are in record {
      xs = λ at point below.
          ap (λ z. (pos 65536 *ℤ x_at point (points_of outline)) +ℤ z) (moving_moves (λ (pair : Pair). pair.x) lengths tuple.deltas regions tuples found at point refl moving)
          ∙ (ap (λ deltas. (pos 65536 *ℤ x_at point deltas) +ℤ dot (scalars_at regions at) (map (delta_x point) tuples)) (sym same)
          ∙ (sym (value_over region regions at (delta_x point) tuple tuples (whole 16 at))
          ∙ (ap (λ deltas. model_value all deltas at) (are.xs point below) ∙ ap (λ rows. model_value all (deltas_by rows (map (x_of point) (outline ∷ outlines))) at) (sym rows_are))));
      ys = λ at point below.
          ap (λ z. (pos 65536 *ℤ y_at point (points_of outline)) +ℤ z) (moving_moves (λ (pair : Pair). pair.y) lengths tuple.deltas regions tuples found at point refl moving)
          ∙ (ap (λ deltas. (pos 65536 *ℤ y_at point deltas) +ℤ dot (scalars_at regions at) (map (delta_y point) tuples)) (sym same)
          ∙ (sym (value_over region regions at (delta_y point) tuple tuples (whole 16 at))
          ∙ (ap (λ deltas. model_value all deltas at) (are.ys point below) ∙ ap (λ rows. model_value all (deltas_by rows (map (y_of point) (outline ∷ outlines))) at) (sym rows_are))));
      advances = λ at.
          ap (λ (deltas : List Pair). (pos 65536 *ℤ advance_of outline) +ℤ phantom_movement at found (length deltas + 1)) (sym same)
          ∙ (ap (λ z. (pos 65536 *ℤ advance_of outline) +ℤ z) (moving_advance lengths tuple.deltas regions tuples found at glyphs moving)
          ∙ (ap (λ advance. (pos 65536 *ℤ advance) +ℤ dot (scalars_at regions at) (map delta_advance tuples)) (sym (default_advance row rows outline outlines tuple tuples are))
          ∙ (sym (value_over region regions at delta_advance tuple tuples (whole 16 at))
          ∙ (ap (λ deltas. model_value all deltas at) are.advances ∙ ap (λ rows. model_value all (deltas_by rows (map advance_of (outline ∷ outlines))) at) (sym rows_are)))));
    }

-- ---- at the masters' locations

come_at : (regions : List (List Triple)) (deltas : List ℤ) (locations : List (List ℤ)) (values : List ℤ) (master : ℕ) → ComeBack regions deltas locations values → master < length locations → master < length values → round_up (model_value regions deltas (get_or locations master [])) 65536 ≡ get_or values master (pos 0)
come_at regions deltas [] values master back inside also = absurd (omega arith)
come_at regions deltas (at ∷ ats) [] master back inside also = absurd (omega arith)
come_at regions deltas (at ∷ ats) (value ∷ values) zero back inside also = back.0
come_at regions deltas (at ∷ ats) (value ∷ values) (suc master) back inside also = come_at regions deltas ats values master back.1 (omega arith) (omega arith)

-- there are no more deltas than rows
after_at_most : (earlier : List ℤ) (rows : List (List ℤ)) (values : List ℤ) → length (deltas_after earlier rows values) ≤ length rows
after_at_most earlier [] values = omega arith
after_at_most earlier (row ∷ rows) [] = omega arith
after_at_most earlier (row ∷ rows) (value ∷ values) =
    let rest = after_at_most (earlier ++ (next_delta row value earlier ∷ [])) rows values in omega arith

-- and so a location for each outline
location_each : (regions : List (List Triple)) (locations : List (List ℤ)) (outlines : List Outline) (tuples : List GlyphTuple) → AreTuplesBy (whole_rows regions locations) outlines tuples → length outlines ≤ length locations
location_each regions locations outlines tuples are =
    omega (arith, are.one_each, ap length are.advances, length-map tuples delta_advance, after_at_most [] (whole_rows regions locations) (map advance_of outlines), length-map locations (scalars_at regions))

masters_drawn : (regions : List (List Triple)) (locations : List (List ℤ)) (outlines : List Outline) (tuples : List TupleVariation) (fills : List (List Pair)) → AreTriangular regions locations → length outlines ≤ length locations → DrawsModel regions locations outlines tuples fills → DrawsMasters locations outlines tuples fills
masters_drawn regions locations outlines tuples fills ends enough model =
    let back : (values : List ℤ) → ComeBack regions (deltas_of regions locations values) locations values = λ values. masters_law regions locations values ends in record {
      xs = λ master point among below.
          ap (λ z. round_up z 65536) (model.xs (get_or locations master []) point below)
          ∙ (come_at regions (deltas_of regions locations (map (x_of point) outlines)) locations (map (x_of point) outlines) master (back (map (x_of point) outlines)) (omega arith) (omega (arith, length-map outlines (x_of point)))
          ∙ get_or-map (x_of point) outlines master (default_of outlines) (pos 0) among);
      ys = λ master point among below.
          ap (λ z. round_up z 65536) (model.ys (get_or locations master []) point below)
          ∙ (come_at regions (deltas_of regions locations (map (y_of point) outlines)) locations (map (y_of point) outlines) master (back (map (y_of point) outlines)) (omega arith) (omega (arith, length-map outlines (y_of point)))
          ∙ get_or-map (y_of point) outlines master (default_of outlines) (pos 0) among);
      advances = λ master among.
          ap (λ z. round_up z 65536) (model.advances (get_or locations master []))
          ∙ (come_at regions (deltas_of regions locations (map advance_of outlines)) locations (map advance_of outlines) master (back (map advance_of outlines)) (omega arith) (omega (arith, length-map outlines advance_of))
          ∙ get_or-map advance_of outlines master (default_of outlines) (pos 0) among);
    }

-- ---- both

none_after : (rows : List (List ℤ)) → deltas_by rows [] ≡ []
none_after [] = refl
none_after (row ∷ rows) = refl

-- without an outline nothing is drawn
no_variations : (lengths : List ℕ) (regions : List (List Triple)) (found : List TupleVariation) → AreVariations lengths regions [] found → found ≡ []
no_variations lengths [] found are = are
no_variations lengths (region ∷ regions) found are = are

nothing_drawn : (regions : List (List Triple)) (locations : List (List ℤ)) → Draws regions locations [] []
nothing_drawn regions locations = record {
  fills = [];
  are_fills = tt;
  model = record {
    xs = λ at point below. absurd (omega arith);
    ys = λ at point below. absurd (omega arith);
    advances = λ at. sym (ap (λ deltas. dot (scalars_at regions at) deltas) (none_after (whole_rows regions locations)) ∙ none_given (scalars_at regions at));
  };
  masters = record {
    xs = λ master point among below. absurd (omega arith);
    ys = λ master point among below. absurd (omega arith);
    advances = λ master among. absurd (omega arith);
  };
}

-- each master's tuple is one of the default's glyph
glyphs_of : (rows : List (List ℤ)) (lengths : List ℕ) (outline : Outline) (outlines : List Outline) (tuple : GlyphTuple) (tuples : List GlyphTuple) → lengths ≡ contour_lengths outline → tuple.deltas ≡ points_of outline → IsWithinLimits outline → All IsTupleWithin (tuple ∷ tuples) → AreTuplesBy rows (outline ∷ outlines) (tuple ∷ tuples)
    → All (IsGlyphOf lengths tuple.deltas) tuples
glyphs_of rows lengths outline outlines tuple tuples lengths_are same limits within are =
    let contours : All IsCount lengths = subst (All IsCount) (sym lengths_are) (counts_within outline limits) in
    let whole : sum lengths ≡ length tuple.deltas = ap sum lengths_are ∙ (outline_count outline ∙ ap length (sym same)) in
    let few : length tuple.deltas ≤ 4000 = omega (arith, ap length same, length-map (all_points outline) position, few_points outline limits) in
    let own : IsTupleWithin tuple = All-head IsTupleWithin tuple tuples within in
    let others : All IsTupleWithin tuples = All-tail IsTupleWithin tuple tuples within in
    let one_each : All (λ (tuple : GlyphTuple). length tuple.deltas ≡ length (points_of outline)) tuples = All-tail (λ (tuple : GlyphTuple). length tuple.deltas ≡ length (points_of outline)) tuple tuples are.points in
    λ k d below. is_glyph_of lengths tuple.deltas (get_or tuples k d) contours whole few own.deltas (one_each k d below ∙ ap length (sym same)) (others k d below)

draws : (regions : List (List Triple)) (locations : List (List ℤ)) (outlines : List Outline) (lengths : List ℕ) (tuples : List GlyphTuple) (found : List TupleVariation) → FirstIsWhole regions → AreTriangular regions locations → lengths ≡ contour_lengths (default_of outlines) → All IsWithinLimits outlines → All IsTupleWithin tuples → AreTuplesBy (whole_rows regions locations) outlines tuples
    → AreVariations lengths regions tuples found → Draws regions locations outlines found
draws regions locations [] lengths [] found whole ends lengths_are limits within are variations = subst (Draws regions locations []) (sym (no_variations lengths regions found variations)) (nothing_drawn regions locations)
draws regions locations [] lengths (tuple ∷ tuples) found whole ends lengths_are limits within are variations = absurd (let count = are.one_each in omega arith)
draws regions [] (outline ∷ outlines) lengths tuples found whole ends lengths_are limits within are variations = absurd (let enough = location_each regions [] (outline ∷ outlines) tuples are in omega arith)
draws [] (at ∷ ats) (outline ∷ outlines) lengths tuples found whole ends lengths_are limits within are variations = absurd ends
draws (region ∷ regions) (at ∷ ats) (outline ∷ outlines) lengths [] found whole ends lengths_are limits within are variations = absurd (let count = are.one_each in omega arith)
draws (region ∷ regions) (at ∷ ats) (outline ∷ outlines) lengths (tuple ∷ tuples) found whole ends lengths_are limits within are variations =
    let all = region ∷ regions in
    let row = scalars_at all at in
    let rows = map (scalars_at all) ats in
    let own_fills = moving_fills regions tuples in
    let same = default_deltas row rows outline outlines tuple tuples are in
    let glyphs = glyphs_of (row ∷ rows) lengths outline outlines tuple tuples lengths_are same (All-head IsWithinLimits outline outlines limits) within are in
    let drawn = drawn_over regions region rows row (at ∷ ats) lengths outline outlines tuple tuples found whole refl are glyphs variations in
    let filled = moving_filled lengths tuple.deltas regions tuples found glyphs variations in record {
      fills = own_fills;
      are_fills = subst (λ counts. Fills counts (points_of outline) found own_fills) lengths_are (subst (λ deltas. Fills lengths deltas found own_fills) same filled);
      model = drawn;
      masters = masters_drawn all (at ∷ ats) (outline ∷ outlines) found own_fills ends (location_each all (at ∷ ats) (outline ∷ outlines) (tuple ∷ tuples) are) drawn;
    }

pub drawing_law : ModelsAreDrawn
drawing_law axes locations outlines model found masters limits within made variations =
    draws (regions_of locations) locations outlines model.lengths model.tuples found (first_is_whole axes locations masters) (regions_law axes locations masters) made.lengths limits within made.tuples variations
