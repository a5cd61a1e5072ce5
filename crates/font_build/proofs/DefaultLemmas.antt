-- The default's outline by the model is the outline of the default master.
use Rattle.std.proofs.Common.{◌≡◌, ℕ, ℤ, pos, ◌<◌, ◌+ℤ◌, ◌-ℤ◌, ◌*ℤ◌, Bool, List, [], ◌∷◌, ◌++◌, length, map, get_or, drop, refl, sym, ap, subst, ◌∙◌, arith}
use Rattle.std.proofs.lemmas.Int.{ints}
use Rattle.std.proofs.lemmas.List.{ext_get_or, length-map}
use Rattle.std.proofs.Math.Seq.{drop-append_seam, take-append_seam}
use Rattle.fixpoint.specs.Rounding.{round_down, round_up}
use Rattle.fixpoint.proofs.RoundingLemmas.{comes_back, scaled_by_one}
use Rattle.glif.specs.declared.shape.Outline.{Outline}
use Rattle.glif.specs.declared.shape.Point.{Point}
use Rattle.variation_rules.specs.InferredDelta.{still}
use Rattle.variation_rules.specs.Scalar.{scalar_of}
use Rattle.variation_rules.specs.declared.region.Triple.{Triple}
use Rattle.delta_solve.specs.Deltas.{dot, model_value, next_delta, scalars_at, whole_rows}
use Rattle.delta_solve.specs.GlyphModels.{AreTuplesBy, IsModelBy, IsModelOf, default_of, delta_advance}
use Rattle.delta_solve.specs.Outlines.{advance_of, all_points, contour_lengths, points_of, position, x_at, x_of, y_at, y_of}
use Rattle.delta_solve.specs.declared.model.GlyphModel.{GlyphModel}
use Rattle.delta_solve.specs.declared.model.GlyphTuple.{GlyphTuple}
use Rattle.font_model.specs.DefaultOutline.{contours_of, default_advance, default_outline, points_at}
use Rattle.glyph_variations.specs.Conditions.{default_points}

-- ---- the first deltas are the default's own numbers

none_given : (row : List ℤ) → dot row [] ≡ pos 0
none_given [] = refl
none_given (scalar ∷ row) = refl

first_delta : (row : List ℤ) (value : ℤ) → next_delta row value [] ≡ value
unfolding next_delta
first_delta row value =
    let d = round_down ((pos 65536 *ℤ value) -ℤ pos 0) 65536 in
    let back : round_up (pos 0 +ℤ (pos 65536 *ℤ d)) 65536 ≡ value = comes_back (pos 0) value in
    let turned : d *ℤ pos 65536 ≡ pos 0 +ℤ (pos 65536 *ℤ d) = omega (arith, ints) in
    ap (λ given. round_down ((pos 65536 *ℤ value) -ℤ given) 65536) (none_given row)
    ∙ (sym (scaled_by_one d 65536 (omega arith)) ∙ (ap (λ z. round_up z 65536) turned ∙ back))

deltas_are : (row : List ℤ) (rows : List (List ℤ)) (outline : Outline) (outlines : List Outline) (tuple : GlyphTuple) (tuples : List GlyphTuple) → AreTuplesBy (row ∷ rows) (outline ∷ outlines) (tuple ∷ tuples) → tuple.deltas ≡ points_of outline
deltas_are row rows outline outlines tuple tuples are =
    let same : length tuple.deltas ≡ length (points_of outline) = are.points 0 tuple (omega arith) in
    ext_get_or still tuple.deltas (points_of outline) same
    (λ k below.
    let inside : k < length (points_of outline) = omega arith in
    let x_same : x_at k tuple.deltas ≡ x_of k outline = ap (λ deltas. get_or deltas 0 (pos 0)) (are.xs k inside) ∙ first_delta row (x_of k outline) in
    let y_same : y_at k tuple.deltas ≡ y_of k outline = ap (λ deltas. get_or deltas 0 (pos 0)) (are.ys k inside) ∙ first_delta row (y_of k outline) in
    λ i. record { x = x_same i; y = y_same i })

advance_is : (row : List ℤ) (rows : List (List ℤ)) (outline : Outline) (outlines : List Outline) (tuple : GlyphTuple) (tuples : List GlyphTuple) → AreTuplesBy (row ∷ rows) (outline ∷ outlines) (tuple ∷ tuples) → tuple.advance ≡ advance_of outline
advance_is row rows outline outlines tuple tuples are =
    ap (λ deltas. get_or deltas 0 (pos 0)) are.advances ∙ first_delta row (advance_of outline)

-- ---- points and contours put together again

points_again : (points : List Point) → points_at (map (λ (point : Point). point.on) points) (map position points) ≡ points
points_again [] = refl
points_again (point ∷ points) = ap (λ (more : List Point). point ∷ more) (points_again points)

contours_again : (contours : List (List Point)) → contours_of (map length contours) (all_points (record { advance = pos 0; contours = contours })) ≡ contours
contours_again [] = refl
contours_again (own ∷ contours) =
    let rest : List Point = all_points (record { advance = pos 0; contours = contours }) in
    ap (λ (first : List Point). first ∷ contours_of (map length contours) (drop (length own) (own ++ rest))) (take-append_seam own rest)
    ∙ ap (λ (later : List Point). own ∷ contours_of (map length contours) later) (drop-append_seam own rest)
    ∙ ap (λ (more : List (List Point)). own ∷ more) (contours_again contours)

-- an outline of these numbers
put_together : (model : GlyphModel) (outline : Outline) → model.lengths ≡ contour_lengths outline → model.on ≡ map (λ (point : Point). point.on) (all_points outline) → default_points model.tuples ≡ points_of outline → default_advance model.tuples ≡ outline.advance
    → default_outline model ≡ outline
put_together model outline lengths on points advance =
    let together : points_at model.on (default_points model.tuples) ≡ all_points outline =
    ap (λ (kinds : List Bool). points_at kinds (default_points model.tuples)) on ∙ ap (points_at (map (λ (point : Point). point.on) (all_points outline))) points ∙ points_again (all_points outline) in
    let contours : contours_of model.lengths (points_at model.on (default_points model.tuples)) ≡ outline.contours =
    ap (λ (ns : List ℕ). contours_of ns (points_at model.on (default_points model.tuples))) lengths ∙ ap (contours_of (contour_lengths outline)) together ∙ contours_again outline.contours in
    λ i. record { advance = advance i; contours = contours i }

by_rows : (rows : List (List ℤ)) (outlines : List Outline) (model : GlyphModel) (tuples : List GlyphTuple) → tuples ≡ model.tuples → IsModelBy rows outlines model → default_outline model ≡ default_of outlines
by_rows rows [] model [] is by =
    put_together model (default_of []) by.lengths by.on (ap default_points (sym is)) (ap default_advance (sym is))
by_rows rows [] model (tuple ∷ tuples) is by = absurd (omega (arith, ap length is, by.tuples.one_each))
by_rows rows (outline ∷ outlines) model [] is by = absurd (omega (arith, ap length is, by.tuples.one_each))
by_rows [] (outline ∷ outlines) model (tuple ∷ tuples) is by =
    let own = subst (AreTuplesBy [] (outline ∷ outlines)) (sym is) by.tuples in
    absurd (omega (arith, ap length own.advances, length-map (tuple ∷ tuples) delta_advance))
by_rows (row ∷ rows) (outline ∷ outlines) model (tuple ∷ tuples) is by =
    let own = subst (AreTuplesBy (row ∷ rows) (outline ∷ outlines)) (sym is) by.tuples in
    put_together model outline by.lengths by.on
    (ap default_points (sym is) ∙ deltas_are row rows outline outlines tuple tuples own)
    (ap default_advance (sym is) ∙ advance_is row rows outline outlines tuple tuples own)

pub default_is : (regions : List (List Triple)) (locations : List (List ℤ)) (outlines : List Outline) (model : GlyphModel) → IsModelOf regions locations outlines model → default_outline model ≡ default_of outlines
default_is regions locations outlines model is = by_rows (whole_rows regions locations) outlines model model.tuples refl is

-- ---- the model of the advance

-- the default's region is whole
pub value_over : (region : List Triple) (regions : List (List Triple)) (at : List ℤ) (tuple : GlyphTuple) (tuples : List GlyphTuple) → scalar_of 16 region at ≡ pos 65536
    → model_value (region ∷ regions) (map delta_advance (tuple ∷ tuples)) at ≡ (pos 65536 *ℤ tuple.advance) +ℤ dot (scalars_at regions at) (map delta_advance tuples)
value_over region regions at tuple tuples whole = ap (λ scalar. (scalar *ℤ tuple.advance) +ℤ dot (scalars_at regions at) (map delta_advance tuples)) whole
