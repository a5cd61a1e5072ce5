-- The models of outlines within limits are such as a font can be built of.
use Rattle.std.proofs.Common.{◌≡◌, ℕ, ℤ, pos, ◌<◌, ◌≤◌, ◌+ℤ◌, ◌*ℤ◌, ◌-ℤ◌, Bool, List, [], ◌∷◌, ◌++◌, length, map, drop, get_or, All, refl, sym, ◌∙◌, ap, subst, arith}
use Rattle.std.specs.List.{flat_map}
use Rattle.std.proofs.lemmas.List.{length-map, take_at, drop_at, ext_get_or}
use Rattle.std.proofs.lemmas.Int.{ints}
use Rattle.fixpoint.specs.Rounding.{round_up, round_down}
use Rattle.fixpoint.specs.declared.plane.Pair.{Pair}
use Rattle.fixpoint.proofs.RoundingLemmas.{comes_back, scaled_by_one}
use Rattle.variation_rules.specs.InferredDelta.{still}
use Rattle.glif.specs.Limits.{IsWithinLimits}
use Rattle.glif.specs.declared.shape.Point.{Point}
use Rattle.glif.specs.declared.shape.Outline.{Outline}
use Rattle.delta_solve.specs.Deltas.{deltas_by, dot, next_delta}
use Rattle.delta_solve.specs.GlyphModels.{AreTuplesBy, IsModelBy, IsTupleWithin, default_of}
use Rattle.delta_solve.specs.Outlines.{advance_of, all_points, contour_lengths, points_of, position, x_at, x_of, y_at, y_of}
use Rattle.delta_solve.specs.declared.model.GlyphModel.{GlyphModel}
use Rattle.delta_solve.specs.declared.model.GlyphTuple.{GlyphTuple}
use Rattle.glyph_variations.specs.Conditions.{default_points}
use Rattle.glyph_variations.proofs.ModelLemmas.{is_variable, points_of_default}
use Rattle.font_model.specs.DefaultOutline.{contours_of, default_advance, default_outline, points_at}
use Rattle.font_model.specs.Fit.{IsFitModel}

-- ---- the default's deltas are its numbers

no_sum : (row : List ℤ) → dot row [] ≡ pos 0
no_sum [] = refl
no_sum (a ∷ row) = refl

first_is : (value : ℤ) → round_down ((pos 65536 *ℤ value) -ℤ pos 0) 65536 ≡ value
first_is value =
    let r = round_down ((pos 65536 *ℤ value) -ℤ pos 0) 65536 in
    let same : r *ℤ pos 65536 ≡ pos 0 +ℤ (pos 65536 *ℤ r) = omega (arith, ints) in
    sym (scaled_by_one r 65536 (omega arith)) ∙ (ap (λ z. round_up z 65536) same ∙ comes_back (pos 0) value)

first_delta : (row : List ℤ) (value : ℤ) → next_delta row value [] ≡ value
unfolding next_delta
first_delta row value = ap (λ z. round_down ((pos 65536 *ℤ value) -ℤ z) 65536) (no_sum row) ∙ first_is value

-- of a number's deltas the first is that of the default
first_by : (rows : List (List ℤ)) (value : ℤ) (values : List ℤ) → 0 < length rows → get_or (deltas_by rows (value ∷ values)) 0 (pos 0) ≡ value
first_by [] value values some = absurd (omega arith)
first_by (row ∷ rows) value values some = first_delta row value

-- ---- the points of an outline off its parts

points_back : (points : List Point) → points_at (map (λ (point : Point). point.on) points) (map position points) ≡ points
points_back [] = refl
points_back (point ∷ points) = ap (λ (rest : List Point). point ∷ rest) (points_back points)

contours_back : (contours : List (List Point)) → contours_of (map length contours) (flat_map (λ contour. contour) contours) ≡ contours
contours_back [] = refl
contours_back (contour ∷ contours) =
    let rest = flat_map (λ (contour : List Point). contour) contours in
    ap (λ (one : List Point). one ∷ contours_of (map length contours) (drop (length contour) (contour ++ rest))) (take_at contour rest (length contour) refl)
    ∙ ap (λ (more : List (List Point)). contour ∷ more) (ap (contours_of (map length contours)) (drop_at contour rest (length contour) refl) ∙ contours_back contours)

-- ---- the default's drawing off a model

module _ (rows : List (List ℤ)) (some : 0 < length rows) where
  first_points : (outline : Outline) (outlines : List Outline) (tuple : GlyphTuple) (tuples : List GlyphTuple) → AreTuplesBy rows (outline ∷ outlines) (tuple ∷ tuples) → tuple.deltas ≡ points_of outline
  first_points outline outlines tuple tuples are =
      ext_get_or still tuple.deltas (points_of outline) (are.points 0 tuple (omega arith))
      (λ k below.
      let inside : k < length (points_of outline) = omega (arith, are.points 0 tuple (omega arith)) in
      let x : x_at k tuple.deltas ≡ x_at k (points_of outline) = ap (λ (list : List ℤ). get_or list 0 (pos 0)) (are.xs k inside) ∙ first_by rows (x_of k outline) (map (x_of k) outlines) some in
      let y : y_at k tuple.deltas ≡ y_at k (points_of outline) = ap (λ (list : List ℤ). get_or list 0 (pos 0)) (are.ys k inside) ∙ first_by rows (y_of k outline) (map (y_of k) outlines) some in
      λ i. record { x = x i; y = y i })

  first_advance : (outline : Outline) (outlines : List Outline) (tuple : GlyphTuple) (tuples : List GlyphTuple) → AreTuplesBy rows (outline ∷ outlines) (tuple ∷ tuples) → tuple.advance ≡ outline.advance
  first_advance outline outlines tuple tuples are =
      ap (λ (list : List ℤ). get_or list 0 (pos 0)) are.advances ∙ first_by rows outline.advance (map advance_of outlines) some

  drawing_is : (outline : Outline) (outlines : List Outline) (lengths : List ℕ) (on : List Bool) (tuples : List GlyphTuple) → AreTuplesBy rows (outline ∷ outlines) tuples
      → lengths ≡ contour_lengths outline → on ≡ map (λ (point : Point). point.on) (all_points outline)
      → (default_advance tuples ≡ outline.advance) × (contours_of lengths (points_at on (default_points tuples)) ≡ outline.contours)
  drawing_is outline outlines lengths on [] are counted kinds = absurd (let count = are.one_each in omega arith)
  drawing_is outline outlines lengths on (tuple ∷ tuples) are counted kinds = (
    first_advance outline outlines tuple tuples are,
    ap (λ (list : List ℕ). contours_of list (points_at on tuple.deltas)) counted
        ∙ (ap (λ (list : List Bool). contours_of (contour_lengths outline) (points_at list tuple.deltas)) kinds
        ∙ (ap (λ (list : List Pair). contours_of (contour_lengths outline) (points_at (map (λ (point : Point). point.on) (all_points outline)) list)) (first_points outline outlines tuple tuples are)
        ∙ (ap (contours_of (contour_lengths outline)) (points_back (all_points outline)) ∙ contours_back outline.contours))),
  )

  pub default_is : (outlines : List Outline) (model : GlyphModel) → 0 < length outlines → IsModelBy rows outlines model → default_outline model ≡ default_of outlines
  default_is [] model more is = absurd (omega arith)
  default_is (outline ∷ outlines) model more is =
      let parts = drawing_is outline outlines model.lengths model.on model.tuples is.tuples is.lengths is.on in
      λ i. record { advance = parts.0 i; contours = parts.1 i }

  -- a model of as many masters as there are
  pub fit_model : (masters : ℕ) (outlines : List Outline) (model : GlyphModel) → IsModelBy rows outlines model → All IsTupleWithin model.tuples → All IsWithinLimits outlines
      → length outlines ≡ masters → 0 < masters → masters ≤ 128 → IsFitModel masters model
  fit_model masters outlines model is within limits count more few = record {
    one_each = is.tuples.one_each ∙ count;
    variable = is_variable rows outlines model is within limits (omega arith);
    kinds = ap length is.on ∙ (length-map (all_points (default_of outlines)) (λ (point : Point). point.on) ∙ (sym (length-map (all_points (default_of outlines)) position) ∙ sym (points_of_default rows outlines model.tuples is.tuples)));
    default = subst IsWithinLimits (sym (default_is outlines model (omega arith) is)) (let none : Outline = record { advance = pos 0; contours = [] } in limits 0 none (omega arith));
  }
