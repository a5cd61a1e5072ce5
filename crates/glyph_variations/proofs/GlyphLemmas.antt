-- The deltas of a master are those of all points of a glyph.
use Rattle.std.proofs.Common.{◌≡◌, ℕ, ℤ, pos, ◌<◌, ◌≤◌, List, [], ◌∷◌, length, get_or, sum, All, arith}
use Rattle.std.proofs.lemmas.Int.{ints}
use Rattle.std.proofs.lemmas.List.{length-append}
use Rattle.std.proofs.lemmas.List.Elements.{All-append, All-cons, All-head, All-map, All-nil, All-weaker}
use Rattle.fixpoint.specs.declared.plane.Pair.{Pair}
use Rattle.glif.specs.Limits.{IsContourWithin, IsWithinLimits}
use Rattle.glif.specs.declared.shape.Outline.{Outline}
use Rattle.glif.specs.declared.shape.Point.{Point}
use Rattle.variation_rules.specs.FontUnits.{AreFWords, IsFWord}
use Rattle.variation_rules.specs.InferredDelta.{still}
use Rattle.explicit_points.specs.ExplicitPoints.{IsCount}
use Rattle.delta_solve.specs.GlyphModels.{IsTupleWithin}
use Rattle.delta_solve.specs.Outlines.{contour_lengths}
use Rattle.delta_solve.specs.declared.model.GlyphTuple.{GlyphTuple}
use Rattle.glyph_variations.specs.Conditions.{IsVariable, default_points}
use Rattle.glyph_variations.specs.Variations.{all_deltas, phantom_deltas}
use Rattle.glyph_variations.proofs.MovingLemmas.{IsGlyphOf}

-- the phantom points' deltas fit 16 bits
phantoms_within : (advance : ℤ) → IsFWord advance → All AreFWords (phantom_deltas advance)
phantoms_within advance word =
    let none : IsFWord (pos 0) = record { low = omega (arith, ints); high = omega (arith, ints) } in
    let stays : AreFWords still = record { x = none; y = none } in
    let moves : AreFWords (record { x = advance; y = pos 0 }) = record { x = word; y = none } in
    All-cons AreFWords still (record { x = advance; y = pos 0 } ∷ still ∷ still ∷ []) stays (All-cons AreFWords (record { x = advance; y = pos 0 }) (still ∷ still ∷ []) moves (All-cons AreFWords still (still ∷ []) stays (All-cons AreFWords still [] stays (All-nil AreFWords))))

-- and so do those of all points
all_within : (tuple : GlyphTuple) → IsTupleWithin tuple → All AreFWords (all_deltas tuple)
all_within tuple within = All-append AreFWords tuple.deltas (phantom_deltas tuple.advance) within.deltas (phantoms_within tuple.advance within.advance)

pub is_glyph_of : (lengths : List ℕ) (points : List Pair) (tuple : GlyphTuple) → All IsCount lengths → sum lengths ≡ length points → length points ≤ 4000 → All AreFWords points → length tuple.deltas ≡ length points → IsTupleWithin tuple → IsGlyphOf lengths points tuple
is_glyph_of lengths points tuple contours whole few points_fit one_each within = (
  record {
    contours = contours;
    whole = whole;
    few = few;
    phantom_points = omega (arith, length-append tuple.deltas (phantom_deltas tuple.advance));
    points_fit = points_fit;
    deltas_fit = all_within tuple within;
  },
  one_each,
)

-- the contours of an outline within limits have 1 to 1,024 points
pub counts_within : (outline : Outline) → IsWithinLimits outline → All IsCount (contour_lengths outline)
counts_within outline within =
    All-map IsCount length outline.contours
    (All-weaker IsContourWithin (λ (contour : List Point). IsCount (length contour)) (λ contour is. record { some = omega (arith, is.least); few = is.greatest }) outline.contours within.contours_within)

-- the default's numbers are of 16 bits
default_within : (masters : List GlyphTuple) → All IsTupleWithin masters → All AreFWords (default_points masters)
default_within [] within = All-nil AreFWords
default_within (default ∷ masters) within = (All-head IsTupleWithin default masters within).deltas

-- the master of this number has its deltas
pub master_glyph : (lengths : List ℕ) (masters : List GlyphTuple) (k : ℕ) (master : GlyphTuple) → IsVariable lengths masters → k < length masters → master ≡ get_or masters k master → IsGlyphOf lengths (default_points masters) master
master_glyph lengths masters k master variable inside is =
    let alike : length master.deltas ≡ length (default_points masters) = rw (← is) at (variable.tuples_are.alike k master inside) in
    let within : IsTupleWithin master = rw (← is) at (variable.tuples_are.within k master inside) in
    is_glyph_of lengths (default_points masters) master variable.contours variable.whole variable.tuples_are.few_points (default_within masters variable.tuples_are.within) alike within
