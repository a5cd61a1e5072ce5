use Rattle.std.proofs.Common.{◌≡◌, ◌+◌, [], ◌∷◌, length, map, Some, None, false, to_z-of_z, FitsSigned, rules, ◌∙◌, ap, arith}
use Rattle.std.proofs.lemmas.List.{length-map}
use Rattle.std.proofs.lemmas.Result.{err_from_is_err_and}
use Rattle.std.specs.Int.{w32, w64}
use Rattle.delta_solve.specs.GlyphModels.{misfit, next_advance, next_point_misfits}
use Rattle.delta_solve.specs.Outlines.{position, points_of}
use Rattle.delta_solve.proofs.GlyphLemmas.{few_points, stop_before, last_found, last_none}
use Rattle.delta_solve.proofs.glyph.next_tuple.Goals as goal

pub point_deltas-requires-clause-points : goal.point_deltas-requires-clause-points
point_deltas-requires-clause-points c =
    omega (arith, ap length (c.deref.ensures.value ∙ c.in_ok-points.ensures), few_points c.args.outline.now c.requires.outline)

-- a point's delta doesn't fit
pub returns-in_err-deltas-clause-stops : goal.returns-in_err-deltas-clause-stops
returns-in_err-deltas-clause-stops c =
    let p = err_from_is_err_and c.from_residual-in_err-deltas.result c.from_residual-in_err-deltas.ensures.1 in
    let outline = c.args.outline.now in
    let points_are : map position c.deref.result.now ≡ points_of outline = ap (map position) (c.deref.ensures.value ∙ c.in_ok-points.ensures) in
    let prefix = next_point_misfits c.args.master c.args.row.now c.args.earlier.now (points_of outline) in
    let last = misfit c.args.master (length (points_of outline) + 1) false (next_advance c.args.row.now c.args.earlier.now outline.advance) in
    rw (p.1, p.2) (stop_before prefix (last ∷ []) _ (rw points_are at c.in_err-deltas.ensures.stops))

pub overflow_cast-len : goal.overflow_cast-len
overflow_cast-len c =
    omega (arith, c.len.ensures, c.deref.ensures.len, ap length (c.deref.ensures.value ∙ c.in_ok-points.ensures), few_points c.args.outline.now c.requires.outline)

pub overflow_add-len : goal.overflow_add-len
overflow_add-len c =
    omega (arith, c.len.ensures, c.deref.ensures.len, ap length (c.deref.ensures.value ∙ c.in_ok-points.ensures), few_points c.args.outline.now c.requires.outline)

-- the advance's delta doesn't fit
pub returns-in_err-advance-clause-stops : goal.returns-in_err-advance-clause-stops
returns-in_err-advance-clause-stops c =
    let p = err_from_is_err_and c.from_residual-in_err-advance.result c.from_residual-in_err-advance.ensures.1 in
    let outline = c.args.outline.now in
    let points_are : map position c.deref.result.now ≡ points_of outline = ap (map position) (c.deref.ensures.value ∙ c.in_ok-points.ensures) in
    let count : c.len.result ≡ length (points_of outline) = omega (arith, c.len.ensures, c.deref.ensures.len, ap length points_are, length-map c.deref.result.now position) in
    let prefix = next_point_misfits c.args.master c.args.row.now c.args.earlier.now (points_of outline) in
    let advance_fits : FitsSigned w32 outline.advance = search rules in
    let left_fits : FitsSigned w64 c.advance_left-left.result = search rules in
    let left_is : c.advance_left-left.result ≡ next_advance c.args.row.now c.args.earlier.now outline.advance = simp to_z-of_z at c.advance_left-left.ensures in
    let own : misfit c.args.master (length (points_of outline) + 1) false (next_advance c.args.row.now c.args.earlier.now outline.advance) ≡ Some c.in_err-advance.field-0.0 =
    rw (← count, ← left_is) (simp to_z-of_z at c.in_err-advance.ensures.stops) in
    rw (p.1, p.2) (last_found prefix _ _ (rw points_are at c.in_ok-deltas.ensures.fits) own)

-- all deltas fit
pub returns-clause-fits : goal.returns-clause-fits
returns-clause-fits c =
    let outline = c.args.outline.now in
    let points_are : map position c.deref.result.now ≡ points_of outline = ap (map position) (c.deref.ensures.value ∙ c.in_ok-points.ensures) in
    let count : c.len.result ≡ length (points_of outline) = omega (arith, c.len.ensures, c.deref.ensures.len, ap length points_are, length-map c.deref.result.now position) in
    let prefix = next_point_misfits c.args.master c.args.row.now c.args.earlier.now (points_of outline) in
    let advance_fits : FitsSigned w32 outline.advance = search rules in
    let left_fits : FitsSigned w64 c.advance_left-left.result = search rules in
    let left_is : c.advance_left-left.result ≡ next_advance c.args.row.now c.args.earlier.now outline.advance = simp to_z-of_z at c.advance_left-left.ensures in
    let own : misfit c.args.master (length (points_of outline) + 1) false (next_advance c.args.row.now c.args.earlier.now outline.advance) ≡ None =
    rw (← count, ← left_is) (simp to_z-of_z at c.in_ok-advance.ensures.fits) in
    last_none prefix _ (rw points_are at c.in_ok-deltas.ensures.fits) own
