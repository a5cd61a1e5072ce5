use Rattle.std.proofs.Common.{◌≡◌, ℕ, [], ◌∷◌, length, map, Some, None, true, false, sym, ◌∙◌, ap, arith}
use Rattle.std.proofs.lemmas.List.{length_push, length-map}
use Rattle.std.proofs.lemmas.List.Elements.{All-push}
use Rattle.std.proofs.lemmas.Result.{err_from_is_err_and}
use Rattle.fixpoint.specs.declared.plane.Pair.{Pair}
use Rattle.variation_rules.specs.FontUnits.{AreFWords}
use Rattle.variation_rules.specs.InferredDelta.{still}
use Rattle.variation_rules.proofs.FillingLemmas.{each_pushed}
use Rattle.delta_solve.specs.Deltas.{next_delta}
use Rattle.delta_solve.specs.GlyphModels.{delta_x, delta_y, first_some, misfit, point_misfits, next_x, next_y}
use Rattle.delta_solve.specs.Outlines.{position}
use Rattle.delta_solve.proofs.GlyphLemmas.{fault_passed, fault_found, stop_of, x_here, y_here}
use Rattle.delta_solve.proofs.glyph.point_deltas.Goals as goal

pub returns-in_err-delta-clause-stops : goal.returns-in_err-delta-clause-stops
returns-in_err-delta-clause-stops c =
    let p = err_from_is_err_and c.from_residual.result c.from_residual.ensures.1 in
    let row = c.args.row.now in
    let earlier = c.args.earlier.now in
    let points = c.args.points.now in
    let positions = map position points in
    let k = c.loop-point.point in
    let left = c.point_left-left.result in
    let x_is : left.x ≡ next_x row earlier positions k = c.point_left-left.ensures.x ∙ ap (λ x. next_delta row x (map (delta_x k) earlier)) (sym (x_here points k c.loop-point-test.true)) in
    let y_is : left.y ≡ next_y row earlier positions k = c.point_left-left.ensures.y ∙ ap (λ y. next_delta row y (map (delta_y k) earlier)) (sym (y_here points k c.loop-point-test.true)) in
    let misfits = point_misfits c.args.master (next_x row earlier positions) (next_y row earlier positions) in
    let own : first_some (misfits k) ≡ Some c.in_err-delta.field-0.0 =
    sym (λ i. first_some (misfit c.args.master k false (x_is i) ∷ misfit c.args.master k true (y_is i) ∷ [])) ∙ c.in_err-delta.ensures.stops in
    rw (p.1, p.2) (fault_found misfits (length positions) k _ _ (omega (arith, length-map points position)) (stop_of (first_some (misfits k)) _ own) c.loop-point.invariant.fault)

-- one point more
pub loop-point-preserved : goal.loop-point-preserved
loop-point-preserved c =
    let row = c.args.row.now in
    let earlier = c.args.earlier.now in
    let points = c.args.points.now in
    let positions = map position points in
    let k = c.loop-point.point in
    let before = c.loop-point.deltas.items in
    let delta = c.in_ok-delta.delta in
    let left = c.point_left-left.result in
    let x_is : left.x ≡ next_x row earlier positions k = c.point_left-left.ensures.x ∙ ap (λ x. next_delta row x (map (delta_x k) earlier)) (sym (x_here points k c.loop-point-test.true)) in
    let y_is : left.y ≡ next_y row earlier positions k = c.point_left-left.ensures.y ∙ ap (λ y. next_delta row y (map (delta_y k) earlier)) (sym (y_here points k c.loop-point-test.true)) in
    let misfits = point_misfits c.args.master (next_x row earlier positions) (next_y row earlier positions) in
    let own : first_some (misfits k) ≡ None =
    sym (λ i. first_some (misfit c.args.master k false (x_is i) ∷ misfit c.args.master k true (y_is i) ∷ [])) ∙ c.in_ok-delta.ensures.fits in
    rw c.in_ok-push.ensures.items (record {
      count = omega (arith, length_push before delta);
      xs = each_pushed (λ (n : ℕ) (pair : Pair). pair.x ≡ next_x row earlier positions n) before delta still k c.loop-point.invariant.count c.loop-point.invariant.xs (c.in_ok-delta.ensures.x ∙ x_is);
      ys = each_pushed (λ (n : ℕ) (pair : Pair). pair.y ≡ next_y row earlier positions n) before delta still k c.loop-point.invariant.count c.loop-point.invariant.ys (c.in_ok-delta.ensures.y ∙ y_is);
      within = All-push AreFWords before delta c.loop-point.invariant.within c.in_ok-delta.ensures.within;
      fault = fault_passed misfits (length positions) k _ (omega (arith, length-map points position)) own c.loop-point.invariant.fault;
    })
