use Rattle.std.proofs.Common.{◌≡◌, ℕ, ◌-◌, ◌<◌, flat_map, None, length, ap, arith}
use Rattle.std.proofs.lemmas.List.Elements.{All-push}
use Rattle.std.proofs.lemmas.Result.{err_from_is_err_and}
use Rattle.variation_rules.specs.PackedPoints.{count_from}
use Rattle.delta_solve.specs.GlyphModels.{IsNextTuple, IsStopOf, IsTupleWithin, default_of, first_some, misfits_of, next_misfits}
use Rattle.glif.specs.Shapes.{contour_kinds}
use Rattle.delta_solve.proofs.Columns.{none_so_far, one_more, all_so_far, misfits_here}
use Rattle.delta_solve.proofs.GlyphLemmas.{fault_found, fault_passed}
use Rattle.delta_solve.proofs.glyph.tuples_of.Goals as goal

pub loop-master-init : goal.loop-master-init
loop-master-init c =
    let all : length c.args.outlines.now - 0 ≡ length c.args.outlines.now = omega arith in
    rw c.new-tuples.ensures.items (record {
      so_far = none_so_far c.args.rows.now c.args.outlines.now;
      within = λ k d below. absurd (omega arith);
      fault = ap (λ (n : ℕ). first_some (flat_map (misfits_of c.args.rows.now c.args.outlines.now) (count_from n 0))) all;
    })

pub returns-in_err-tuple-clause-stops : goal.returns-in_err-tuple-clause-stops
returns-in_err-tuple-clause-stops c =
    let p = err_from_is_err_and c.from_residual.result c.from_residual.ensures.1 in
    let rows = c.args.rows.now in
    let outlines = c.args.outlines.now in
    let k = c.loop-master.master in
    let tuples = c.loop-master.tuples.items in
    let row = c.index-rows-master.result in
    let outline = c.index-outlines-master.result in
    let inside : k < length rows = omega (arith, c.requires.one_each) in
    let alike : contour_kinds outline ≡ contour_kinds (default_of outlines) = rw (← c.index-outlines-master.is) at (c.requires.alike k outline c.loop-master-test.true) in
    let misfits = misfits_here rows outlines k tuples row outline inside c.loop-master-test.true c.index-rows-master.is c.index-outlines-master.is alike c.loop-master.invariant.so_far in
    let stops : IsStopOf (first_some (next_misfits k row tuples outline)) c.in_err-tuple.field-0.0 = rw (c.as_slice-row.ensures, c.deref.ensures.value) at c.in_err-tuple.ensures.stops in
    rw (p.1, p.2) (fault_found (misfits_of rows outlines) (length outlines) k _ _ c.loop-master-test.true (rw misfits stops) c.loop-master.invariant.fault)

-- one tuple more
pub loop-master-preserved : goal.loop-master-preserved
loop-master-preserved c =
    let rows = c.args.rows.now in
    let outlines = c.args.outlines.now in
    let k = c.loop-master.master in
    let tuples = c.loop-master.tuples.items in
    let tuple = c.in_ok-tuple.tuple in
    let row = c.index-rows-master.result in
    let outline = c.index-outlines-master.result in
    let inside : k < length rows = omega (arith, c.requires.one_each) in
    let alike : contour_kinds outline ≡ contour_kinds (default_of outlines) = rw (← c.index-outlines-master.is) at (c.requires.alike k outline c.loop-master-test.true) in
    let misfits = misfits_here rows outlines k tuples row outline inside c.loop-master-test.true c.index-rows-master.is c.index-outlines-master.is alike c.loop-master.invariant.so_far in
    let next : IsNextTuple row tuples outline tuple = rw (c.as_slice-row.ensures, c.deref.ensures.value) at c.in_ok-tuple.ensures.tuple in
    let fits : first_some (next_misfits k row tuples outline) ≡ None = rw (c.as_slice-row.ensures, c.deref.ensures.value) at c.in_ok-tuple.ensures.fits in
    rw c.in_ok-push.ensures.items (record {
      so_far = one_more rows outlines k tuples tuple row outline inside c.loop-master-test.true c.index-rows-master.is c.index-outlines-master.is alike next c.loop-master.invariant.so_far;
      within = All-push IsTupleWithin tuples tuple c.loop-master.invariant.within c.in_ok-tuple.ensures.within;
      fault = fault_passed (misfits_of rows outlines) (length outlines) k _ c.loop-master-test.true (rw misfits fits) c.loop-master.invariant.fault;
    })

pub returns-clause-tuples : goal.returns-clause-tuples
returns-clause-tuples c =
    let ended : c.loop-master.master ≡ length c.args.outlines.now = omega (arith, c.loop-master.auto.master-end) in
    rw c.from_vec.ensures (all_so_far c.args.rows.now c.args.outlines.now c.loop-master.master c.loop-master.tuples.items (omega (arith, c.requires.one_each)) ended c.loop-master.invariant.so_far)
