use Rattle.std.proofs.Common.{◌≡◌, pos, [], ◌∷◌, ◌++◌, get_or, to_z-of_z, FitsSigned, rules, arith}
use Rattle.std.proofs.lemmas.List.{length_push}
use Rattle.std.proofs.lemmas.List.Elements.{All-push}
use Rattle.std.proofs.lemmas.Result.{err_from_is_err_and}
use Rattle.std.specs.Int.{w32, w64}
use Rattle.variation_rules.specs.FontUnits.{IsFWord}
use Rattle.delta_solve.specs.Deltas.{next_delta}
use Rattle.delta_solve.proofs.NumberLemmas.{number_step, number_fits, number_stops}
use Rattle.delta_solve.proofs.number.number_deltas.Goals as goal

pub returns-in_err-delta-clause-stops : goal.returns-in_err-delta-clause-stops
returns-in_err-delta-clause-stops c =
    let p = err_from_is_err_and c.from_residual.result c.from_residual.ensures.1 in
    let k = c.loop-master.master in
    let rows = c.args.rows.now in
    let values = c.args.values.now in
    let left = c.number_left-left.result in
    let value_fits : FitsSigned w32 (get_or values k (pos 0)) = search rules in
    let left_fits : FitsSigned w64 left = search rules in
    let next : left ≡ next_delta c.index-rows-master.result (get_or values k (pos 0)) c.loop-master.deltas.items =
    rw (c.as_slice.ensures, c.deref.ensures.value) at (simp to_z-of_z at c.number_left-left.ensures) in
    let misfits = simp to_z-of_z at c.in_err-delta.ensures.stops in
    rw (p.1, p.2) (number_stops rows values c.loop-master.deltas.items k c.index-rows-master.result left _ _ (omega arith) c.loop-master-test.true c.index-rows-master.is next misfits c.loop-master.invariant.fault)

-- one delta more
pub loop-master-preserved : goal.loop-master-preserved
loop-master-preserved c =
    let k = c.loop-master.master in
    let rows = c.args.rows.now in
    let values = c.args.values.now in
    let earlier = c.loop-master.deltas.items in
    let left = c.number_left-left.result in
    let row = c.index-rows-master.result in
    let value_fits : FitsSigned w32 (get_or values k (pos 0)) = search rules in
    let left_fits : FitsSigned w64 left = search rules in
    let next : left ≡ next_delta row (get_or values k (pos 0)) earlier =
    rw (c.as_slice.ensures, c.deref.ensures.value) at (simp to_z-of_z at c.number_left-left.ensures) in
    let fits = simp to_z-of_z at c.in_ok-delta.ensures.fits in
    let delta_is = simp to_z-of_z at c.in_ok-delta.ensures.delta in
    let delta_fits : FitsSigned w32 c.in_ok-delta.delta = search rules in
    let items : c.push.new.self.items ≡ earlier ++ left ∷ [] = rw delta_is at (simp to_z-of_z at c.in_ok-push.ensures.items) in
    let word : IsFWord left = rw delta_is at c.in_ok-delta.ensures.within in
    rw items (record {
      count = omega (arith, length_push earlier left);
      within = All-push IsFWord earlier left c.loop-master.invariant.within word;
      rest = number_step rows values earlier k row left _ (omega arith) c.loop-master-test.true c.index-rows-master.is next c.loop-master.invariant.rest;
      fault = number_fits rows values earlier k row left _ (omega arith) c.loop-master-test.true c.index-rows-master.is next fits c.loop-master.invariant.fault;
    })
