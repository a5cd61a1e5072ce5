use Rattle.std.proofs.Common.{◌≡◌, ℤ, List, ◌+◌, ◌-◌, ◌++◌, ◌∙◌, ap, length, arith, length-append}
use Rattle.std.proofs.lemmas.Result.{err_from_is_err_and}
use Rattle.variation_decoder.specs.Deltas.{delta_run_at, deltas_at}
use Rattle.variation_decoder.proofs.Loops.{runs_go_on, runs_end, runs_are_done}
use Rattle.variation_decoder.proofs.Runs.{delta_runs_hold}
use Rattle.variation_decoder.proofs.packed.deltas_at.Goals as goal

pub returns-in_err-run : goal.returns-in_err-run
returns-in_err-run c =
    let read = c.loop-alloc.values.items in
    let n : c.len-in-loop-alloc.result ≡ length read = omega (arith, c.loop-alloc.values.ok.0) in
    let p = err_from_is_err_and c.from_residual.result c.from_residual.ensures.1 in
    rw (p.1, p.2) (runs_end delta_run_at delta_runs_hold c.in_err-run.field-0.0 read c.args.wanted c.loop-alloc.rest.now (deltas_at c.args.wanted c.args.bytes.now) (omega (arith, c.loop-alloc.values.ok.0)) (rw n at c.in_err-run.ensures) c.loop-alloc.invariant)

pub loop-alloc-smaller : goal.loop-alloc-smaller
loop-alloc-smaller c =
    let some = delta_runs_hold (c.args.wanted - c.len-in-loop-alloc.result) c.loop-alloc.rest.now (c.in_ok-run.run', c.in_ok-run.after.now) c.in_ok-run.ensures in
    let longer : length c.extend_from_slice.new.self.items ≡ length c.loop-alloc.values.items + length c.in_ok-run.run' =
    ap length c.in_ok-extend_from_slice.ensures.items ∙ length-append c.loop-alloc.values.items c.as_slice.result.now ∙ ap (λ (xs : List ℤ). length c.loop-alloc.values.items + length xs) c.as_slice.ensures in
    omega (arith, c.loop-alloc.values.ok.0)

pub loop-alloc-preserved : goal.loop-alloc-preserved
loop-alloc-preserved c =
    let read = c.loop-alloc.values.items in
    let n : c.len-in-loop-alloc.result ≡ length read = omega (arith, c.loop-alloc.values.ok.0) in
    let longer : c.extend_from_slice.new.self.items ≡ read ++ c.in_ok-run.run' = c.in_ok-extend_from_slice.ensures.items ∙ ap (λ (xs : List ℤ). read ++ xs) c.as_slice.ensures in
    rw longer (runs_go_on delta_run_at delta_runs_hold read c.args.wanted c.loop-alloc.rest.now c.in_ok-run.run' c.in_ok-run.after.now (deltas_at c.args.wanted c.args.bytes.now) (omega (arith, c.loop-alloc.values.ok.0)) (rw n at c.in_ok-run.ensures) c.loop-alloc.invariant)

pub returns : goal.returns
returns c =
    rw c.from_vec.ensures (runs_are_done delta_run_at delta_runs_hold c.loop-alloc.values.items c.args.wanted c.loop-alloc.rest.now (deltas_at c.args.wanted c.args.bytes.now) (omega (arith, c.loop-alloc.values.ok.0)) c.loop-alloc.invariant)
