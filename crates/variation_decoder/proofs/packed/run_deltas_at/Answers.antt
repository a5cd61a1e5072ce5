use Rattle.std.proofs.Common.{◌≡◌, ℤ, ◌++◌, ◌∷◌, [], ap, ◌∙◌, rules, FitsSigned, w32}
use Rattle.std.proofs.lemmas.Int.{to_z-of_z}
use Rattle.std.proofs.lemmas.Result.{err_from_is_err_and}
use Rattle.variation_decoder.specs.Reading.{many}
use Rattle.variation_decoder.specs.Deltas.{delta_at}
use Rattle.variation_decoder.proofs.Loops.{many_goes_on, many_ends, many_is_done}
use Rattle.variation_decoder.proofs.packed.run_deltas_at.Goals as goal

pub returns-in_err-value : goal.returns-in_err-value
returns-in_err-value c =
    let p = err_from_is_err_and c.from_residual.result c.from_residual.ensures.1 in
    rw (p.1, p.2) (many_ends (delta_at c.args.class) c.in_err-value.field-0.0 c.loop.values c.args.count c.loop.counter c.loop.rest.now (many (delta_at c.args.class) c.args.count c.args.bytes.now) c.loop-test.true c.in_err-value.ensures c.loop.invariant)

pub loop-preserved : goal.loop-preserved
loop-preserved c =
    let fits : FitsSigned w32 c.in_ok-value.value = search rules in
    let pushed : c.push.new.self ≡ c.loop.values ++ c.in_ok-value.value ∷ [] =
    c.in_ok-push.ensures.ok ∙ ap (λ (z : ℤ). c.loop.values ++ z ∷ []) (to_z-of_z w32 c.in_ok-value.value fits) in
    rw pushed (many_goes_on (delta_at c.args.class) c.loop.values c.args.count c.loop.counter c.loop.rest.now c.in_ok-value.value c.in_ok-value.after.now (many (delta_at c.args.class) c.args.count c.args.bytes.now) c.loop-test.true c.in_ok-value.ensures c.loop.invariant)

pub returns : goal.returns
returns c = many_is_done (delta_at c.args.class) c.loop.values c.args.count c.loop.counter c.loop.rest.now (many (delta_at c.args.class) c.args.count c.args.bytes.now) c.loop-test.false c.loop.invariant
