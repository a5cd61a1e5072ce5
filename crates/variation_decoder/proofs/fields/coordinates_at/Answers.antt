use Rattle.std.proofs.Common.{◌≡◌, ℤ, ◌++◌, ◌∷◌, [], ap, ◌∙◌, rules, FitsSigned, w32}
use Rattle.std.proofs.lemmas.Int.{to_z-of_z}
use Rattle.std.proofs.lemmas.Result.{err_from_is_err_and}
use Rattle.variation_decoder.specs.Reading.{many, signed_word_at}
use Rattle.variation_decoder.proofs.Loops.{many_goes_on, many_ends, many_is_done}
use Rattle.variation_decoder.proofs.fields.coordinates_at.Goals as goal

pub returns-in_err-raw : goal.returns-in_err-raw
returns-in_err-raw c =
    let p = err_from_is_err_and c.from_residual.result c.from_residual.ensures.1 in
    rw (p.1, p.2) (many_ends signed_word_at c.in_err-raw.field-0.0 c.loop.coordinates c.args.axes c.loop.counter c.loop.rest.now (many signed_word_at c.args.axes c.args.bytes.now) c.loop-test.true c.in_err-raw.ensures c.loop.invariant)

pub loop-preserved : goal.loop-preserved
loop-preserved c =
    let fits : FitsSigned w32 c.in_ok-raw.raw = search rules in
    let pushed : c.push.new.self ≡ c.loop.coordinates ++ c.in_ok-raw.raw ∷ [] =
    c.in_ok-push.ensures.ok ∙ ap (λ (z : ℤ). c.loop.coordinates ++ z ∷ []) (c.from_raw.ensures ∙ to_z-of_z w32 c.in_ok-raw.raw fits) in
    rw pushed (many_goes_on signed_word_at c.loop.coordinates c.args.axes c.loop.counter c.loop.rest.now c.in_ok-raw.raw c.in_ok-raw.after.now (many signed_word_at c.args.axes c.args.bytes.now) c.loop-test.true c.in_ok-raw.ensures c.loop.invariant)

pub returns : goal.returns
returns c = many_is_done signed_word_at c.loop.coordinates c.args.axes c.loop.counter c.loop.rest.now (many signed_word_at c.args.axes c.args.bytes.now) c.loop-test.false c.loop.invariant
