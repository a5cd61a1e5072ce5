use Rattle.std.proofs.Common.{ℕ, ◌+◌, ◌^◌, min, drop, ap, ◌∙◌, arith}
use Rattle.fixpoint.specs.DecimalText.{number_after}
use Rattle.fixpoint.proofs.Numbers.{number_next}
use Rattle.fixpoint.proofs.decimal.number_up_to_cap.Goals as goal

pub loop-digit-preserved : goal.loop-digit-preserved
loop-digit-preserved c =
    let digits = c.args.digits.now in
    let i = c.loop-digit.digit-index in
    let with_next = λ (n : ℕ). min (number_after n (drop (i + 1) digits)) (2 ^ 40) in
    (omega arith, ap with_next c.with_digit-number.ensures ∙ (number_next c.loop-digit.number (2 ^ 40) digits i c.loop-digit-test.true ∙ c.loop-digit.invariant.1))
