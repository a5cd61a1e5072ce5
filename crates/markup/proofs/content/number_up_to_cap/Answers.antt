use Rattle.std.proofs.Common.{ℕ, ◌+◌, min, drop, ap, ◌∙◌, arith}
use Rattle.std.specs.Str.Parse.{digits_value_after}
use Rattle.markup_rules.proofs.Numbers.{number_next}
use Rattle.markup.proofs.content.number_up_to_cap.Goals as goal

pub loop-digit-preserved : goal.loop-digit-preserved
loop-digit-preserved c =
    let digits = c.args.digits.now in
    let i = c.loop-digit.digit-index in
    let with_next = λ (n : ℕ). min (digits_value_after c.args.radix n (drop (i + 1) digits)) 0x11_0000 in
    (omega arith, ap with_next c.with_digit-number.ensures ∙ (number_next c.args.radix c.loop-digit.number 0x11_0000 digits i c.requires.some c.loop-digit-test.true ∙ c.loop-digit.invariant.1))
