use Rattle.std.proofs.Common.{◌≡◌, ℕ, take, ap, ◌∙◌, arith}
use Rattle.fixpoint.specs.DecimalText.{filled, number_after}
use Rattle.fixpoint.proofs.Numbers.{decimals_next, number_small, power_small}
use Rattle.fixpoint.proofs.decimal.first_decimals.Goals as goal

pub overflow_mul-number : goal.overflow_mul-number
overflow_mul-number c = omega (arith, c.loop-index.invariant.0, power_small c.loop-index.index)

pub overflow_add-number : goal.overflow_add-number
overflow_add-number c = omega (arith, c.loop-index.invariant.0, power_small c.loop-index.index)

pub loop-index-preserved : goal.loop-index-preserved
loop-index-preserved c =
    (omega (arith, number_small c.loop-index.number c.loop-index.index c.from.result c.loop-index.invariant.0 (omega arith)), omega (arith, decimals_next c.args.decimals.now c.loop-index.index c.loop-index-test.true))

pub returns : goal.returns
returns c =
    let last : c.loop-index.index ≡ 18 = omega arith in
    record {
      value = c.loop-index.invariant.1 ∙ ap (λ (n : ℕ). number_after 0 (take n (filled c.args.decimals.now))) last;
      size = omega (arith, c.loop-index.invariant.0, power_small c.loop-index.index);
    }
