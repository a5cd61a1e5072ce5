use Rattle.std.proofs.Common.{◌≡◌, ◌≤◌, ◌+◌, ◌-◌, ◌*◌, ℕ, suc, List, false, sym, ◌∙◌, ap, arith}
use Rattle.std.specs.Prelude.{nat_lt}
use Rattle.std.proofs.lemmas.Bool.{le-ltb}
use Rattle.rule_boxes.specs.declared.condition.Condition.{Condition}
use Rattle.rule_boxes.specs.Grid.{intervals_on, first_above}
use Rattle.rule_boxes.proofs.grid.first_above.Goals as goal

-- past an axis at which the product isn't too great
next : (conditions : List Condition) (product axis left count more : ℕ) → count ≡ intervals_on conditions axis → more ≡ product * count → more ≤ 32768
    → first_above conditions product axis (suc left) ≡ first_above conditions more (axis + 1) left
next conditions product axis left count more is times few =
    let whole : product * intervals_on conditions axis ≡ more = ap (λ (n : ℕ). product * n) (sym is) ∙ sym times in
    let within : nat_lt 32768 (product * intervals_on conditions axis) ≡ false = ap (nat_lt 32768) whole ∙ le-ltb 32768 more few in
    rw within (ap (λ (n : ℕ). first_above conditions n (axis + 1) left) whole)

pub loop-axis-preserved : goal.loop-axis-preserved
loop-axis-preserved c =
    let conditions = c.args.conditions.now in
    let product = c.loop-axis.product in
    let axis = c.loop-axis.axis in
    let axes = c.args.axes in
    let left : axes - axis ≡ suc (axes - (axis + 1)) = omega arith in
    let few : c.times-product.result ≤ 32768 = omega arith in
    record {
      few = few;
      rest = sym (next conditions product axis (axes - (axis + 1)) c.in_ok-intervals_on.field-0 c.times-product.result c.in_ok-intervals_on.ensures.value c.times-product.ensures few)
          ∙ (ap (first_above conditions product axis) (sym left) ∙ c.loop-axis.invariant.rest);
    }
