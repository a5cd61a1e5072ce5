use Rattle.std.proofs.Common.{◌≡◌, ◌-◌, ◌+◌, ◌∷◌, ◌++◌, List, ℕ, Vec, Global, ap, ◌∙◌, subst, sym}
use Rattle.font_project.specs.Numbers.{others_from}
use Rattle.font_project.proofs.Counting.{passed, taken}
use Rattle.font_project.proofs.numbers.default_first.Goals as goal
use Rattle.font_project.proofs.numbers.default_first.Goals.{then-number-default+in_ok-push-2, else-number-default}

pub loop-number-preserved : goal.loop-number-preserved
loop-number-preserved c =
    let whole : List ℕ = c.args.default ∷ others_from c.args.default c.args.count 0 in
    elim c.if-number-default.branch [
      | then-number-default+in_ok-push-2 w ↦ taken c.args.default c.args.count c.loop-number.number c.loop-number.numbers.items c.if-number-default.numbers.items whole c.loop-number-test.true w.if-number-default.true (ap (λ (v : Vec ℕ Global). v.items) w.numbers-is ∙ w.in_ok-push-2.ensures.items) c.loop-number.invariant
      | else-number-default w ↦ subst (λ (v : Vec ℕ Global). v.items ++ others_from c.args.default (c.args.count - (c.loop-number.number + 1)) (c.loop-number.number + 1) ≡ whole) (sym w.numbers-is) (passed c.args.default c.args.count c.loop-number.number c.loop-number.numbers.items whole c.loop-number-test.true w.if-number-default.false c.loop-number.invariant)
    ]
