use Rattle.std.proofs.Common.{Err, sym, subst}
use Rattle.rule_boxes.specs.Answers.{HaveAxes, IsAnswer}
use Rattle.rule_boxes.specs.declared.cell.RuleStop.{RuleStop}
use Rattle.font_rules.proofs.Grids.{have_axes, product_small}
use Rattle.font_rules.proofs.boxes.boxes_of.Goals as goal

pub cells-requires-clause-conditions : goal.cells-requires-clause-conditions
cells-requires-clause-conditions c =
    subst (HaveAxes c.args.axes) (sym c.in_ok-sets.ensures) (have_axes c.args.axes c.args.rules.now c.requires.rules)

pub grid_fault-requires : goal.grid_fault-requires
grid_fault-requires c = record {
  small = product_small c.args.axes c.in_ok-sets.sets c.in-Err-TooManyCells.product
      (subst (λ (stop : RuleStop). IsAnswer c.args.axes c.in_ok-sets.sets (Err stop)) c.in-Err-TooManyCells.field-0-is c.in-Err-TooManyCells.ensures);
}
