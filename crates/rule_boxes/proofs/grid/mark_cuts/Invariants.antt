use Rattle.std.proofs.Common.{◌≡◌, length, drop}
use Rattle.rule_boxes.specs.Grid.{is_cut, least, steps}
use Rattle.rule_boxes.specs.Marks.{marked_by}
use Rattle.rule_boxes.proofs.grid.mark_cuts.Given as goal

-- the conditions that are left complete the marks
abbrev pub invariant-loop-condition : goal.invariant-loop-condition
invariant-loop-condition l = record {
  count : length l.marks ≡ steps;
  rest : marked_by (is_cut (drop l.condition-index l.conditions) l.axis) least l.marks ≡ marked_by (is_cut l.conditions l.axis) least l.initial.marks;
}
