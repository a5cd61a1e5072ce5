use Rattle.std.proofs.Common.{◌≡◌, ◌≤◌, drop}
use Rattle.basics.specs.Reading.{in_turn}
use Rattle.font_project.specs.Sizes.{with_outline}
use Rattle.font_project.proofs.sizes.with_outlines.Given as goal

abbrev pub invariant-loop-outline : goal.invariant-loop-outline
invariant-loop-outline l = record {
  sum : in_turn with_outline l.fn.sum l.outlines ≡ in_turn with_outline l.sum (drop l.outline-index l.outlines);
  few : l.sum ≤ 16777216;
}
