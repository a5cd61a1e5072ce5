-- What `cells` answers.
use Rattle.std.specs.Prelude.{◌≡◌, ℕ, ◌<◌, List, Some, None, Result, Ok, Err, All}
use Rattle.rule_boxes.specs.declared.condition.Condition.{Condition}
use Rattle.rule_boxes.specs.declared.cell.Cell.{Cell}
use Rattle.rule_boxes.specs.declared.cell.RuleStop.{RuleStop}
use Rattle.rule_boxes.specs.declared.cell.RuleStop.TheVariants.{TooManyCells, NoMemory}
use Rattle.rule_boxes.specs.Cells.{AreCells}
use Rattle.rule_boxes.specs.Grid.{grid_above}

-- each condition is on one of so many axes
abbrev pub HaveAxes : ℕ → List (List (List Condition)) → Type 0
HaveAxes axes rules = All (λ sets. All (λ set. All (λ condition. condition.axis < axes) set) sets) rules

-- the boxes exactly where the grid is small enough, and else the product that is too great; want of memory says nothing
abbrev pub IsAnswer : ℕ → List (List (List Condition)) → Result (List Cell) RuleStop → Type 0
IsAnswer axes rules (Ok cells) = (grid_above axes rules ≡ None) × AreCells axes rules cells
IsAnswer axes rules (Err (TooManyCells product)) = grid_above axes rules ≡ Some product
IsAnswer axes rules (Err NoMemory) = Unit {0}
