use Rattle.filters.proofs.Images.{points_reversed, kinds_reversed, reversed-reversed}
use Rattle.filters.proofs.laws.reverse_law.Goals as goal

pub returns-clause-points : goal.returns-clause-points
returns-clause-points c = points_reversed

pub returns-clause-kinds : goal.returns-clause-kinds
returns-clause-kinds c = kinds_reversed

pub returns-clause-twice : goal.returns-clause-twice
returns-clause-twice c = reversed-reversed
