use Rattle.filters.proofs.Images.{points_shifted, kinds_shifted}
use Rattle.filters.proofs.laws.shift_law.Goals as goal

pub returns-clause-points : goal.returns-clause-points
returns-clause-points c = points_shifted

pub returns-clause-kinds : goal.returns-clause-kinds
returns-clause-kinds c = kinds_shifted
