use Rattle.glif.proofs.ReadLimits.{drawing_within}
use Rattle.glif.proofs.laws.limits_law.Goals as goal

pub returns-clause-limits : goal.returns-clause-limits
returns-clause-limits c = λ tree drawing read. (drawing_within tree drawing read).outline

pub returns-clause-offsets : goal.returns-clause-offsets
returns-clause-offsets c = λ tree drawing read. (drawing_within tree drawing read).offsets
