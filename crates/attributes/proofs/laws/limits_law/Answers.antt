use Rattle.attributes.proofs.Within.{whole_read, optional_whole_read}
use Rattle.attributes.proofs.laws.limits_law.Goals as goal

pub returns-clause-needed : goal.returns-clause-needed
returns-clause-needed c = whole_read

pub returns-clause-optional : goal.returns-clause-optional
returns-clause-optional c = optional_whole_read
