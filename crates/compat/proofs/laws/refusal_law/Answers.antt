use Rattle.compat.proofs.Unique.{refused_once, none_refused}
use Rattle.compat.proofs.laws.refusal_law.Goals as goal

pub returns-clause-one : goal.returns-clause-one
returns-clause-one c = refused_once

pub returns-clause-none : goal.returns-clause-none
returns-clause-none c = none_refused
