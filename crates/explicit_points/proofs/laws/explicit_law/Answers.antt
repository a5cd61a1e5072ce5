use Rattle.explicit_points.proofs.LawLemmas.{explicit_once, explicit_fills, explicit_phantoms}
use Rattle.explicit_points.proofs.laws.explicit_law.Goals as goal

pub returns-clause-once : goal.returns-clause-once
returns-clause-once c = explicit_once

pub returns-clause-fills : goal.returns-clause-fills
returns-clause-fills c = explicit_fills

pub returns-clause-phantoms : goal.returns-clause-phantoms
returns-clause-phantoms c = explicit_phantoms
