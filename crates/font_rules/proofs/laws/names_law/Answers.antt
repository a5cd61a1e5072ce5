use Rattle.font_rules.proofs.NamesLaw.{substitutes_by_name}
use Rattle.font_rules.proofs.laws.names_law.Goals as goal

pub returns : goal.returns
returns c = substitutes_by_name
