use Rattle.font_rules.proofs.Renaming.{all_numbered}
use Rattle.font_rules.proofs.substitutions.substitutions_of.Goals as goal

pub returns-clause-numbered : goal.returns-clause-numbered
returns-clause-numbered c = all_numbered c.args.path.now c.args.names.now.entries c.args.rules.now c.in_ok-subs.subs c.in_ok-subs.ensures.answers
