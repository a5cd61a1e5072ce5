use Rattle.markup_rules.proofs.SoundTexts.{tree_takes}
use Rattle.markup_rules.proofs.CompleteTexts.{tree_again}
use Rattle.markup_rules.proofs.tree_law.Goals as goal

pub returns : goal.returns
returns c = λ text tree. (tree_takes text tree, tree_again text tree)
