use Rattle.std.proofs.Common.{arith}
use Rattle.std.proofs.lemmas.Int.{ints}
use Rattle.rule_boxes.proofs.laws.never_law.Goals as goal

pub returns : goal.returns
returns c = λ condition at above. grind (arith, ints)
