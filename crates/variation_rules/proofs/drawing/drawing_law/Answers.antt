use Rattle.variation_rules.proofs.FillsAreOne.{fills_are_one, drawn_is_one}
use Rattle.variation_rules.proofs.drawing.drawing_law.Goals as goal

pub returns : goal.returns
returns c = record { fills = fills_are_one; drawn = drawn_is_one }
