use Rattle.font_project.proofs.OneAnswer as answers
use Rattle.font_project.proofs.laws.one_answer.Goals as goal

pub returns : goal.returns
returns c = answers.one_answer (record { flattened = c.flattened_law.ensures; refused = c.refusal_law.ensures.one; none = c.refusal_law.ensures.none })
