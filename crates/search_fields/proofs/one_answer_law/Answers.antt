use Rattle.search_fields.proofs.SearchLemmas.{one_answer}
use Rattle.search_fields.proofs.one_answer_law.Goals as goal

pub returns : goal.returns
returns c = one_answer
