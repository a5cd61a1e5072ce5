-- The laws are the lemmas.
use Rattle.packed.proofs.OneSpelling.{one_of_deltas, one_of_points}
use Rattle.packed.proofs.laws.spelling_law.Goals as goal

pub returns : goal.returns
returns c = record { deltas = one_of_deltas; points = one_of_points }
