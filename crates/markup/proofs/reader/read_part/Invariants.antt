use Rattle.std.proofs.Common.{◌≡◌, ◌≤◌, length}
use Rattle.markup_rules.specs.Outcome.{State, outcome}
use Rattle.markup_rules.proofs.Steps.{rest_from}
use Rattle.markup.specs.Parts.{IsAt}
use Rattle.markup.specs.Places.{context_at}
use Rattle.markup.proofs.reader.read_part.Given as goal

abbrev pub invariant-loop-rest : goal.invariant-loop-rest
invariant-loop-rest g l = (length l.rest ≤ l.total) × ((s : State) × (rest_from l.total s l.rest ≡ outcome l.text) × IsAt g.P.Part.Keeps (context_at l.place) l.part s)

abbrev pub decreases-loop-rest : goal.decreases-loop-rest
decreases-loop-rest g l = length l.rest
