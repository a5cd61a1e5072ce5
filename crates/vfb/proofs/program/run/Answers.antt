use Rattle.vfb.specs.BuiltFont.{HasAdvances, HasDesign, HasLeastSets, MapsCharacters, ReturnsAllMasters, SubstitutesAsRules, TellsFields}
use Rattle.vfb.proofs.LeavingLemmas.{draws-at_ok, has-at_ok}
use Rattle.vfb.proofs.SayingLemmas.{IsSaid-with_line, IsCut-with_line, complete-with_line}
use Rattle.vfb.proofs.program.run.Goals as goal

pub returns-clause-said : goal.returns-clause-said
returns-clause-said g c = IsSaid-with_line c.perform_words-ending.ensures c.say_ending.ensures c.into_status.ensures

pub returns-clause-cut : goal.returns-clause-cut
returns-clause-cut g c = IsCut-with_line c.perform_words-ending.ensures c.say_ending.ensures c.into_status.ensures

pub returns-clause-complete : goal.returns-clause-complete
returns-clause-complete g c = complete-with_line c.perform_words-ending.ensures c.say_ending.ensures c.into_status.ensures

pub returns-clause-draws : goal.returns-clause-draws
returns-clause-draws g c = draws-at_ok c.perform_words-ending.ensures c.into_status.ensures

pub returns-clause-masters : goal.returns-clause-masters
returns-clause-masters g c = has-at_ok c.perform_words-ending.ensures c.into_status.ensures ReturnsAllMasters (λ found file has. has.masters)

pub returns-clause-advances : goal.returns-clause-advances
returns-clause-advances g c = has-at_ok c.perform_words-ending.ensures c.into_status.ensures HasAdvances (λ found file has. has.advances)

pub returns-clause-characters : goal.returns-clause-characters
returns-clause-characters g c = has-at_ok c.perform_words-ending.ensures c.into_status.ensures MapsCharacters (λ found file has. has.characters)

pub returns-clause-axes : goal.returns-clause-axes
returns-clause-axes g c = has-at_ok c.perform_words-ending.ensures c.into_status.ensures HasDesign (λ found file has. has.axes)

pub returns-clause-substitution : goal.returns-clause-substitution
returns-clause-substitution g c = has-at_ok c.perform_words-ending.ensures c.into_status.ensures SubstitutesAsRules (λ found file has. has.substitutes)

pub returns-clause-least : goal.returns-clause-least
returns-clause-least g c = has-at_ok c.perform_words-ending.ensures c.into_status.ensures HasLeastSets (λ found file has. has.least)

pub returns-clause-fields : goal.returns-clause-fields
returns-clause-fields g c = has-at_ok c.perform_words-ending.ensures c.into_status.ensures TellsFields (λ found file has. has.fields)
