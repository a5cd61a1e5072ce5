use Rattle.plist.proofs.Gives.{list_gives}
use Rattle.plist.proofs.Takes.{list_takes}
use Rattle.plist.proofs.laws.property_list_law.Goals as goal

pub returns : goal.returns
returns c = λ tree value. (list_takes tree value, list_gives tree value)
