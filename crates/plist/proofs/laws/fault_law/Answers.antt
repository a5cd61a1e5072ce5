use Rattle.plist.proofs.FaultGives.{fault_gives}
use Rattle.plist.proofs.FaultTakes.{list_fails}
use Rattle.plist.proofs.laws.fault_law.Goals as goal

pub returns : goal.returns
returns c = λ tree spot. (list_fails tree spot, fault_gives tree spot)
