use Rattle.plist.proofs.Once.{first_counts}
use Rattle.plist.proofs.laws.first_key_law.Goals as goal

pub returns : goal.returns
returns c = first_counts
