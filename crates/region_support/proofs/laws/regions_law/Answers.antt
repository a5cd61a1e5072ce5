use Rattle.region_support.proofs.RegionLaw as law
use Rattle.region_support.proofs.laws.regions_law.Goals as goal

pub returns : goal.returns
returns c = law.regions_law
