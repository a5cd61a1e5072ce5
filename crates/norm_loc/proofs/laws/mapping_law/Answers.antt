use Rattle.norm_loc.proofs.SegmentLemmas.{avar_pairs_segments}
use Rattle.norm_loc.proofs.SegmentMapping.{avar_at_mapped}
use Rattle.norm_loc.proofs.laws.mapping_law.Goals as goal

pub returns : goal.returns
returns c = λ m rise fall v at. avar_at_mapped m (avar_pairs_segments m rise fall) v at
