use Rattle.norm_loc.proofs.SegmentLemmas as law
use Rattle.norm_loc.proofs.laws.segments_law.Goals as goal

pub returns : goal.returns
returns c = law.avar_pairs_segments
