-- The reading of the bytes computes.
use Rattle.std.proofs.Common.{refl}
use Rattle.glyf_loca.specs.Bounds.{bounds_of}
use Rattle.glyf_loca.proofs.tests.short_record.Goals as goal

pub returns : goal.returns
unfolding bounds_of
returns c = refl
