use Rattle.std.proofs.Common.{◌≡◌, take}
use Rattle.compat.specs.Flats.{joint_count}
use Rattle.compat.proofs.flat.joint_count.Given as goal

abbrev pub invariant-loop-base : goal.invariant-loop-base
invariant-loop-base l = l.count ≡ joint_count l.flats l.fn.own (take l.base-index l.bases)
