use Rattle.std.proofs.Common.{◌≡◌, ◌++◌, take}
use Rattle.packed.proofs.points.push_bytes.Given as goal

abbrev pub invariant-loop-difference : goal.invariant-loop-difference
invariant-loop-difference l = l.bytes.items ≡ l.initial.bytes.items ++ take l.difference-index l.differences
