use Rattle.std.proofs.Common.{◌≡◌, ◌++◌, take}
use Rattle.std.specs.List.{flat_map}
use Rattle.glyf_loca.specs.Layout.{flag_bytes}
use Rattle.glyf_loca.proofs.simple.put_flags.Given as goal

-- the flags so far are appended
abbrev pub invariant-loop-point : goal.invariant-loop-point
invariant-loop-point l = l.out.items ≡ l.initial.out.items ++ flat_map flag_bytes (take l.point-index l.points)
