use Rattle.std.proofs.Common.{◌≡◌, take}
use Rattle.std.specs.List.{flat_map}
use Rattle.glyf_loca.specs.Layout.{offset_bytes}
use Rattle.glyf_loca.proofs.offsets.loca.Given as goal

-- the offsets so far are written
abbrev pub invariant-loop-offset : goal.invariant-loop-offset
invariant-loop-offset l = l.bytes.items ≡ flat_map (offset_bytes l.long) (take l.offset-index l.offsets)
