use Rattle.std.proofs.Common.{◌≡◌, map, take}
use Rattle.region_support.specs.Coordinates.{coordinates_of}
use Rattle.commands.specs.declared.located.Located.{Located}
use Rattle.vfb.proofs.masters.locations_of.Given as goal

abbrev pub invariant-loop-one : goal.invariant-loop-one
invariant-loop-one l = coordinates_of l.listed.items ≡ map (λ (one : Located). one.at.items) (take l.one-index l.located)
