use Rattle.std.proofs.Common.{◌≡◌, All, length, take}
use Rattle.region_support.specs.Coordinates.{regions_in}
use Rattle.delta_solve.specs.Deltas.{scalars_at}
use Rattle.delta_solve.specs.Tables.{IsScalar}
use Rattle.delta_solve.proofs.scalars.scalars_at.Given as goal

-- the regions so far have their scalars
abbrev pub invariant-loop-support : goal.invariant-loop-support
invariant-loop-support l = record {
  so_far : l.scalars.items ≡ scalars_at (regions_in (take l.support-index l.supports)) l.at.items;
  count : length l.scalars.items ≡ l.support-index;
  within : All IsScalar l.scalars.items;
}
