use Rattle.std.proofs.Common.{◌≡◌, ◌*◌, length}
use Rattle.explicit_points.specs.ExplicitPoints.{IsOutline}
use Rattle.explicit_points.proofs.tests.squares.Given as goal

abbrev pub invariant-loop-moves : goal.invariant-loop-moves
invariant-loop-moves l = record {
  outline : IsOutline l.lengths.items l.points.items l.deltas.items;
  count : length l.points.items ≡ 4 * l.moves-index;
}
