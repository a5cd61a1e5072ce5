use Rattle.std.proofs.Common.{◌≡◌, ◌+◌, ◌++◌, length, drop}
use Rattle.std.specs.Prelude.{All}
use Rattle.std.specs.Vec.Iter.{into_iter_items}
use Rattle.compat.specs.Flats.{joined_outlines, IsFew}
use Rattle.compat.proofs.outlines.outlines_of.Given as goal

abbrev pub invariant-loop-drawing : goal.invariant-loop-drawing
invariant-loop-drawing l =
    (l.outlines.items ++ joined_outlines (drop l.drawing-index l.drawings) (into_iter_items l.rest) ≡ joined_outlines l.drawings l.fn.flats.items)
    × (length (into_iter_items l.rest) + l.drawing-index ≡ length l.drawings)
    × All IsFew (into_iter_items l.rest)
