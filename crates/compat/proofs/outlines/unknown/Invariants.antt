use Rattle.std.proofs.Common.{◌≡◌, length}
use Rattle.compat.proofs.outlines.unknown.Given as goal

abbrev pub invariant-loop-drawing : goal.invariant-loop-drawing
invariant-loop-drawing l = length l.flats.items ≡ l._drawing-index
