use Rattle.std.proofs.Common.{◌≡◌, ◌++◌, drop}
use Rattle.compat.specs.Flats.{drawn_contours, AreMovable}
use Rattle.compat.proofs.flat.joined.Given as goal

abbrev pub invariant-loop-number : goal.invariant-loop-number
invariant-loop-number l =
    (l.contours.items ++ drawn_contours l.flats (drop l.number l.drawing.components) (drop l.number l.bases) ≡ l.drawing.outline.contours ++ drawn_contours l.flats l.drawing.components l.bases)
    × AreMovable l.flats (drop l.number l.drawing.components) (drop l.number l.bases)
