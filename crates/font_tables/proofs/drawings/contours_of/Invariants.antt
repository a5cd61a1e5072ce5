use Rattle.std.proofs.Common.{◌≡◌, ◌≤◌, ◌++◌, length, sum, drop}
use Rattle.font_model.specs.DefaultOutline.{contours_of}
use Rattle.font_tables.proofs.drawings.contours_of.Given as goal

-- the lengths that are left cut the rest
abbrev pub invariant-loop-length : goal.invariant-loop-length
invariant-loop-length l = record {
  so_far : l.contours ++ contours_of (drop l.length-index l.lengths) l.rest ≡ contours_of l.lengths l.points;
  enough : sum (drop l.length-index l.lengths) ≤ length l.rest;
}
