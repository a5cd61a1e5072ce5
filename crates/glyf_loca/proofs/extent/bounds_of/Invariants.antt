use Rattle.std.proofs.Common.{◌≡◌, fold, take}
use Rattle.std.specs.Int.{int_max, int_min}
use Rattle.glyf_loca.specs.Bounds.{xs_of, ys_of}
use Rattle.glyf_loca.proofs.extent.bounds_of.Given as goal

-- the bounds of the points so far
abbrev pub invariant-loop-point : goal.invariant-loop-point
invariant-loop-point l = record {
  x_min : l.bounds.x_min ≡ fold int_min l.initial.bounds.x_min (xs_of (take l.point-index l.rest));
  y_min : l.bounds.y_min ≡ fold int_min l.initial.bounds.y_min (ys_of (take l.point-index l.rest));
  x_max : l.bounds.x_max ≡ fold int_max l.initial.bounds.x_max (xs_of (take l.point-index l.rest));
  y_max : l.bounds.y_max ≡ fold int_max l.initial.bounds.y_max (ys_of (take l.point-index l.rest));
}
