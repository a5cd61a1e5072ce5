use Rattle.std.proofs.Common.{◌≡◌, ◌+◌, ◌++◌, drop, length, sum_by}
use Rattle.std.specs.List.{flat_map}
use Rattle.glyf_loca.specs.Layout.{last_bytes, lasts_from}
use Rattle.glyf_loca.proofs.simple.put_lasts.Given as goal

-- what stands for the rest completes the whole, and its points are the others
abbrev pub invariant-loop-contour : goal.invariant-loop-contour
invariant-loop-contour l = record {
  completes : l.out.items ++ flat_map last_bytes (lasts_from l.count (drop l.contour-index l.contours)) ≡ l.fn.out.items ++ flat_map last_bytes (lasts_from 0 l.contours);
  counted : l.count + sum_by length (drop l.contour-index l.contours) ≡ sum_by length l.contours;
}
