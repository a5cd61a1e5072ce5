use Rattle.std.proofs.Common.{◌≡◌, All, length, take, sum}
use Rattle.variation_rules.specs.DrawnOutline.{named_delta, FillsContours}
use Rattle.variation_rules.specs.FontUnits.{AreFWords}
use Rattle.variation_rules.proofs.filling.filled.Given as goal

-- the contours so far are filled
abbrev pub invariant-loop-length : goal.invariant-loop-length
invariant-loop-length l = record {
  whole : sum (take l.length-index l.lengths) ≡ l.start;
  count : length l.deltas.items ≡ l.start;
  fills : FillsContours (take l.length-index l.lengths) l.points (named_delta l.tuple.points l.tuple.deltas) l.deltas.items;
  within : All AreFWords l.deltas.items;
}
