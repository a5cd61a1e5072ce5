use Rattle.std.proofs.Common.{◌≡◌, All, List, length, take}
use Rattle.fixpoint.specs.declared.plane.Pair.{Pair}
use Rattle.variation_rules.specs.DrawnOutline.{Fills}
use Rattle.variation_rules.specs.FontUnits.{AreFWords}
use Rattle.variation_rules.proofs.drawing.all_filled.Given as goal

-- the tuples so far have their deltas
abbrev pub invariant-loop-tuple : goal.invariant-loop-tuple
invariant-loop-tuple l = record {
  fills : Fills l.lengths l.points (take l.tuple-index l.tuples) l.fills.items;
  same : length l.fills.items ≡ l.tuple-index;
  counts : All (λ (fill : List Pair). length fill ≡ length l.points) l.fills.items;
  within : All (λ (fill : List Pair). All AreFWords fill) l.fills.items;
}
