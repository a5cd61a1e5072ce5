use Rattle.std.proofs.Common.{◌≡◌, map, take, length}
use Rattle.vfb.specs.Masters.{drawing_numbered}
use Rattle.vfb.proofs.MasterLemmas.{AreLeft}
use Rattle.vfb.proofs.masters.outlines_in.Given as goal

-- what was moved, and what is left
abbrev pub invariant-loop-number : goal.invariant-loop-number
invariant-loop-number l = record {
  moved : l.outlines.items ≡ map (λ number. (drawing_numbered l.fn.drawings.items number).outline) (take l.number-index l.order);
  one_each : length l.drawings.items ≡ length l.fn.drawings.items;
  left : AreLeft l.fn.drawings.items l.drawings.items l.order l.number-index;
}
