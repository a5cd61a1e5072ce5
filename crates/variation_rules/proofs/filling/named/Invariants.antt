use Rattle.std.proofs.Common.{◌≡◌, drop}
use Rattle.variation_rules.specs.DrawnOutline.{named_delta}
use Rattle.variation_rules.proofs.filling.named.Given as goal

-- what is left names the same
abbrev pub invariant-loop-k : goal.invariant-loop-k
invariant-loop-k l = named_delta (drop l.k l.points) (drop l.k l.deltas) l.point ≡ named_delta l.tuple.points l.tuple.deltas l.point
