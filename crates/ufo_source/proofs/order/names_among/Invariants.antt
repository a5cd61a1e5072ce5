use Rattle.std.proofs.Common.{◌≡◌, map, drop}
use Rattle.std.specs.List.{fold}
use Rattle.plist.specs.Values.{plain_value}
use Rattle.ufo_source.specs.Order.{names_among, with_value}
use Rattle.ufo_source.proofs.order.names_among.Given as goal

abbrev pub invariant-loop-value : goal.invariant-loop-value
invariant-loop-value l = fold with_value l.names.keys (map plain_value (drop l.value-index l.values)) ≡ names_among (map plain_value l.values)
