use Rattle.std.proofs.Common.{◌≡◌, ◌++◌, map}
use Rattle.plist.specs.Values.{plain_value}
use Rattle.ufo_source.specs.Order.{names_among}
use Rattle.ufo_source.proofs.order.texts_among.Given as goal

abbrev pub invariant-loop-name : goal.invariant-loop-name
invariant-loop-name l = l.texts ++ l.name-iterator ≡ names_among (map plain_value l.values)
