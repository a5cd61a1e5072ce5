use Rattle.std.proofs.Common.{◌≡◌, drop, map}
use Rattle.plist.specs.Values.{at_key, plain_entry}
use Rattle.plist.proofs.value.Value.get.Given as goal

abbrev pub invariant-loop-name : goal.invariant-loop-name
invariant-loop-name l = at_key l.key (map plain_entry (drop l.name-index l.name-items)) ≡ at_key l.key (map plain_entry l.name-items)
