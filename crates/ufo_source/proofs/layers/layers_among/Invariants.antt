use Rattle.std.proofs.Common.{◌≡◌, map, drop}
use Rattle.basics.specs.Reading.{with_prefix}
use Rattle.plist.specs.Values.{plain_value}
use Rattle.ufo_source.specs.Layers.{layers_among}
use Rattle.ufo_source.proofs.layers.layers_among.Given as goal

abbrev pub invariant-loop-value : goal.invariant-loop-value
invariant-loop-value l = with_prefix l.layers (layers_among (map plain_value (drop l.value-index l.values))) ≡ layers_among (map plain_value l.values)
