use Rattle.std.proofs.Common.{◌≡◌, map, take}
use Rattle.variation_rules.specs.TupleVariations.{implied_triple}
use Rattle.variation_decoder.proofs.header.implied_region.Given as goal

abbrev pub invariant-loop-coordinate : goal.invariant-loop-coordinate
invariant-loop-coordinate l = l.region ≡ map implied_triple (take l.coordinate-index l.peak)
