use Rattle.std.proofs.Common.{◌≡◌, drop}
use Rattle.std.specs.List.{find}
use Rattle.std.specs.Option.{option_map}
use Rattle.ufo_source.specs.Layers.{is_asked}
use Rattle.ufo_source.proofs.layers.folder_among.Given as goal

abbrev pub invariant-loop-layer : goal.invariant-loop-layer
invariant-loop-layer l = find (is_asked (option_map (λ name. name.now) l.name)) (drop l.layer-index l.layers) ≡ find (is_asked (option_map (λ name. name.now) l.name)) l.layers
