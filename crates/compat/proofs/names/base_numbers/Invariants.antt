use Rattle.std.proofs.Common.{◌≡◌, drop, take}
use Rattle.std.specs.Prelude.{is_none}
use Rattle.std.specs.List.{position_from, filter_map}
use Rattle.glif.specs.declared.shape.Component.{Component}
use Rattle.compat.specs.Names.{number_in, dangling_in}
use Rattle.compat.proofs.names.base_numbers.Given as goal

abbrev pub invariant-loop-index : goal.invariant-loop-index
invariant-loop-index l =
    (l.bases.items ≡ filter_map (λ (component : Component). number_in l.numbers component.base) (take l.index l.drawing.components))
    × (position_from (λ (component : Component). is_none (number_in l.numbers component.base)) l.index (drop l.index l.drawing.components) ≡ dangling_in (number_in l.numbers) l.drawing)
