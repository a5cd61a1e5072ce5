use Rattle.std.proofs.Common.{◌≡◌, ◌++◌, map, take}
use Rattle.std.specs.List.{flat_map}
use Rattle.variation_rules.specs.Fields.{signed_word}
use Rattle.gvar_table.specs.Layout.{coordinate_of}
use Rattle.gvar_table.proofs.header.push_coordinates.Given as goal

abbrev pub invariant-loop-axis : goal.invariant-loop-axis
invariant-loop-axis l = l.headers.items ≡ l.initial.headers.items ++ flat_map signed_word (map (coordinate_of l.which) (take l.axis-index l.region))
