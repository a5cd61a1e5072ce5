use Rattle.std.proofs.Common.{◌≡◌, map, take}
use Rattle.markup.specs.Views.{attribute_view}
use Rattle.markup.proofs.trees.copied.Given as goal

abbrev pub invariant-loop-attribute : goal.invariant-loop-attribute
invariant-loop-attribute l = l.copy.items ≡ map attribute_view (take l.attribute-index l.attributes)
