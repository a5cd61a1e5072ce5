use Rattle.std.proofs.Common.{◌≡◌, drop, map}
use Rattle.markup_rules.specs.Tree.{lookup}
use Rattle.markup.specs.Views.{attribute_view}
use Rattle.markup.proofs.tag.value_of.Given as goal

abbrev pub invariant-loop-attribute : goal.invariant-loop-attribute
invariant-loop-attribute l = lookup l.name (map attribute_view (drop l.attribute-index l.attributes)) ≡ lookup l.name (map attribute_view l.attributes)
