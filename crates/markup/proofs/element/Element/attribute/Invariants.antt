use Rattle.std.proofs.Common.{◌≡◌, drop}
use Rattle.markup_rules.specs.Tree.{lookup}
use Rattle.markup.specs.declared.element.Element.TheViews.{out-Element}
use Rattle.markup.proofs.element.Element.attribute.Given as goal

abbrev pub invariant-loop-key : goal.invariant-loop-key
invariant-loop-key l = lookup l.name (drop l.key-index l.key-items) ≡ lookup l.name (out-Element l.self).attributes
