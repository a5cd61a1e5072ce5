-- The tree that an element stands for.
use Rattle.markup.specs.declared.element.Element.{Element}
use Rattle.markup.specs.declared.element.Element.TheOpen.{Element-F}
use Rattle.markup.specs.declared.element.Element.TheFolds.{fold-Element}
use Rattle.markup_rules.specs.Tree.{Tree, node, trees_of}

abbrev pub plain_step : Element-F Tree → Tree
plain_step e = node e.name e.attributes (trees_of e.children.items) e.text e.at

abbrev pub plain : Element → Tree
plain = fold-Element Tree plain_step
