-- The tree of an element, one level deep.
use Rattle.std.proofs.Common.{◌≡◌, List, [], ◌∷◌, map, refl, ap, ◌∙◌}
use Rattle.markup.specs.declared.element.Element.{Element}
use Rattle.markup.specs.declared.element.Element.TheOpen.{Element-F}
use Rattle.markup.specs.declared.element.Element.TheFolds.{fold_out-Element, fold-roll-Element}
use Rattle.markup.specs.declared.element.Element.TheViews.{out-Element, roll-Element}
use Rattle.markup_rules.specs.Tree.{Tree, node, trees_of, list_of, name_of, attributes_of, children_of, text_of, at_of}
use Rattle.markup.specs.Plain.{plain, plain_step}

plain_out : (e : Element) → plain e ≡ node (out-Element e).name (out-Element e).attributes (trees_of (map plain (out-Element e).children.items)) (out-Element e).text (out-Element e).at
plain_out = fold_out-Element Tree plain_step

pub plain_roll : (e : Element-F Element) → plain (roll-Element e) ≡ node e.name e.attributes (trees_of (map plain e.children.items)) e.text e.at
plain_roll = fold-roll-Element Tree plain_step

list_of_trees : (ts : List Tree) → list_of (trees_of ts) ≡ ts
list_of_trees [] = refl
list_of_trees (t ∷ ts) = ap (λ us. t ∷ us) (list_of_trees ts)

pub name_plain : (e : Element) → name_of (plain e) ≡ (out-Element e).name
name_plain e = ap name_of (plain_out e)

pub attributes_plain : (e : Element) → attributes_of (plain e) ≡ (out-Element e).attributes
attributes_plain e = ap attributes_of (plain_out e)

pub children_plain : (e : Element) → children_of (plain e) ≡ map plain (out-Element e).children.items
children_plain e = ap children_of (plain_out e) ∙ list_of_trees (map plain (out-Element e).children.items)

pub text_plain : (e : Element) → text_of (plain e) ≡ (out-Element e).text
text_plain e = ap text_of (plain_out e)

pub at_plain : (e : Element) → at_of (plain e) ≡ (out-Element e).at
at_plain e = ap at_of (plain_out e)
