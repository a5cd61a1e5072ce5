-- The element that a tag starts.
use Rattle.std.specs.Prelude.{List, ℕ, [], map}
use Rattle.markup_rules.specs.Tree.{Tree, node, no_trees}
use Rattle.markup_rules.specs.Reading.{Opening}
use Rattle.markup.specs.Views.{attribute_view}
use Rattle.markup.specs.declared.tag.Tag.{Tag}

-- the element with nothing in it
abbrev pub tag_tree : Tag → Tree
tag_tree t = node t.name.now (map attribute_view t.attributes.now) no_trees [] t.at

abbrev pub opening_of : Tag → Opening
opening_of t = record { name = t.name.now; attributes = map attribute_view t.attributes.now }
