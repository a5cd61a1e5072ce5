-- The children of an element by their name.
use Rattle.std.specs.Prelude.{ℕ, List, filter, find, Option}
use Rattle.markup_rules.specs.Tree.{Tree, children_of, is_named}

-- those with this name, in their order
abbrev pub named : List ℕ → Tree → List Tree
named name tree = filter (is_named name) (children_of tree)

-- the first with this name
abbrev pub first_named : List ℕ → Tree → Option Tree
first_named name tree = find (is_named name) (children_of tree)
