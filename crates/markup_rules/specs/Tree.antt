-- The tree of a source text: what elements are, without how code keeps them.
use Rattle.std.specs.Prelude.{ℕ, Bool, List, [], ◌∷◌, Option, Some, None, if◌then◌else◌}
use Rattle.std.specs.Str.{bytes_eq}

-- an element: its name, its attributes as names with values, its children, its own text, and the offset of
-- its first byte in the file
mutual
  pub data Tree : Type 0 where
    node : (name : List ℕ) (attributes : List (List ℕ × List ℕ)) (children : Trees) (text : List ℕ) (at : ℕ) → Tree

  pub data Trees : Type 0 where
    no_trees : Trees
    and_trees : (first : Tree) (later : Trees) → Trees

abbrev pub trees_of : List Tree → Trees
trees_of [] = no_trees
trees_of (t ∷ ts) = and_trees t (trees_of ts)

abbrev pub list_of : Trees → List Tree
list_of no_trees = []
list_of (and_trees t ts) = t ∷ list_of ts

abbrev pub name_of : Tree → List ℕ
name_of (node name attributes children text at) = name

abbrev pub is_named : List ℕ → Tree → Bool
is_named name tree = bytes_eq (name_of tree) name

abbrev pub attributes_of : Tree → List (List ℕ × List ℕ)
attributes_of (node name attributes children text at) = attributes

-- the value of an attribute
abbrev pub lookup : List ℕ → List (List ℕ × List ℕ) → Option (List ℕ)
lookup name [] = None
lookup name (a ∷ attributes) = if bytes_eq a.0 name then Some a.1 else lookup name attributes

abbrev pub attribute_of : List ℕ → Tree → Option (List ℕ)
attribute_of name tree = lookup name (attributes_of tree)

abbrev pub children_of : Tree → List Tree
children_of (node name attributes children text at) = list_of children

abbrev pub text_of : Tree → List ℕ
text_of (node name attributes children text at) = text

abbrev pub at_of : Tree → ℕ
at_of (node name attributes children text at) = at
