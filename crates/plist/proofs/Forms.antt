-- The value of an element, by the element's form.
use Rattle.std.proofs.Common.{◌≡◌, ℕ, List, Option, Some, None, refl, ap, sym}
use Rattle.std.specs.Prelude.{Result}
use Rattle.basics.specs.declared.fault.Spot.{Spot}
use Rattle.markup_rules.specs.Tree.{Tree, node, Trees, no_trees, and_trees, trees_of, list_of, children_of, name_of}
use Rattle.plist.specs.Reading.{form_of, value_by, value_at, items_of, entries_after, entries_of}
use Rattle.plist.specs.Values.{Entry}

trees_again : (trees : Trees) → trees_of (list_of trees) ≡ trees
trees_again no_trees = refl
trees_again (and_trees first later) = ap (and_trees first) (trees_again later)

pub value_is : (t : Tree) → value_at t ≡ value_by (form_of (name_of t)) t (items_of (trees_of (children_of t))) (entries_of t (trees_of (children_of t)))
value_is (node name attributes children text at) =
    let t = node name attributes children text at in
    ap (λ all. value_by (form_of name) t (items_of all) (entries_of t all)) (sym (trees_again children))

-- the entries where a key may have been read
abbrev pub entries_by : Tree → Option (List ℕ) → Trees → Result (List Entry) Spot
entries_by here None trees = entries_of here trees
entries_by here (Some key) trees = entries_after here key trees
