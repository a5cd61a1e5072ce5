-- What a property list means (Apple's property lists in XML, as UFO 3 uses them), or its first fault: the first
-- element that may not stand where it is, or the one that lacks a child. An element comes before its children,
-- and these come in order, each with all in it.
use Rattle.std.specs.Prelude.{ℕ, pos, true, false, ◌||◌, List, [], ◌∷◌, codes, Result, Ok, Err, if◌then◌else◌}
use Rattle.std.specs.Str.{bytes_eq}
use Rattle.basics.specs.Reading.{◌>>=◌, spot_of}
use Rattle.basics.specs.declared.kinds.Kind.TheVariants.{NotPlist}
use Rattle.basics.specs.declared.fault.Spot.{Spot}
use Rattle.markup_rules.specs.Tree.{and_trees, at_of, children_of, is_named, no_trees, node, text_of, Tree, Trees, trees_of}
use Rattle.plist.specs.declared.form.Form.{Form}
use Rattle.plist.specs.declared.form.Form.TheVariants.{Text, Number, True, False, Array, Dict, Unread, Unknown}
use Rattle.plist.specs.Entries.{firsts}
use Rattle.plist.specs.Values as value
use Rattle.plist.specs.Values.{PlainValue, Entry, items_from, entries_from}

-- the form of the value that an element of this name is
abbrev pub form_of : List ℕ → Form
form_of name =
    if bytes_eq name (codes "string") then Text else
    (if bytes_eq name (codes "integer") || bytes_eq name (codes "real") then Number else
    (if bytes_eq name (codes "true") then True else
    (if bytes_eq name (codes "false") then False else
    (if bytes_eq name (codes "array") then Array else
    (if bytes_eq name (codes "dict") then Dict else
    (if bytes_eq name (codes "date") || bytes_eq name (codes "data") then Unread else Unknown))))))

-- ---- faults

abbrev pub spot_at : Tree → Spot
spot_at tree = spot_of NotPlist [] (at_of tree) (pos 0)

abbrev pub fault : {A : Type 0} → Tree → Result A Spot
fault tree = Err (spot_at tree)

-- there is no element here
abbrev pub nothing : List Tree → Result (Unit {0}) Spot
nothing [] = Ok tt
nothing (tree ∷ later) = fault tree

-- ---- texts

unfoldable pub own_text : Tree → Result (List ℕ) Spot
own_text tree = nothing (children_of tree) >>= λ _. Ok (text_of tree)

unfoldable pub key_of : Tree → Result (List ℕ) Spot
key_of tree = if is_named (codes "key") tree then own_text tree else fault tree

-- ---- values, each with what its form asks for

abbrev pub text_value : (List ℕ → PlainValue) → Tree → Result PlainValue Spot
text_value make tree = own_text tree >>= λ text. Ok (make text)

abbrev pub leaf_value : PlainValue → Tree → Result PlainValue Spot
leaf_value value tree = nothing (children_of tree) >>= λ _. Ok value

abbrev pub array_by : Result (List PlainValue) Spot → Result PlainValue Spot
array_by items = items >>= λ values. Ok (value.array (items_from values))

abbrev pub dict_by : Result (List Entry) Spot → Result PlainValue Spot
dict_by entries = entries >>= λ all. Ok (value.dict (entries_from (firsts all)))

abbrev pub value_by : Form → Tree → Result (List PlainValue) Spot → Result (List Entry) Spot → Result PlainValue Spot
value_by Text tree items entries = text_value value.text tree
value_by Number tree items entries = text_value value.number tree
value_by True tree items entries = leaf_value (value.truth true) tree
value_by False tree items entries = leaf_value (value.truth false) tree
value_by Array tree items entries = array_by items
value_by Dict tree items entries = dict_by entries
value_by Unread tree items entries = leaf_value value.other tree
value_by Unknown tree items entries = fault tree

abbrev mutual
  -- the value that an element is, where a value is wanted
  pub value_at : Tree → Result PlainValue Spot
  value_at (node name attributes children text at) =
      let here = node name attributes children text at in
      value_by (form_of name) here (items_of children) (entries_of here children)

  pub items_of : Trees → Result (List PlainValue) Spot
  items_of no_trees = Ok []
  items_of (and_trees first later) = do
    value ← value_at first
    values ← items_of later
    Ok (value ∷ values)

  -- the entries of a dict, a key first
  pub entries_of : Tree → Trees → Result (List Entry) Spot
  entries_of here no_trees = Ok []
  entries_of here (and_trees first later) = key_of first >>= λ key. entries_after here key later

  -- the same, after a key
  pub entries_after : Tree → List ℕ → Trees → Result (List Entry) Spot
  entries_after here key no_trees = fault here
  entries_after here key (and_trees first later) = do
    value ← value_at first
    entries ← entries_of here later
    Ok ((key, value) ∷ entries)

abbrev pub array_of : Tree → Result PlainValue Spot
array_of tree = array_by (items_of (trees_of (children_of tree)))

abbrev pub dict_of : Tree → Result PlainValue Spot
dict_of tree = dict_by (entries_of tree (trees_of (children_of tree)))

-- ---- the whole list: one value, and nothing after it

abbrev pub only : Tree → List Tree → Result PlainValue Spot
only tree [] = fault tree
only tree (first ∷ later) = do
  value ← value_at first
  end ← nothing later
  Ok value

unfoldable pub value_of : Tree → Result PlainValue Spot
value_of tree = if is_named (codes "plist") tree then only tree (children_of tree) else fault tree
