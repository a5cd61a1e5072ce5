-- Property lists by what is written (Apple's property lists in XML, as UFO 3 uses them): which trees are property
-- lists, and of which value. Attributes, and texts between elements, mean nothing.
use Rattle.std.specs.Prelude.{◌≡◌, ◌≢◌, ℕ, true, false, List, [], ◌∷◌, codes}
use Rattle.std.specs.List.{AllPairs}
use Rattle.markup_rules.specs.Tree.{Tree, name_of, children_of, text_of}
use Rattle.plist.specs.Entries.{firsts}
use Rattle.plist.specs.Values.{PlainValue, PlainItems, PlainEntries, Entry, text, number, truth, array, dict, other, no_items, and_item, no_entries, and_entry, items_from, entries_from, entries_in}

-- an element of this name with no element in it
pub record IsLeaf (name : List ℕ) (tree : Tree) : Type 0 where
  pub named : name_of tree ≡ name
  pub empty : children_of tree ≡ []

mutual
  pub data IsValue : Tree → PlainValue → Type 0 where
    a_string : {tree : Tree} → IsLeaf (codes "string") tree → IsValue tree (text (text_of tree))
    an_integer : {tree : Tree} → IsLeaf (codes "integer") tree → IsValue tree (number (text_of tree))
    a_real : {tree : Tree} → IsLeaf (codes "real") tree → IsValue tree (number (text_of tree))
    a_true : {tree : Tree} → IsLeaf (codes "true") tree → IsValue tree (truth true)
    a_false : {tree : Tree} → IsLeaf (codes "false") tree → IsValue tree (truth false)
    an_array : {tree : Tree} {values : List PlainValue} → name_of tree ≡ codes "array" → AreValues (children_of tree) values → IsValue tree (array (items_from values))
    a_dict : {tree : Tree} {entries : List Entry} → name_of tree ≡ codes "dict" → AreEntries (children_of tree) entries → IsValue tree (dict (entries_from (firsts entries)))
    a_date : {tree : Tree} → IsLeaf (codes "date") tree → IsValue tree other
    a_data : {tree : Tree} → IsLeaf (codes "data") tree → IsValue tree other

  pub data AreValues : List Tree → List PlainValue → Type 0 where
    no_values : AreValues [] []
    and_value : {tree : Tree} {value : PlainValue} {trees : List Tree} {values : List PlainValue} → IsValue tree value → AreValues trees values → AreValues (tree ∷ trees) (value ∷ values)

  -- a key and a value each
  pub data AreEntries : List Tree → List Entry → Type 0 where
    none : AreEntries [] []
    and_pair : {key tree : Tree} {value : PlainValue} {trees : List Tree} {entries : List Entry} → IsLeaf (codes "key") key → IsValue tree value → AreEntries trees entries → AreEntries (key ∷ tree ∷ trees) ((text_of key, value) ∷ entries)

-- a plist with one value in it
pub record IsPropertyList (tree : Tree) (value : PlainValue) : Type 0 where
  pub named : name_of tree ≡ codes "plist"
  pub inside : Tree
  pub single : children_of tree ≡ inside ∷ []
  pub means : IsValue inside value

-- no dict in the value has two entries with equal keys
abbrev mutual
  pub HasEachKeyOnce : PlainValue → Type 0
  HasEachKeyOnce (array items) = ItemsHave items
  HasEachKeyOnce (dict entries) = AllPairs (λ earlier later. earlier.0 ≢ later.0) (entries_in entries) × EntriesHave entries
  HasEachKeyOnce _ = Unit {0}

  pub ItemsHave : PlainItems → Type 0
  ItemsHave no_items = Unit {0}
  ItemsHave (and_item value later) = HasEachKeyOnce value × ItemsHave later

  pub EntriesHave : PlainEntries → Type 0
  EntriesHave no_entries = Unit {0}
  EntriesHave (and_entry key value later) = HasEachKeyOnce value × EntriesHave later
