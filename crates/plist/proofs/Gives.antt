-- What is a property list of a value is read as that value.
use Rattle.std.proofs.Common.{◌≡◌, ℕ, true, false, cond, List, [], ◌∷◌, Ok, refl, ap, ◌∙◌}
use Rattle.std.specs.Prelude.{Result, codes}
use Rattle.std.specs.Str.{bytes_eq}
use Rattle.std.proofs.lemmas.Slice.Eq.{bytes_eq-Decides}
use Rattle.basics.specs.Reading.{◌>>=◌}
use Rattle.basics.specs.declared.fault.Spot.{Spot}
use Rattle.markup_rules.specs.Tree.{Tree, trees_of, children_of, name_of, text_of}
use Rattle.plist.specs.Reading.{fault, form_of, nothing, own_text, key_of, array_by, dict_by, value_by, value_at, items_of, entries_of, only, value_of}
use Rattle.plist.specs.Syntax.{IsLeaf, IsValue, a_string, an_integer, a_real, a_true, a_false, an_array, a_dict, a_date, a_data, AreValues, no_values, and_value, AreEntries, none, and_pair, IsPropertyList}
use Rattle.plist.specs.Values.{PlainValue, Entry, text, number, truth, other}
use Rattle.plist.proofs.Forms.{value_is}

abbrev pub Read : Type 0 → Type 0
Read A = Result A Spot

empty_gives : (trees : List Tree) → trees ≡ [] → nothing trees ≡ Ok tt
empty_gives trees e = ap nothing e

text_gives : (tree : Tree) → children_of tree ≡ [] → own_text tree ≡ Ok (text_of tree)
unfolding own_text
text_gives tree e = ap (λ end. end >>= λ _. Ok (text_of tree)) (empty_gives (children_of tree) e)

pub if_named : {A : Type 0} (tree : Tree) (name : List ℕ) (read : Read A) → name_of tree ≡ name → cond (bytes_eq (name_of tree) name) read (fault tree) ≡ read
if_named {A} tree name read e = ap (λ test. cond {A = Read A} test read (fault tree)) ((bytes_eq-Decides (name_of tree) name).1 e)

pub key_gives : (tree : Tree) → IsLeaf (codes "key") tree → key_of tree ≡ Ok (text_of tree)
unfolding key_of
key_gives tree leaf = if_named tree (codes "key") (own_text tree) leaf.named ∙ text_gives tree leaf.empty

-- the reading of an element, by its name
pub by_name : (tree : Tree) (name : List ℕ) → name_of tree ≡ name → value_at tree ≡ value_by (form_of name) tree (items_of (trees_of (children_of tree))) (entries_of tree (trees_of (children_of tree)))
by_name tree name e = value_is tree ∙ ap (λ n. value_by (form_of n) tree (items_of (trees_of (children_of tree))) (entries_of tree (trees_of (children_of tree)))) e

text_leaf : (tree : Tree) (make : List ℕ → PlainValue) → children_of tree ≡ [] → (own_text tree >>= λ bytes. Ok (make bytes)) ≡ Ok (make (text_of tree))
text_leaf tree make e = ap (λ found. found >>= λ bytes. Ok (make bytes)) (text_gives tree e)

alone_leaf : (tree : Tree) (value : PlainValue) → children_of tree ≡ [] → (nothing (children_of tree) >>= λ _. Ok value) ≡ Ok value
alone_leaf tree value e = ap (λ end. end >>= λ _. Ok value) (empty_gives (children_of tree) e)

mutual
  pub value_gives : {tree : Tree} {value : PlainValue} → IsValue tree value → value_at tree ≡ Ok value
  value_gives (a_string {tree} leaf) = by_name tree (codes "string") leaf.named ∙ text_leaf tree text leaf.empty
  value_gives (an_integer {tree} leaf) = by_name tree (codes "integer") leaf.named ∙ text_leaf tree number leaf.empty
  value_gives (a_real {tree} leaf) = by_name tree (codes "real") leaf.named ∙ text_leaf tree number leaf.empty
  value_gives (a_true {tree} leaf) = by_name tree (codes "true") leaf.named ∙ alone_leaf tree (truth true) leaf.empty
  value_gives (a_false {tree} leaf) = by_name tree (codes "false") leaf.named ∙ alone_leaf tree (truth false) leaf.empty
  value_gives (an_array {tree} {values} named are) = by_name tree (codes "array") named ∙ ap array_by (items_give are)
  value_gives (a_dict {tree} {entries} named are) = by_name tree (codes "dict") named ∙ ap dict_by (entries_give tree are)
  value_gives (a_date {tree} leaf) = by_name tree (codes "date") leaf.named ∙ alone_leaf tree other leaf.empty
  value_gives (a_data {tree} leaf) = by_name tree (codes "data") leaf.named ∙ alone_leaf tree other leaf.empty

  items_give : {trees : List Tree} {values : List PlainValue} → AreValues trees values → items_of (trees_of trees) ≡ Ok values
  items_give no_values = refl
  items_give (and_value {tree} {value} {trees} {values} is are) =
      ap (λ found. found >>= λ first. items_of (trees_of trees) >>= λ rest. Ok (first ∷ rest)) (value_gives is)
      ∙ ap (λ found. found >>= λ rest. Ok (value ∷ rest)) (items_give are)

  entries_give : (here : Tree) {trees : List Tree} {entries : List Entry} → AreEntries trees entries → entries_of here (trees_of trees) ≡ Ok entries
  entries_give here none = refl
  entries_give here (and_pair {key} {tree} {value} {trees} {entries} leaf is are) =
      ap (λ found. found >>= λ bytes. value_at tree >>= λ first. entries_of here (trees_of trees) >>= λ rest. Ok ((bytes, first) ∷ rest)) (key_gives key leaf)
      ∙ (ap (λ found. found >>= λ first. entries_of here (trees_of trees) >>= λ rest. Ok ((text_of key, first) ∷ rest)) (value_gives is)
      ∙ ap (λ found. found >>= λ rest. Ok ((text_of key, value) ∷ rest)) (entries_give here are))

pub list_gives : (tree : Tree) (value : PlainValue) → IsPropertyList tree value → value_of tree ≡ Ok value
unfolding value_of
list_gives tree value is =
    if_named tree (codes "plist") (only tree (children_of tree)) is.named
    ∙ (ap (only tree) is.single ∙ ap (λ found. found >>= λ first. Ok first) (value_gives is.means))
