-- The first fault is the one that the reading comes to.
use Rattle.std.proofs.Common.{◌≡◌, ◌≢◌, ℕ, true, false, cond, inl, inr, List, [], ◌∷◌, Ok, Err, refl, sym, ap, subst, ◌∙◌}
use Rattle.std.specs.Prelude.{codes}
use Rattle.std.specs.Str.{bytes_eq}
use Rattle.std.proofs.lemmas.Slice.Eq.{bytes_eq-Decides}
use Rattle.std.proofs.lemmas.Bool.{false_from_ne_true}
use Rattle.basics.specs.Reading.{◌>>=◌}
use Rattle.basics.specs.declared.fault.Spot.{Spot}
use Rattle.markup_rules.specs.Tree.{Tree, trees_of, children_of, name_of, text_of}
use Rattle.plist.specs.declared.form.Form.{Form}
use Rattle.plist.specs.declared.form.Form.TheVariants.{Text, Number, True, False, Array, Dict, Unread, Unknown}
use Rattle.plist.specs.Faults.{IsLeafName, of_string, of_integer, of_real, of_true, of_false, of_date, of_data, IsUnknown, WrongKey, no_key, in_key, WrongValue, unknown, in_leaf, in_array, in_dict, WrongItem, this_item, later_item, WrongEntry, this_key, no_value, this_value, later_entry, WrongList, no_list, no_item, only_item, second_item, IsFault}
use Rattle.plist.specs.Reading.{spot_at, fault, form_of, nothing, own_text, key_of, array_by, dict_by, value_by, value_at, items_of, entries_of, entries_after, only, value_of}
use Rattle.plist.specs.Values.{PlainValue, Entry, text, number, truth, other}
use Rattle.plist.proofs.Forms.{value_is}
use Rattle.plist.proofs.Gives.{if_named, key_gives, by_name, value_gives}
use Rattle.plist.proofs.Takes.{Read, Told, told}

-- ---- elements without elements in them

child_told : (tree child : Tree) (later : List Tree) → children_of tree ≡ child ∷ later → nothing (children_of tree) ≡ Err (spot_at child)
child_told tree child later e = ap nothing e

text_told : (tree child : Tree) (later : List Tree) → children_of tree ≡ child ∷ later → own_text tree ≡ Err (spot_at child)
unfolding own_text
text_told tree child later e = ap (λ end. end >>= λ _. Ok (text_of tree)) (child_told tree child later e)

unless_named : {A : Type 0} (tree : Tree) (name : List ℕ) (read : Read A) → name_of tree ≢ name → cond (bytes_eq (name_of tree) name) read (fault tree) ≡ fault tree
unless_named {A} tree name read differs =
    ap (λ test. cond {A = Read A} test read (fault tree)) (false_from_ne_true (bytes_eq (name_of tree) name) (λ e. differs ((bytes_eq-Decides (name_of tree) name).0 e)))

key_told : {tree at : Tree} → WrongKey tree at → key_of tree ≡ Err (spot_at at)
unfolding key_of
key_told (no_key {tree} differs) = unless_named tree (codes "key") (own_text tree) differs
key_told (in_key {tree} {child} {later} name split) = if_named tree (codes "key") (own_text tree) name ∙ text_told tree child later split

leaf_told : (tree : Tree) (value : PlainValue) (child : Tree) (later : List Tree) → children_of tree ≡ child ∷ later → (nothing (children_of tree) >>= λ _. Ok value) ≡ Err (spot_at child)
leaf_told tree value child later e = ap (λ end. end >>= λ _. Ok value) (child_told tree child later e)

text_value_told : (tree : Tree) (make : List ℕ → PlainValue) (child : Tree) (later : List Tree) → children_of tree ≡ child ∷ later → (own_text tree >>= λ bytes. Ok (make bytes)) ≡ Err (spot_at child)
text_value_told tree make child later e = ap (λ found. found >>= λ bytes. Ok (make bytes)) (text_told tree child later e)

in_leaf_told : {name : List ℕ} → IsLeafName name → (tree child : Tree) (later : List Tree) (items : Read (List PlainValue)) (entries : Read (List Entry)) → children_of tree ≡ child ∷ later
    → value_by (form_of name) tree items entries ≡ Err (spot_at child)
in_leaf_told of_string tree child later items entries e = text_value_told tree text child later e
in_leaf_told of_integer tree child later items entries e = text_value_told tree number child later e
in_leaf_told of_real tree child later items entries e = text_value_told tree number child later e
in_leaf_told of_true tree child later items entries e = leaf_told tree (truth true) child later e
in_leaf_told of_false tree child later items entries e = leaf_told tree (truth false) child later e
in_leaf_told of_date tree child later items entries e = leaf_told tree other child later e
in_leaf_told of_data tree child later items entries e = leaf_told tree other child later e

-- ---- names of no value

no_leaf_of : {name word : List ℕ} → IsUnknown name → name ≡ word → IsLeafName word → ⊥
no_leaf_of is e leaf = is.no_leaf (subst IsLeafName (sym e) leaf)

unknown_form : (name : List ℕ) (form : Form) → Told name form → IsUnknown name → form ≡ Unknown
unknown_form name Text e is = absurd (no_leaf_of is e of_string)
unknown_form name Number (inl e) is = absurd (no_leaf_of is e of_integer)
unknown_form name Number (inr e) is = absurd (no_leaf_of is e of_real)
unknown_form name True e is = absurd (no_leaf_of is e of_true)
unknown_form name False e is = absurd (no_leaf_of is e of_false)
unknown_form name Array e is = absurd (is.no_array e)
unknown_form name Dict e is = absurd (is.no_dict e)
unknown_form name Unread (inl e) is = absurd (no_leaf_of is e of_date)
unknown_form name Unread (inr e) is = absurd (no_leaf_of is e of_data)
unknown_form name Unknown e is = refl

-- ---- values

abbrev Items : Tree → Read (List PlainValue)
Items tree = items_of (trees_of (children_of tree))

abbrev Entries : Tree → Read (List Entry)
Entries tree = entries_of tree (trees_of (children_of tree))

mutual
  value_told : {tree at : Tree} → WrongValue tree at → value_at tree ≡ Err (spot_at at)
  value_told (unknown {tree} is) = value_is tree ∙ ap (λ form. value_by form tree (Items tree) (Entries tree)) (unknown_form (name_of tree) (form_of (name_of tree)) (told (name_of tree)) is)
  value_told (in_leaf {tree} {child} {later} is split) = value_is tree ∙ in_leaf_told is tree child later (Items tree) (Entries tree) split
  value_told (in_array {tree} name wrong) = by_name tree (codes "array") name ∙ ap array_by (items_told wrong)
  value_told (in_dict {tree} name wrong) = by_name tree (codes "dict") name ∙ ap dict_by (entries_told wrong)

  items_told : {trees : List Tree} {at : Tree} → WrongItem trees at → items_of (trees_of trees) ≡ Err (spot_at at)
  items_told (this_item {item} {at} {later} wrong) = ap (λ found. found >>= λ first. items_of (trees_of later) >>= λ rest. Ok (first ∷ rest)) (value_told wrong)
  items_told (later_item {item} {at} {value} {later} is wrong) =
      ap (λ found. found >>= λ first. items_of (trees_of later) >>= λ rest. Ok (first ∷ rest)) (value_gives is)
      ∙ ap (λ found. found >>= λ rest. Ok (value ∷ rest)) (items_told wrong)

  entries_told : {dict : Tree} {trees : List Tree} {at : Tree} → WrongEntry dict trees at → entries_of dict (trees_of trees) ≡ Err (spot_at at)
  entries_told (this_key {dict} {key} {at} {later} wrong) = ap (λ found. found >>= λ bytes. entries_after dict bytes (trees_of later)) (key_told wrong)
  entries_told (no_value {dict} {key} leaf) = ap (λ found. found >>= λ bytes. entries_after dict bytes (trees_of [])) (key_gives key leaf)
  entries_told (this_value {dict} {key} {item} {at} {later} leaf wrong) =
      ap (λ found. found >>= λ bytes. entries_after dict bytes (trees_of (item ∷ later))) (key_gives key leaf)
      ∙ ap (λ found. found >>= λ first. entries_of dict (trees_of later) >>= λ rest. Ok ((text_of key, first) ∷ rest)) (value_told wrong)
  entries_told (later_entry {dict} {key} {item} {at} {value} {later} leaf is wrong) =
      ap (λ found. found >>= λ bytes. entries_after dict bytes (trees_of (item ∷ later))) (key_gives key leaf)
      ∙ (ap (λ found. found >>= λ first. entries_of dict (trees_of later) >>= λ rest. Ok ((text_of key, first) ∷ rest)) (value_gives is)
      ∙ ap (λ found. found >>= λ rest. Ok ((text_of key, value) ∷ rest)) (entries_told wrong))

-- ---- the whole list

list_told : {tree at : Tree} → WrongList tree at → value_of tree ≡ Err (spot_at at)
unfolding value_of
list_told (no_list {tree} differs) = unless_named tree (codes "plist") (only tree (children_of tree)) differs
list_told (no_item {tree} name split) = if_named tree (codes "plist") (only tree (children_of tree)) name ∙ ap (only tree) split
list_told (only_item {tree} {item} {at} {later} name split wrong) =
    if_named tree (codes "plist") (only tree (children_of tree)) name ∙ (ap (only tree) split ∙ ap (λ found. found >>= λ value. nothing later >>= λ end. Ok value) (value_told wrong))
list_told (second_item {tree} {item} {second} {value} {later} name split is) =
    if_named tree (codes "plist") (only tree (children_of tree)) name ∙ (ap (only tree) split ∙ ap (λ found. found >>= λ value. nothing (second ∷ later) >>= λ end. Ok value) (value_gives is))

pub fault_gives : (tree : Tree) (spot : Spot) → IsFault tree spot → value_of tree ≡ Err spot
fault_gives tree spot is = list_told is.wrong ∙ ap Err (sym is.told)
