-- A fault that the reading comes to is the first one.
use Rattle.std.proofs.Common.{◌≡◌, ◌≢◌, ℕ, Bool, true, false, cond, Decides, inl, inr, List, [], ◌∷◌, Ok, Err, refl, sym, ap, subst, ◌∙◌}
use Rattle.std.specs.Prelude.{codes}
use Rattle.std.specs.Str.{bytes_eq}
use Rattle.std.proofs.lemmas.Slice.Eq.{bytes_eq-Decides}
use Rattle.std.proofs.lemmas.Bool.Decides.{not_from_Decides}
use Rattle.basics.specs.Reading.{◌>>=◌}
use Rattle.basics.specs.declared.fault.Spot.{Spot}
use Rattle.markup_rules.specs.Tree.{Tree, node, Trees, no_trees, and_trees, list_of, children_of, name_of, text_of}
use Rattle.plist.specs.declared.form.Form.{Form}
use Rattle.plist.specs.declared.form.Form.TheVariants.{Text, Number, True, False, Array, Dict, Unread, Unknown}
use Rattle.plist.specs.Entries.{firsts}
use Rattle.plist.specs.Faults.{IsLeafName, of_string, of_integer, of_real, of_true, of_false, of_date, of_data, IsUnknown, WrongKey, no_key, in_key, WrongValue, unknown, in_leaf, in_array, in_dict, WrongItem, this_item, later_item, WrongEntry, this_key, no_value, this_value, later_entry, WrongList, no_list, no_item, only_item, second_item, IsFault}
use Rattle.plist.specs.Reading.{spot_at, fault, form_of, nothing, own_text, key_of, value_by, value_at, items_of, entries_of, entries_after, only, value_of}
use Rattle.plist.specs.Values.{PlainValue, Entry, text, number, truth, array, dict, other, items_from, entries_from}
use Rattle.plist.proofs.Takes.{Read, Told, told, Key, key_takes, value_takes}

spot_or : {A : Type 0} → Read A → Spot → Spot
spot_or (Ok x) spot = spot
spot_or (Err found) spot = found

same_spot : {A : Type 0} (x y : Spot) → (let read : Read A = Err x in read ≡ Err y) → x ≡ y
unfolding spot_or
same_spot x y e = ap (λ read. spot_or read x) e

same_fault : {A : Type 0} (tree : Tree) (spot : Spot) → (let read : Read A = fault tree in read ≡ Err spot) → spot ≡ spot_at tree
same_fault tree spot e = sym (same_spot (spot_at tree) spot e)

data Failed {A B : Type 0} (read : Read A) (next : A → Read B) (spot : Spot) : Type 0 where
  first : read ≡ Err spot → Failed read next spot
  second : (step : A) → read ≡ Ok step → next step ≡ Err spot → Failed read next spot

failed : {A B : Type 0} (read : Read A) (next : A → Read B) (spot : Spot) → (read >>= next) ≡ Err spot → Failed read next spot
failed (Ok x) next spot e = second x refl e
failed (Err found) next spot e = first (ap Err (same_spot found spot e))

-- the element that is wrong, by what it is wrong for
record At (Wrong : Tree → Type 0) (spot : Spot) : Type 0 where
  at : Tree
  wrong : Wrong at
  told : spot ≡ spot_at at

turned : {P Q : Tree → Type 0} (spot : Spot) → ((at : Tree) → P at → Q at) → At P spot → At Q spot
turned spot turn found = record { at = found.at; wrong = turn found.at found.wrong; told = found.told }

-- ---- elements without elements in them

record IsFirst (trees : List Tree) (child : Tree) : Type 0 where
  later : List Tree
  split : trees ≡ child ∷ later

nothing_fails : (trees : List Tree) (spot : Spot) → nothing trees ≡ Err spot → At (IsFirst trees) spot
nothing_fails [] spot e = cc
nothing_fails (tree ∷ later) spot e = record { at = tree; wrong = record { later = later; split = refl }; told = same_fault tree spot e }

text_fails : (tree : Tree) (spot : Spot) → own_text tree ≡ Err spot → At (IsFirst (children_of tree)) spot
unfolding own_text
text_fails tree spot e =
    elim (failed (nothing (children_of tree)) (λ _. Ok (text_of tree)) spot e) [ first h ↦ nothing_fails (children_of tree) spot h | second step h g ↦ cc ]

key_fails_by : (tree : Tree) (spot : Spot) (test : Bool) → Decides test (name_of tree ≡ codes "key") → cond test (own_text tree) (fault tree) ≡ Err spot → At (WrongKey tree) spot
key_fails_by tree spot true decides e = turned spot (λ child is. in_key (decides.0 refl) is.split) (text_fails tree spot e)
key_fails_by tree spot false decides e = record { at = tree; wrong = no_key (not_from_Decides false decides refl); told = same_fault tree spot e }

key_fails : (tree : Tree) (spot : Spot) → key_of tree ≡ Err spot → At (WrongKey tree) spot
unfolding key_of
key_fails tree spot e = key_fails_by tree spot (bytes_eq (name_of tree) (codes "key")) (bytes_eq-Decides (name_of tree) (codes "key")) e

-- ---- the form by the name

known : {name : List ℕ} → IsLeafName name → form_of name ≢ Unknown
known of_string = λ e. cc
known of_integer = λ e. cc
known of_real = λ e. cc
known of_true = λ e. cc
known of_false = λ e. cc
known of_date = λ e. cc
known of_data = λ e. cc

unknown_name : (name : List ℕ) → form_of name ≡ Unknown → IsUnknown name
unknown_name name e = record {
  no_leaf = λ is. known is e;
  no_array = λ is. (let h : Array ≡ Unknown = sym (ap form_of is) ∙ e in cc);
  no_dict = λ is. (let h : Dict ≡ Unknown = sym (ap form_of is) ∙ e in cc);
}

-- ---- values by their forms

leaf_named : {name word : List ℕ} → name ≡ word → IsLeafName word → IsLeafName name
leaf_named {name} {word} e is = subst IsLeafName (sym e) is

leaf_fails : (tree : Tree) (value : PlainValue) (spot : Spot) → IsLeafName (name_of tree) → (nothing (children_of tree) >>= λ _. Ok value) ≡ Err spot → At (WrongValue tree) spot
leaf_fails tree value spot is e =
    elim (failed (nothing (children_of tree)) (λ _. Ok value) spot e) [ first h ↦ turned spot (λ child f. in_leaf is f.split) (nothing_fails (children_of tree) spot h) | second step h g ↦ cc ]

text_value_fails : (tree : Tree) (make : List ℕ → PlainValue) (spot : Spot) → IsLeafName (name_of tree) → (own_text tree >>= λ bytes. Ok (make bytes)) ≡ Err spot → At (WrongValue tree) spot
text_value_fails tree make spot is e =
    elim (failed (own_text tree) (λ bytes. Ok (make bytes)) spot e) [ first h ↦ turned spot (λ child f. in_leaf is f.split) (text_fails tree spot h) | second step h g ↦ cc ]

by_form : (form : Form) (tree : Tree) (items : Read (List PlainValue)) (entries : Read (List Entry)) (spot : Spot) → Told (name_of tree) form → form_of (name_of tree) ≡ form
    → (items ≡ Err spot → At (WrongItem (children_of tree)) spot)
    → (entries ≡ Err spot → At (WrongEntry tree (children_of tree)) spot)
    → value_by form tree items entries ≡ Err spot → At (WrongValue tree) spot
by_form Text tree items entries spot name is fail_items fail_entries e = text_value_fails tree text spot (leaf_named name of_string) e
by_form Number tree items entries spot (inl name) is fail_items fail_entries e = text_value_fails tree number spot (leaf_named name of_integer) e
by_form Number tree items entries spot (inr name) is fail_items fail_entries e = text_value_fails tree number spot (leaf_named name of_real) e
by_form True tree items entries spot name is fail_items fail_entries e = leaf_fails tree (truth true) spot (leaf_named name of_true) e
by_form False tree items entries spot name is fail_items fail_entries e = leaf_fails tree (truth false) spot (leaf_named name of_false) e
by_form Array tree items entries spot name is fail_items fail_entries e =
    elim (failed items (λ values. Ok (array (items_from values))) spot e) [ first h ↦ turned spot (λ at wrong. in_array name wrong) (fail_items h) | second step h g ↦ cc ]
by_form Dict tree items entries spot name is fail_items fail_entries e =
    elim (failed entries (λ all. Ok (dict (entries_from (firsts all)))) spot e) [ first h ↦ turned spot (λ at wrong. in_dict name wrong) (fail_entries h) | second step h g ↦ cc ]
by_form Unread tree items entries spot (inl name) is fail_items fail_entries e = leaf_fails tree other spot (leaf_named name of_date) e
by_form Unread tree items entries spot (inr name) is fail_items fail_entries e = leaf_fails tree other spot (leaf_named name of_data) e
by_form Unknown tree items entries spot name is fail_items fail_entries e = record { at = tree; wrong = unknown (unknown_name (name_of tree) is); told = same_fault tree spot e }

mutual
  value_fails : (tree : Tree) (spot : Spot) → value_at tree ≡ Err spot → At (WrongValue tree) spot
  value_fails (node name attributes children own at) spot e =
      let tree = node name attributes children own at in
      by_form (form_of name) tree (items_of children) (entries_of tree children) spot (told name) refl (λ h. items_fail children spot h) (λ h. entries_fail tree children spot h) e

  items_fail : (trees : Trees) (spot : Spot) → items_of trees ≡ Err spot → At (WrongItem (list_of trees)) spot
  items_fail no_trees spot e = cc
  items_fail (and_trees tree later) spot e =
      elim (failed (value_at tree) (λ value. items_of later >>= λ rest. Ok (value ∷ rest)) spot e) [
        | first h ↦ turned spot (λ at wrong. this_item wrong) (value_fails tree spot h)
        | second value h g ↦ elim (failed (items_of later) (λ rest. Ok (value ∷ rest)) spot g) [
          | first k ↦ turned spot (λ at wrong. later_item (value_takes tree value h) wrong) (items_fail later spot k)
          | second rest k l ↦ cc
        ]
      ]

  entries_fail : (here : Tree) (trees : Trees) (spot : Spot) → entries_of here trees ≡ Err spot → At (WrongEntry here (list_of trees)) spot
  entries_fail here no_trees spot e = cc
  entries_fail here (and_trees tree later) spot e =
      elim (failed (key_of tree) (λ bytes. entries_after here bytes later) spot e) [
        | first h ↦ turned spot (λ at wrong. this_key wrong) (key_fails tree spot h)
        | second bytes h g ↦ after_fails here bytes later spot g tree (key_takes tree bytes h)
      ]

  after_fails : (here : Tree) (bytes : List ℕ) (trees : Trees) (spot : Spot) → entries_after here bytes trees ≡ Err spot → (key : Tree) → Key key bytes → At (WrongEntry here (key ∷ list_of trees)) spot
  after_fails here bytes no_trees spot e key is = record { at = here; wrong = no_value is.leaf; told = same_fault here spot e }
  after_fails here bytes (and_trees tree later) spot e key is =
      elim (failed (value_at tree) (λ value. entries_of here later >>= λ rest. Ok ((bytes, value) ∷ rest)) spot e) [
        | first h ↦ turned spot (λ at wrong. this_value is.leaf wrong) (value_fails tree spot h)
        | second value h g ↦ elim (failed (entries_of here later) (λ rest. Ok ((bytes, value) ∷ rest)) spot g) [
          | first k ↦ turned spot (λ at wrong. later_entry is.leaf (value_takes tree value h) wrong) (entries_fail here later spot k)
          | second rest k l ↦ cc
        ]
      ]

-- ---- the whole list

only_fails : (tree : Tree) (trees : List Tree) (spot : Spot) → name_of tree ≡ codes "plist" → children_of tree ≡ trees → only tree trees ≡ Err spot → At (WrongList tree) spot
only_fails tree [] spot name split e = record { at = tree; wrong = no_item name split; told = same_fault tree spot e }
only_fails tree (item ∷ later) spot name split e =
    elim (failed (value_at item) (λ value. nothing later >>= λ end. Ok value) spot e) [
      | first h ↦ turned spot (λ at wrong. only_item name split wrong) (value_fails item spot h)
      | second value h g ↦ elim (failed (nothing later) (λ end. Ok value) spot g) [
        | first k ↦ turned spot (λ at is. second_item name (split ∙ ap (λ rest. item ∷ rest) is.split) (value_takes item value h)) (nothing_fails later spot k)
        | second end k l ↦ cc
      ]
    ]

list_fails_by : (tree : Tree) (spot : Spot) (test : Bool) → Decides test (name_of tree ≡ codes "plist") → cond test (only tree (children_of tree)) (fault tree) ≡ Err spot → At (WrongList tree) spot
list_fails_by tree spot true decides e = only_fails tree (children_of tree) spot (decides.0 refl) refl e
list_fails_by tree spot false decides e = record { at = tree; wrong = no_list (not_from_Decides false decides refl); told = same_fault tree spot e }

pub list_fails : (tree : Tree) (spot : Spot) → value_of tree ≡ Err spot → IsFault tree spot
unfolding value_of
list_fails tree spot e =
    let found = list_fails_by tree spot (bytes_eq (name_of tree) (codes "plist")) (bytes_eq-Decides (name_of tree) (codes "plist")) e in
    record { at = found.at; wrong = found.wrong; told = found.told }
