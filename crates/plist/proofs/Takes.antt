-- What is read is a property list of that value.
use Rattle.std.proofs.Common.{◌≡◌, ℕ, Bool, true, false, cond, ◌||◌, ◌⊎◌, inl, inr, List, [], ◌∷◌, Ok, Err, refl, ap, subst, ◌∙◌}
use Rattle.std.specs.Prelude.{Result, codes}
use Rattle.std.specs.Str.{bytes_eq}
use Rattle.std.proofs.lemmas.Slice.Eq.{bytes_eq-Decides}
use Rattle.std.proofs.lemmas.Bool.Decides.{Decides-or}
use Rattle.basics.specs.Reading.{◌>>=◌}
use Rattle.basics.specs.declared.fault.Spot.{Spot}
use Rattle.markup_rules.specs.Tree.{Tree, node, Trees, no_trees, and_trees, list_of, children_of, name_of, text_of}
use Rattle.plist.specs.declared.form.Form.{Form}
use Rattle.plist.specs.declared.form.Form.TheVariants.{Text, Number, True, False, Array, Dict, Unread, Unknown}
use Rattle.plist.specs.Entries.{firsts}
use Rattle.plist.specs.Reading.{fault, form_of, nothing, own_text, key_of, value_by, value_at, items_of, entries_of, entries_after, only, value_of}
use Rattle.plist.specs.Syntax.{IsLeaf, IsValue, a_string, an_integer, a_real, a_true, a_false, an_array, a_dict, a_date, a_data, AreValues, no_values, and_value, AreEntries, none, and_pair, IsPropertyList}
use Rattle.plist.specs.Values.{PlainValue, Entry, text, number, truth, array, dict, other, items_from, entries_from}

-- ---- steps of a reading

abbrev pub Read : Type 0 → Type 0
Read A = Result A Spot

or_else : {A : Type 0} → Read A → A → A
or_else (Ok x) d = x
or_else (Err _) d = d

same : {A : Type 0} (x y : A) → (let found : Read A = Ok x in found ≡ Ok y) → x ≡ y
unfolding or_else
same x y e = ap (λ found. or_else found x) e

record Steps {A B : Type 0} (read : Read A) (next : A → Read B) (end : B) : Type 0 where
  step : A
  reads : read ≡ Ok step
  goes : next step ≡ Ok end

steps : {A B : Type 0} (read : Read A) (next : A → Read B) (end : B) → (read >>= next) ≡ Ok end → Steps read next end
steps (Ok x) next end e = record { step = x; reads = refl; goes = e }
steps (Err f) next end e = cc

record Chosen {A : Type 0} (test : Bool) (read : Read A) (end : A) : Type 0 where
  passed : test ≡ true
  reads : read ≡ Ok end

chosen : {A : Type 0} (test : Bool) (read : Read A) (tree : Tree) (end : A) → cond test read (fault tree) ≡ Ok end → Chosen test read end
chosen true read tree end e = record { passed = refl; reads = e }
chosen false read tree end e = cc

named : (tree : Tree) (name : List ℕ) → bytes_eq (name_of tree) name ≡ true → name_of tree ≡ name
named tree name = (bytes_eq-Decides (name_of tree) name).0

-- ---- elements without elements in them

empty_takes : (trees : List Tree) (end : Unit {0}) → nothing trees ≡ Ok end → trees ≡ []
empty_takes [] end e = refl
empty_takes (tree ∷ trees) end e = cc

record Text' (tree : Tree) (bytes : List ℕ) : Type 0 where
  empty : children_of tree ≡ []
  means : text_of tree ≡ bytes

text_takes : (tree : Tree) (bytes : List ℕ) → own_text tree ≡ Ok bytes → Text' tree bytes
unfolding own_text
text_takes tree bytes e =
    let at = steps (nothing (children_of tree)) (λ _. Ok (text_of tree)) bytes e in
    record { empty = empty_takes (children_of tree) at.step at.reads; means = same (text_of tree) bytes at.goes }

pub record Key (tree : Tree) (bytes : List ℕ) : Type 0 where
  pub leaf : IsLeaf (codes "key") tree
  means : text_of tree ≡ bytes

pub key_takes : (tree : Tree) (bytes : List ℕ) → key_of tree ≡ Ok bytes → Key tree bytes
unfolding key_of
key_takes tree bytes e =
    let all = chosen (bytes_eq (name_of tree) (codes "key")) (own_text tree) tree bytes e in
    let own = text_takes tree bytes all.reads in
    record { leaf = record { named = named tree (codes "key") all.passed; empty = own.empty }; means = own.means }

-- ---- the form by the name

abbrev pub Told : List ℕ → Form → Type 0
Told name Text = name ≡ codes "string"
Told name Number = (name ≡ codes "integer") ⊎ (name ≡ codes "real")
Told name True = name ≡ codes "true"
Told name False = name ≡ codes "false"
Told name Array = name ≡ codes "array"
Told name Dict = name ≡ codes "dict"
Told name Unread = (name ≡ codes "date") ⊎ (name ≡ codes "data")
Told name Unknown = Unit {0}

told_by : (name : List ℕ) (test : Bool) (form later : Form) → (test ≡ true → Told name form) → Told name later → Told name (cond test form later)
told_by name true form later this others = this refl
told_by name false form later this others = others

pub told : (name : List ℕ) → Told name (form_of name)
told name =
    let is : (word : List ℕ) → bytes_eq name word ≡ true → name ≡ word = λ word. (bytes_eq-Decides name word).0 in
    let either : (word other : List ℕ) → (bytes_eq name word || bytes_eq name other) ≡ true → (name ≡ word) ⊎ (name ≡ other) =
    λ word other. (Decides-or _ _ (bytes_eq-Decides name word) (bytes_eq-Decides name other)).0 in
    told_by name _ Text _ (is (codes "string")) (told_by name _ Number _ (either (codes "integer") (codes "real"))
    (told_by name _ True _ (is (codes "true")) (told_by name _ False _ (is (codes "false"))
    (told_by name _ Array _ (is (codes "array")) (told_by name _ Dict _ (is (codes "dict"))
    (told_by name _ Unread Unknown (either (codes "date") (codes "data")) tt))))))

-- ---- values by their forms

leaf_by : (tree : Tree) (bytes : List ℕ) (make : List ℕ → PlainValue) (value : PlainValue) → Text' tree bytes → make bytes ≡ value → IsValue tree (make (text_of tree)) → IsValue tree value
leaf_by tree bytes make value own e is = subst (IsValue tree) (ap make own.means ∙ e) is

alone_by : (tree : Tree) (made value : PlainValue) → (name : List ℕ) → name_of tree ≡ name → (nothing (children_of tree) >>= λ _. Ok made) ≡ Ok value → (IsLeaf name tree → IsValue tree made) → IsValue tree value
alone_by tree made value name named e is =
    let at = steps (nothing (children_of tree)) (λ _. Ok made) value e in
    subst (IsValue tree) (same made value at.goes) (is (record { named = named; empty = empty_takes (children_of tree) at.step at.reads }))

text_by : (tree : Tree) (make : List ℕ → PlainValue) (value : PlainValue) (name : List ℕ) → name_of tree ≡ name → (own_text tree >>= λ bytes. Ok (make bytes)) ≡ Ok value → (IsLeaf name tree → IsValue tree (make (text_of tree))) → IsValue tree value
text_by tree make value name named e is =
    let at = steps (own_text tree) (λ bytes. Ok (make bytes)) value e in
    let own = text_takes tree at.step at.reads in
    subst (IsValue tree) (ap make own.means ∙ same (make at.step) value at.goes) (is (record { named = named; empty = own.empty }))

by_form : (form : Form) (tree : Tree) (items : Read (List PlainValue)) (entries : Read (List Entry)) (value : PlainValue) → Told (name_of tree) form
    → ((values : List PlainValue) → items ≡ Ok values → AreValues (children_of tree) values)
    → ((all : List Entry) → entries ≡ Ok all → AreEntries (children_of tree) all)
    → value_by form tree items entries ≡ Ok value → IsValue tree value
by_form Text tree items entries value name take_items take_entries e = text_by tree text value (codes "string") name e a_string
by_form Number tree items entries value (inl name) take_items take_entries e = text_by tree number value (codes "integer") name e an_integer
by_form Number tree items entries value (inr name) take_items take_entries e = text_by tree number value (codes "real") name e a_real
by_form True tree items entries value name take_items take_entries e = alone_by tree (truth true) value (codes "true") name e a_true
by_form False tree items entries value name take_items take_entries e = alone_by tree (truth false) value (codes "false") name e a_false
by_form Array tree items entries value name take_items take_entries e =
    let at = steps items (λ values. Ok (array (items_from values))) value e in
    subst (IsValue tree) (same _ value at.goes) (an_array name (take_items at.step at.reads))
by_form Dict tree items entries value name take_items take_entries e =
    let at = steps entries (λ all. Ok (dict (entries_from (firsts all)))) value e in
    subst (IsValue tree) (same _ value at.goes) (a_dict name (take_entries at.step at.reads))
by_form Unread tree items entries value (inl name) take_items take_entries e = alone_by tree other value (codes "date") name e a_date
by_form Unread tree items entries value (inr name) take_items take_entries e = alone_by tree other value (codes "data") name e a_data
by_form Unknown tree items entries value name take_items take_entries e = cc

mutual
  pub value_takes : (tree : Tree) (value : PlainValue) → value_at tree ≡ Ok value → IsValue tree value
  value_takes (node name attributes children own at) value e =
      let tree = node name attributes children own at in
      by_form (form_of name) tree (items_of children) (entries_of tree children) value (told name) (λ values h. items_take children values h) (λ all h. entries_take tree children all h) e

  items_take : (trees : Trees) (values : List PlainValue) → items_of trees ≡ Ok values → AreValues (list_of trees) values
  items_take no_trees values e = subst (AreValues []) (same [] values e) no_values
  items_take (and_trees tree later) values e =
      let first = steps (value_at tree) (λ value. items_of later >>= λ rest. Ok (value ∷ rest)) values e in
      let others = steps (items_of later) (λ rest. Ok (first.step ∷ rest)) values first.goes in
      subst (AreValues (tree ∷ list_of later)) (same _ values others.goes) (and_value (value_takes tree first.step first.reads) (items_take later others.step others.reads))

  entries_take : (here : Tree) (trees : Trees) (all : List Entry) → entries_of here trees ≡ Ok all → AreEntries (list_of trees) all
  entries_take here no_trees all e = subst (AreEntries []) (same [] all e) none
  entries_take here (and_trees tree later) all e =
      let key = steps (key_of tree) (λ bytes. entries_after here bytes later) all e in
      after_takes here key.step later all key.goes tree (key_takes tree key.step key.reads)

  after_takes : (here : Tree) (bytes : List ℕ) (trees : Trees) (all : List Entry) → entries_after here bytes trees ≡ Ok all → (key : Tree) → Key key bytes → AreEntries (key ∷ list_of trees) all
  after_takes here bytes no_trees all e key is = cc
  after_takes here bytes (and_trees tree later) all e key is =
      let first = steps (value_at tree) (λ value. entries_of here later >>= λ rest. Ok ((bytes, value) ∷ rest)) all e in
      let others = steps (entries_of here later) (λ rest. Ok ((bytes, first.step) ∷ rest)) all first.goes in
      subst (AreEntries (key ∷ tree ∷ list_of later)) (ap (λ name. (name, first.step) ∷ others.step) is.means ∙ same _ all others.goes)
      (and_pair is.leaf (value_takes tree first.step first.reads) (entries_take here later others.step others.reads))

-- ---- the whole list

record Single (trees : List Tree) (value : PlainValue) : Type 0 where
  inside : Tree
  single : trees ≡ inside ∷ []
  means : IsValue inside value

only_takes : (tree : Tree) (trees : List Tree) (value : PlainValue) → only tree trees ≡ Ok value → Single trees value
only_takes tree [] value e = cc
only_takes tree (first ∷ later) value e =
    let at = steps (value_at first) (λ found. nothing later >>= λ end. Ok found) value e in
    let end = steps (nothing later) (λ end. Ok at.step) value at.goes in
    record { inside = first; single = ap (λ rest. first ∷ rest) (empty_takes later end.step end.reads); means = value_takes first value (at.reads ∙ ap Ok (same at.step value end.goes)) }

pub list_takes : (tree : Tree) (value : PlainValue) → value_of tree ≡ Ok value → IsPropertyList tree value
unfolding value_of
list_takes tree value e =
    let all = chosen (bytes_eq (name_of tree) (codes "plist")) (only tree (children_of tree)) tree value e in
    let one = only_takes tree (children_of tree) value all.reads in
    record { named = named tree (codes "plist") all.passed; inside = one.inside; single = one.single; means = one.means }
