-- Of entries with equal keys the first alone: each key stands once, and its value is that of the first.
use Rattle.std.proofs.Common.{◌≡◌, ◌≢◌, ℕ, Bool, true, false, not, cond, List, [], ◌∷◌, Option, Some, refl, sym, ap, subst, ◌∙◌, arith}
use Rattle.std.specs.Prelude.{All}
use Rattle.std.specs.List.{AllPairs}
use Rattle.std.specs.Str.{bytes_eq}
use Rattle.std.proofs.lemmas.Slice.Eq.{bytes_eq-Decides}
use Rattle.std.proofs.lemmas.Bool.Decides.{not_from_Decides}
use Rattle.std.proofs.lemmas.List.Elements.{All-nil, All-cons}
use Rattle.std.proofs.lemmas.List.Kept.{AllPairs-cons, AllPairs-filter}
use Rattle.markup_rules.specs.Tree.{Tree}
use Rattle.plist.specs.Entries.{without, firsts}
use Rattle.plist.specs.Syntax.{IsValue, a_string, an_integer, a_real, a_true, a_false, an_array, a_dict, a_date, a_data, AreValues, no_values, and_value, AreEntries, none, and_pair, IsPropertyList, HasEachKeyOnce, ItemsHave, EntriesHave}
use Rattle.plist.specs.Values.{PlainValue, Entry, at_key, items_from, entries_from}
use Rattle.plist.proofs.PlainLemmas.{entries_again}

abbrev Differ : {V : Type 0} → List ℕ × V → List ℕ × V → Type 0
Differ earlier later = earlier.0 ≢ later.0

other_by : {V : Type 0} (entry later : List ℕ × V) (rest : List (List ℕ × V)) (equal : Bool) → (equal ≡ false → Differ entry later) → All (Differ entry) rest → All (Differ entry) (cond (not equal) (later ∷ rest) rest)
other_by entry later rest true differs all = all
other_by entry later rest false differs all = All-cons (Differ entry) later rest (differs refl) all

others : {V : Type 0} (entry : List ℕ × V) (entries : List (List ℕ × V)) → All (Differ entry) (without entry.0 entries)
others entry [] = All-nil (Differ entry)
others entry (later ∷ rest) =
    other_by entry later (without entry.0 rest) (bytes_eq entry.0 later.0) (not_from_Decides (bytes_eq entry.0 later.0) (bytes_eq-Decides entry.0 later.0)) (others entry rest)

pub firsts_once : {V : Type 0} (entries : List (List ℕ × V)) → AllPairs Differ (firsts entries)
firsts_once [] = λ i j d before within. absurd (omega arith)
firsts_once (entry ∷ entries) =
    AllPairs-cons Differ entry (without entry.0 (firsts entries)) (others entry (firsts entries)) (AllPairs-filter Differ (λ later. not (bytes_eq entry.0 later.0)) (firsts entries) (firsts_once entries))

-- ---- in a whole value

kept_by : (entry : Entry) (entries : List Entry) (kept : Bool) → HasEachKeyOnce entry.1 → EntriesHave (entries_from entries) → EntriesHave (entries_from (cond kept (entry ∷ entries) entries))
kept_by entry entries true this others = (this, others)
kept_by entry entries false this others = others

without_have : (key : List ℕ) (entries : List Entry) → EntriesHave (entries_from entries) → EntriesHave (entries_from (without key entries))
without_have key [] have = have
without_have key (entry ∷ entries) have = kept_by entry (without key entries) (not (bytes_eq key entry.0)) have.0 (without_have key entries have.1)

firsts_have : (entries : List Entry) → EntriesHave (entries_from entries) → EntriesHave (entries_from (firsts entries))
firsts_have [] have = have
firsts_have (entry ∷ entries) have = (have.0, without_have entry.0 (firsts entries) (firsts_have entries have.1))

mutual
  value_has : {tree : Tree} {value : PlainValue} → IsValue tree value → HasEachKeyOnce value
  value_has (a_string leaf) = tt
  value_has (an_integer leaf) = tt
  value_has (a_real leaf) = tt
  value_has (a_true leaf) = tt
  value_has (a_false leaf) = tt
  value_has (an_array named are) = items_have are
  value_has (a_dict {tree} {entries} named are) = (subst (AllPairs Differ) (sym (entries_again (firsts entries))) (firsts_once entries), firsts_have entries (entries_have are))
  value_has (a_date leaf) = tt
  value_has (a_data leaf) = tt

  items_have : {trees : List Tree} {values : List PlainValue} → AreValues trees values → ItemsHave (items_from values)
  items_have no_values = tt
  items_have (and_value is are) = (value_has is, items_have are)

  entries_have : {trees : List Tree} {entries : List Entry} → AreEntries trees entries → EntriesHave (entries_from entries)
  entries_have none = tt
  entries_have (and_pair leaf is are) = (value_has is, entries_have are)

pub list_has : (tree : Tree) (value : PlainValue) → IsPropertyList tree value → HasEachKeyOnce value
list_has tree value is = value_has is.means

-- ---- the value of a key

passed : (key : List ℕ) (entry : Entry) (entries : List Entry) → bytes_eq entry.0 key ≡ false → at_key key (entry ∷ entries) ≡ at_key key entries
passed key entry entries e = ap (λ test. cond {A = Option PlainValue} test (Some entry.1) (at_key key entries)) e

passed_by : (key : List ℕ) (entry : Entry) (kept all : List Entry) (equal : Bool) → (equal ≡ true → bytes_eq entry.0 key ≡ false) → at_key key kept ≡ at_key key all
    → at_key key (cond (not equal) (entry ∷ kept) kept) ≡ at_key key (entry ∷ all)
passed_by key entry kept all true differs e = e ∙ sym (passed key entry all (differs refl))
passed_by key entry kept all false differs e = ap (λ later. cond {A = Option PlainValue} (bytes_eq entry.0 key) (Some entry.1) later) e

at_without : (key other : List ℕ) (entries : List Entry) → bytes_eq other key ≡ false → at_key key (without other entries) ≡ at_key key entries
at_without key other [] differ = refl
at_without key other (entry ∷ entries) differ =
    passed_by key entry (without other entries) entries (bytes_eq other entry.0) (λ e. ap (λ k. bytes_eq k key) (sym ((bytes_eq-Decides other entry.0).0 e)) ∙ differ) (at_without key other entries differ)

found_by : (key : List ℕ) (entry : Entry) (kept all : List Entry) (equal : Bool) → (equal ≡ false → at_key key kept ≡ at_key key all)
    → cond {A = Option PlainValue} equal (Some entry.1) (at_key key kept) ≡ cond equal (Some entry.1) (at_key key all)
found_by key entry kept all true same = refl
found_by key entry kept all false same = same refl

pub first_counts : (key : List ℕ) (entries : List Entry) → at_key key (firsts entries) ≡ at_key key entries
first_counts key [] = refl
first_counts key (entry ∷ entries) =
    found_by key entry (without entry.0 (firsts entries)) entries (bytes_eq entry.0 key) (λ differ. at_without key entry.0 (firsts entries) differ ∙ first_counts key entries)
