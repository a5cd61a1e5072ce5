-- The values of property lists, without how code keeps them.
use Rattle.std.specs.Prelude.{ℕ, Bool, List, [], ◌∷◌, Option, Some, None, option_and_then, if◌then◌else◌}
use Rattle.std.specs.Str.{bytes_eq}
use Rattle.plist.specs.declared.value.Value.{Value}
use Rattle.plist.specs.declared.value.Value.TheOpen as open_value
use Rattle.plist.specs.declared.value.Value.TheOpen.{Value-F}
use Rattle.plist.specs.declared.value.Value.TheFolds.{fold-Value}

mutual
  pub data PlainValue : Type 0 where
    text : (bytes : List ℕ) → PlainValue
    number : (bytes : List ℕ) → PlainValue
    truth : (holds : Bool) → PlainValue
    array : (items : PlainItems) → PlainValue
    dict : (entries : PlainEntries) → PlainValue
    other : PlainValue

  pub data PlainItems : Type 0 where
    no_items : PlainItems
    and_item : (first : PlainValue) (later : PlainItems) → PlainItems

  pub data PlainEntries : Type 0 where
    no_entries : PlainEntries
    and_entry : (key : List ℕ) (value : PlainValue) (later : PlainEntries) → PlainEntries

abbrev pub Entry : Type 0
Entry = List ℕ × PlainValue

abbrev pub items_from : List PlainValue → PlainItems
items_from [] = no_items
items_from (value ∷ values) = and_item value (items_from values)

abbrev pub items_in : PlainItems → List PlainValue
items_in no_items = []
items_in (and_item value later) = value ∷ items_in later

abbrev pub entries_from : List Entry → PlainEntries
entries_from [] = no_entries
entries_from (entry ∷ entries) = and_entry entry.0 entry.1 (entries_from entries)

abbrev pub entries_in : PlainEntries → List Entry
entries_in no_entries = []
entries_in (and_entry key value later) = (key, value) ∷ entries_in later

-- ---- what a value holds, if it is of the form asked for

abbrev pub as_text : PlainValue → Option (List ℕ)
as_text (text bytes) = Some bytes
as_text _ = None

abbrev pub as_number : PlainValue → Option (List ℕ)
as_number (number bytes) = Some bytes
as_number _ = None

abbrev pub as_bool : PlainValue → Option Bool
as_bool (truth holds) = Some holds
as_bool _ = None

abbrev pub as_array : PlainValue → Option (List PlainValue)
as_array (array items) = Some (items_in items)
as_array _ = None

abbrev pub as_dict : PlainValue → Option (List Entry)
as_dict (dict entries) = Some (entries_in entries)
as_dict _ = None

-- the value of a key, that of the first entry with it
abbrev pub at_key : List ℕ → List Entry → Option PlainValue
at_key key [] = None
at_key key (entry ∷ entries) = if bytes_eq entry.0 key then Some entry.1 else at_key key entries

abbrev pub get : List ℕ → PlainValue → Option PlainValue
get key value = option_and_then (at_key key) (as_dict value)

-- ---- the value that code holds

abbrev pub plain_step : Value-F PlainValue → PlainValue
plain_step (open_value.Text bytes) = text bytes
plain_step (open_value.Number bytes) = number bytes
plain_step (open_value.Bool holds) = truth holds
plain_step (open_value.Array items) = array (items_from items.items)
plain_step (open_value.Dict entries) = dict (entries_from entries.items)
plain_step open_value.Other = other

abbrev pub plain_value : Value → PlainValue
plain_value = fold-Value PlainValue plain_step

abbrev pub plain_entry : List ℕ × Value → Entry
plain_entry entry = (entry.0, plain_value entry.1)
