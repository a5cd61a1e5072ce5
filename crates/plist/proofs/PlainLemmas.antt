-- The plain value of each variant, and of the values and the entries in it.
use Rattle.std.proofs.Common.{◌≡◌, ℕ, List, [], ◌∷◌, Some, map, refl, sym, ap, ◌∙◌, Vec}
use Rattle.std.specs.declared.alloc.Global.{Global}
use Rattle.plist.specs.declared.value.Value.{Value}
use Rattle.plist.specs.declared.value.Value.TheOpen as open_value
use Rattle.plist.specs.declared.value.Value.TheOpen.{Value-F}
use Rattle.plist.specs.declared.value.Value.TheVariants.{Array, Dict, rolls-Array, rolls-Dict}
use Rattle.plist.specs.declared.value.Value.TheFolds.{fold-roll-Value}
use Rattle.plist.specs.Values.{PlainValue, array, dict, Entry, items_from, items_in, entries_from, entries_in, as_array, as_dict, plain_entry, plain_step, plain_value}

pub items_again : (values : List PlainValue) → items_in (items_from values) ≡ values
items_again [] = refl
items_again (value ∷ values) = ap (λ vs. value ∷ vs) (items_again values)

pub entries_again : (entries : List Entry) → entries_in (entries_from entries) ≡ entries
entries_again [] = refl
entries_again (entry ∷ entries) = ap (λ es. entry ∷ es) (entries_again entries)

pub plain_array : (items : Vec Value Global) → plain_value (Array items) ≡ array (items_from (map plain_value items.items))
plain_array items = ap plain_value (sym (rolls-Array items)) ∙ fold-roll-Value PlainValue plain_step (open_value.Array items)

pub plain_dict : (entries : Vec (List ℕ × Value) Global) → plain_value (Dict entries) ≡ dict (entries_from (map plain_entry entries.items))
plain_dict entries = ap plain_value (sym (rolls-Dict entries)) ∙ fold-roll-Value PlainValue plain_step (open_value.Dict entries)

pub array_plain : (items : Vec Value Global) → as_array (plain_value (Array items)) ≡ Some (map plain_value items.items)
array_plain items = ap as_array (plain_array items) ∙ ap Some (items_again (map plain_value items.items))

pub dict_plain : (entries : Vec (List ℕ × Value) Global) → as_dict (plain_value (Dict entries)) ≡ Some (map plain_entry entries.items)
dict_plain entries = ap as_dict (plain_dict entries) ∙ ap Some (entries_again (map plain_entry entries.items))
