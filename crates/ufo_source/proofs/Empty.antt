-- The plain value of a dictionary without entries.
use Rattle.std.proofs.Common.{◌≡◌, ℕ, List, [], map, sym, ap, ◌∙◌, Vec}
use Rattle.std.specs.declared.alloc.Global.{Global}
use Rattle.plist.specs.declared.value.Value.{Value}
use Rattle.plist.specs.declared.value.Value.TheOpen as open_value
use Rattle.plist.specs.declared.value.Value.TheVariants.{Dict, rolls-Dict}
use Rattle.plist.specs.declared.value.Value.TheFolds.{fold-roll-Value}
use Rattle.plist.specs.Values.{PlainValue, dict, no_entries, entries_from, plain_entry, plain_step, plain_value}

pub plain_empty : (entries : Vec (List ℕ × Value) Global) → entries.items ≡ [] → plain_value (Dict entries) ≡ dict no_entries
plain_empty entries is =
    ap plain_value (sym (rolls-Dict entries)) ∙ fold-roll-Value PlainValue plain_step (open_value.Dict entries)
    ∙ ap (λ items. dict (entries_from (map plain_entry items))) is
