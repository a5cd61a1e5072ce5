-- Entries that are looked up by their names.
use Rattle.std.specs.Prelude.{ℕ, List, [], ◌∷◌, Option, Some, None, option_map, if◌then◌else◌}
use Rattle.std.specs.Str.{bytes_eq}
use Rattle.std.specs.Borrow.{Bor}
use Rattle.std.specs.HashMap.{HashMap, get_by}

-- the first entry of this name
abbrev pub entry_named : {X : Type 0} → List (List ℕ × X) → List ℕ → Option (List ℕ × X)
entry_named [] name = None
entry_named (entry ∷ entries) name = if bytes_eq entry.0 name then Some entry else entry_named entries name

-- ---- the entry that a map keeps at a name

abbrev pub kept_in : {X S : Type 0} → HashMap (Bor (List ℕ)) (Bor (List ℕ × X)) S → List ℕ → Option (Bor (List ℕ × X))
kept_in found name = get_by (λ (key : Bor (List ℕ)). bytes_eq name key.now) found

abbrev pub entry_in : {X S : Type 0} → HashMap (Bor (List ℕ)) (Bor (List ℕ × X)) S → List ℕ → Option (List ℕ × X)
entry_in found name = option_map (λ entry. entry.now) (kept_in found name)
