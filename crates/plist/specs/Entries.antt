-- The entries of a dictionary, each a key with its value.
use Rattle.std.specs.Prelude.{ℕ, not, List, [], ◌∷◌, filter}
use Rattle.std.specs.Str.{bytes_eq}

abbrev pub without : {V : Type 0} → List ℕ → List (List ℕ × V) → List (List ℕ × V)
without key entries = filter (λ entry. not (bytes_eq key entry.0)) entries

-- of entries with equal keys the first alone
abbrev pub firsts : {V : Type 0} → List (List ℕ × V) → List (List ℕ × V)
firsts [] = []
firsts (entry ∷ entries) = entry ∷ without entry.0 (firsts entries)
