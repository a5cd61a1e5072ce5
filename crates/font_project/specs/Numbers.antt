-- The order of the sources in which the default's comes first.
use Rattle.std.specs.Prelude.{ℕ, zero, suc, ◌+◌, List, [], ◌∷◌, if◌then◌else◌, nat_eq}

-- so many numbers, counted on from one, without the default's
abbrev pub others_from : ℕ → ℕ → ℕ → List ℕ
others_from default zero number = []
others_from default (suc count) number =
    if nat_eq number default then others_from default count (number + 1) else number ∷ others_from default count (number + 1)

-- the numbers of so many sources: that of the default, and then the others in the document's order
unfoldable pub default_first : ℕ → ℕ → List ℕ
default_first default count = default ∷ others_from default count 0
