-- The names of attributes that are looked up, where there may be many.
use Rattle.std.specs.Prelude.{◌≡◌, ℕ, List, Option, None, Some}
use Rattle.std.specs.List.{list_any}
use Rattle.std.specs.Str.{bytes_eq}
use Rattle.std.specs.declared.cmp.Ordering.{Ordering}
use Rattle.std.specs.Ordering.{nat_cmp}
use Rattle.std.specs.Cmp.Lexicographic.{slice_cmp}
use Rattle.std.specs.BTreeSet.{BTreeSet, contains}

abbrev pub text_cmp : List ℕ → List ℕ → Ordering
text_cmp = slice_cmp nat_cmp

-- the set, where there is one, has these names and no others
abbrev pub HasNames : Option (BTreeSet (List ℕ)) → List (List ℕ) → Type 0
HasNames None names = Unit {0}
HasNames (Some set) names = (name : List ℕ) → contains text_cmp set name ≡ list_any (bytes_eq name) names
