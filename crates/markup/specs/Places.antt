-- Where a reader stands.
use Rattle.std.specs.Prelude.{ℕ, ◌||◌, List, [], ◌∷◌, reverse, map, Option, None, Some}
use Rattle.std.specs.Borrow.{Bor}
use Rattle.markup_rules.specs.Faults.{Context}
use Rattle.markup_rules.specs.Reading.{is_nil}
use Rattle.markup.specs.declared.place.Place.{Place}

-- the innermost name, and those around it, of which the outermost stands first
abbrev pub names_from : Option (Bor (List ℕ)) → List (Bor (List ℕ)) → List (List ℕ)
names_from None outer = []
names_from (Some innermost) outer = innermost.now ∷ reverse (map (λ (name : Bor (List ℕ)). name.now) outer)

abbrev pub context_at : Place → Context
context_at p = record { names = names_from p.innermost p.outer.items; rooted = p.is_rooted; declared = p.is_declared }

-- the context in an element that begins, and after one that is its tag alone
abbrev pub entered : List ℕ → Context → Context
entered name context = record context { names = name ∷ context.names }

abbrev pub passed : Context → Context
passed context = record context { rooted = is_nil context.names || context.rooted }
