-- The start of an element after its <, read without a look for its end first.
use Rattle.std.specs.Prelude.{◌≡◌, ℕ, Bool, true, false, List, [], ◌∷◌, Option, Some, None, is_some, ◌==◌, if◌then◌else◌}
use Rattle.markup_rules.specs.Bytes.{starts_name}
use Rattle.markup_rules.specs.Syntax.{firsts}
use Rattle.markup_rules.specs.Reading.{many, name_at, attribute_at, Item, tag, Opening, Markup, start, empty}
use Rattle.basics.specs.Bytes.{is_blank, after_run}
use Rattle.basics.specs.Optional.{◌>>=◌}

-- > at the start, and what follows it; 62 is >
abbrev pub ended_by : Bool → List ℕ → Option (Bool × List ℕ)
ended_by slash [] = None
ended_by slash (b ∷ bytes) = if b == 62 then Some (slash, bytes) else None

-- > or /> at the start: whether a slash stands there, and what follows
abbrev pub mark_at : List ℕ → Option (Bool × List ℕ)
mark_at [] = None
mark_at (b ∷ bytes) = if b == 47 then ended_by true bytes else ended_by false (b ∷ bytes)

-- the same after blanks: where no attribute is left
unfoldable pub end_at : List ℕ → Option (Bool × List ℕ)
end_at bytes = mark_at (after_run is_blank bytes)

abbrev pub has_end : List ℕ → Bool
has_end bytes = is_some (end_at bytes)

abbrev pub Ending : Type 0
Ending = (List (List ℕ × List ℕ) × Bool) × List ℕ

-- attributes up to the end of their tag, of those with one name the first; then whether a slash stands there, and what follows
unfoldable pub attributes_to_end : List ℕ → Option Ending
attributes_to_end bytes = do
  attributes ← many has_end attribute_at bytes
  end ← end_at attributes.1
  Some ((firsts [] attributes.0, end.0), end.1)

abbrev pub opened_as : Opening → Bool → Markup
opened_as opening slash = if slash then empty opening else start opening

-- an element's start after its <, and what follows its >
unfoldable pub opening_at : List ℕ → Option (Markup × List ℕ)
opening_at bytes = do
  name ← name_at bytes
  attributes ← attributes_to_end name.1
  Some (opened_as (record { name = name.0; attributes = attributes.0.0 }) attributes.0.1, attributes.1)

-- a tag begins with no name
abbrev pub IsNoOpening : Item → Type 0
IsNoOpening (tag body) = starts_name body ≡ false
IsNoOpening _ = Unit {0}
