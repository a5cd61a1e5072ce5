-- The parts of a designspace document, and how many there may be.
use Rattle.std.specs.Prelude.{ℕ, pos, nat_le, List, [], Option, Some, None, Result, Ok, Err, if◌then◌else◌}
use Rattle.markup_rules.specs.Tree.{Tree}
use Rattle.basics.specs.Reading.{spot_of}
use Rattle.basics.specs.declared.kinds.Kind.{Kind}
use Rattle.basics.specs.declared.fault.Spot.{Spot}
use Rattle.design_axes.specs.Elements.{first_named, named}

-- the children with a name of an element that may be absent, which then has none
abbrev pub named_in : List ℕ → Option Tree → List Tree
named_in name None = []
named_in name (Some tree) = named name tree

-- the items of the first list with a name
unfoldable pub listed : List ℕ → List ℕ → Tree → List Tree
listed list item tree = named_in item (first_named list tree)

-- at most so many, or a fault with a number and the count
unfoldable pub few : Kind → ℕ → ℕ → ℕ → Result (Unit {0}) Spot
few kind at most count = if nat_le count most then Ok tt else Err (spot_of kind [] at (pos count))
