-- The numbers in attributes of a GLIF, each whole: the value, or the first fault.
use Rattle.std.specs.Prelude.{ℕ, ℤ, pos, negsuc, List, codes, unwrap_or, Result, Ok}
use Rattle.markup_rules.specs.Tree.{Tree}
use Rattle.basics.specs.Reading.{◌>>=◌}
use Rattle.basics.specs.declared.kinds.Kind.TheVariants.{CoordinateRange}
use Rattle.basics.specs.declared.fault.Spot.{Spot}
use Rattle.attributes.specs.Attributes.{whole, optional_whole}
use Rattle.attributes.specs.declared.limits.Limits.{Limits}

-- coordinates, and offsets of components
abbrev pub coordinates : Limits
coordinates = record { least = negsuc 16383; greatest = pos 16383; kind = CoordinateRange }

abbrev pub advance_widths : Limits
advance_widths = record { least = pos 0; greatest = pos 16383; kind = CoordinateRange }

-- a coordinate, which has to be there
unfoldable pub coordinate : List ℕ → Tree → Result ℤ Spot
coordinate name tree = whole coordinates name tree

-- an offset, 0 where the attribute is absent
unfoldable pub offset : List ℕ → Tree → Result ℤ Spot
offset name tree = optional_whole coordinates name tree >>= λ found. Ok (unwrap_or found (pos 0))

-- the width of an `advance`, 0 where the attribute is absent
unfoldable pub width : Tree → Result ℤ Spot
width tree = optional_whole advance_widths (codes "width") tree >>= λ found. Ok (unwrap_or found (pos 0))
