-- What the tag of a glyph tells, and which of its elements is the one whose own elements are read.
use Rattle.std.specs.Prelude.{ℕ, Bool, ◌&&◌, List, codes, Result, is_none, if◌then◌else◌}
use Rattle.basics.specs.Reading.{◌>>=◌}
use Rattle.basics.specs.declared.fault.Spot.{Spot}
use Rattle.basics.specs.declared.kinds.Kind.TheVariants.{NotGlif}
use Rattle.markup_rules.specs.Tree.{Tree, is_named}
use Rattle.attributes.specs.Attributes.{fault, needed}
use Rattle.glif.specs.declared.glyph.Seen.{Seen}
use Rattle.glif.specs.Glyphs.{format_of}

-- the name of the glyph, or the first fault of its tag
unfoldable pub opened : Tree → Result (List ℕ) Spot
opened tree = if is_named (codes "glyph") tree then (format_of tree >>= λ format. needed (codes "name") tree) else fault NotGlif tree

-- an `outline` with none before it
abbrev pub is_first_outline : Seen → Tree → Bool
is_first_outline seen tree = is_none seen.shapes && is_named (codes "outline") tree
