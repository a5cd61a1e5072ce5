-- What the element `component` draws (UFO 3, "GLIF", "component"), or its first fault.
use Rattle.std.specs.Prelude.{ℕ, ℤ, pos, int_le, ◌&&◌, List, codes, unwrap_or, Result, Ok, if◌then◌else◌}
use Rattle.markup_rules.specs.Tree.{Tree}
use Rattle.basics.specs.Reading.{◌>>=◌}
use Rattle.basics.specs.declared.kinds.Kind.TheVariants.{ScaledComponent}
use Rattle.basics.specs.declared.fault.Spot.{Spot}
use Rattle.glif.specs.declared.shape.Component.{Component}
use Rattle.attributes.specs.Attributes.{fault, needed, optional_decimal}
use Rattle.glif.specs.Numbers.{offset}

-- the number is the wanted one
abbrev pub unscaled : ℤ → Tree → ℤ → Result (Unit {0}) Spot
unscaled wanted tree n = if int_le wanted n && int_le n wanted then Ok tt else fault ScaledComponent tree

-- An attribute of the matrix is absent, or its number, rounded to 16 binary places, the one that neither scales nor
-- turns; wanted is its raw number.
unfoldable pub scale : ℤ → List ℕ → Tree → Result (Unit {0}) Spot
scale wanted name tree = optional_decimal name tree >>= λ found. unscaled wanted tree (unwrap_or found wanted)

-- the component draws its base as it is, but moved
unfoldable pub matrix : Tree → Result (Unit {0}) Spot
matrix tree = do
  x ← scale (pos 65536) (codes "xScale") tree
  y ← scale (pos 65536) (codes "yScale") tree
  xy ← scale (pos 0) (codes "xyScale") tree
  scale (pos 0) (codes "yxScale") tree

unfoldable pub component_of : Tree → Result Component Spot
component_of tree = do
  base ← needed (codes "base") tree
  plain ← matrix tree
  dx ← offset (codes "xOffset") tree
  dy ← offset (codes "yOffset") tree
  Ok (record { base = base; dx = dx; dy = dy })
