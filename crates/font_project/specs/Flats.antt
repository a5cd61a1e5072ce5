-- What flattening the drawings of a source gives: the outline of each glyph with its components drawn into it, or the
-- one fault of the source, which `compat` tells. A source has one of them, and only one.
use Rattle.std.specs.Prelude.{◌≡◌, ℕ, List}
use Rattle.std.specs.List.{AllZip}
use Rattle.basics.specs.declared.fault.Stop.TheVariants.{At}
use Rattle.glif.specs.declared.shape.Drawing.{Drawing}
use Rattle.compat.specs.Flattened.{AreFlattened, IsRefused}
use Rattle.font_project.specs.declared.drawn.DrawnSource.{DrawnSource}
use Rattle.font_project.specs.declared.flat.Flat.{Flat}
use Rattle.font_project.specs.declared.flat.Flat.TheVariants.{Outlines, Refused}
use Rattle.font_project.specs.declared.flat.FlatSource.{FlatSource}

abbrev pub IsFlat : List Drawing → Flat → Type 0
IsFlat drawings (Outlines outlines) = AreFlattened drawings outlines
IsFlat drawings (Refused spot) = (number : ℕ) × IsRefused drawings number (At spot)

-- a source before and after
pub record IsFlatSource (drawn : DrawnSource) (source : FlatSource) : Type 0 where
  pub folder : source.folder ≡ drawn.folder
  pub flat : IsFlat drawn.drawings source.flat

abbrev pub AreFlatSources : List DrawnSource → List FlatSource → Type 0
AreFlatSources drawn sources = AllZip IsFlatSource drawn sources
