-- The sources of a design space (Designspace, "source"), or the first fault.
use Rattle.std.specs.Prelude.{ℕ, ◌==◌, Bool, false, ◌||◌, List, [], ◌∷◌, ◌++◌, length, codes, Result, Ok, if◌then◌else◌}
use Rattle.std.specs.Str.{bytes_eq}
use Rattle.markup_rules.specs.Tree.{Tree, attribute_of}
use Rattle.basics.specs.Reading.{◌>>=◌, each}
use Rattle.basics.specs.declared.kinds.Kind.TheVariants.{TooManySources}
use Rattle.basics.specs.declared.fault.Spot.{Spot}
use Rattle.attributes.specs.Attributes.{needed}
use Rattle.design_axes.specs.declared.axis.Axis.{Axis}
use Rattle.designspace.specs.Dimensions.{dimensions_of}
use Rattle.designspace.specs.Locations.{location_of}
use Rattle.designspace.specs.Parts.{few, listed}
use Rattle.designspace.specs.declared.source.Source.{Source}

-- 47 is the slash
abbrev pub is_absolute : List ℕ → Bool
is_absolute [] = false
is_absolute (byte ∷ bytes) = byte == 47

-- a name that is absolute, or in no folder, stands alone; the folder `/` ends with the slash already
unfoldable pub path_of : List ℕ → List ℕ → List ℕ
path_of folder filename =
    if is_absolute filename || (length folder == 0) then filename else
    (if bytes_eq folder (codes "/") then codes "/" ++ filename else folder ++ (codes "/" ++ filename))

unfoldable pub source_of : List ℕ → List Axis → Tree → Result Source Spot
source_of folder axes tree = do
  filename ← needed (codes "filename") tree
  dimensions ← dimensions_of axes tree
  Ok (record { path = path_of folder filename; layer = attribute_of (codes "layer") tree; location = location_of dimensions axes })

unfoldable pub sources_in : List ℕ → List Axis → List Tree → Result (List Source) Spot
sources_in folder axes trees = few TooManySources 0 128 (length trees) >>= λ _. each (source_of folder axes) trees

-- those of the first `sources`, none where it is absent
unfoldable pub sources_of : List ℕ → List Axis → Tree → Result (List Source) Spot
sources_of folder axes designspace = sources_in folder axes (listed (codes "sources") (codes "source") designspace)
