-- The designspace document of a font, and the order of its sources.
use Rattle.std.specs.Prelude.{ℕ, ◌==◌, ℤ, pos, List, [], codes, length, map, Option, Some, None, Result, Ok, Err, if◌then◌else◌}
use Rattle.std.specs.Path.{rsplit_once}
use Rattle.outside.specs.Files.{Files}
use Rattle.basics.specs.Reading.{◌>>=◌}
use Rattle.basics.specs.declared.kinds.Kind.{Kind}
use Rattle.basics.specs.declared.kinds.Kind.TheVariants.{NoDefaultSource, SameLocation}
use Rattle.basics.specs.declared.fault.Fault.{Fault}
use Rattle.basics.specs.declared.fault.Spot.{Spot}
use Rattle.source_files.specs.Trees.{in_file, tree_at}
use Rattle.region_support.specs.Sorting.{model_fault, order_of}
use Rattle.region_support.specs.declared.sorting.ModelStop.{ModelStop}
use Rattle.region_support.specs.declared.sorting.ModelStop.TheVariants as model
use Rattle.designspace.specs.Document.{designspace_of}
use Rattle.designspace.specs.declared.document.Designspace.{Designspace}
use Rattle.designspace.specs.declared.source.Source.{Source}

-- ---- the document

-- The folder of a file is what stands before the last slash of its path, which is byte 47. That slash alone is the
-- folder where it is the first byte; and without one there is no folder.
abbrev pub or_root : List ℕ → List ℕ
or_root folder = if length folder == 0 then codes "/" else folder

abbrev pub folder_or : Option (List ℕ × List ℕ) → List ℕ
folder_or None = []
folder_or (Some parts) = or_root parts.0

unfoldable pub folder_of : List ℕ → List ℕ
folder_of path = folder_or (rsplit_once 47 path)

-- what the document of this path tells, or the first fault
unfoldable pub document_at : Files → List ℕ → Result Designspace Fault
document_at files path = tree_at files path >>= λ tree. in_file path (designspace_of (folder_of path) tree)

-- ---- the order of the sources

abbrev pub locations_of : List Source → List (List ℤ)
locations_of sources = map (λ source. source.location.items) sources

-- a fault of the locations of two sources, which are told by their numbers
abbrev pub location_fault : Kind → ℕ → ℕ → Spot
location_fault kind at also = record { kind = kind; item = []; at = at; also = also; first = pos 0; second = pos 0 }

abbrev pub order_or : Option ModelStop → List ℕ → Result (List ℕ) Spot
order_or (Some model.NoDefault) order = Err (location_fault NoDefaultSource 0 0)
order_or (Some (model.SameLocation first second)) order = Err (location_fault SameLocation first second)
order_or _ order = Ok order

abbrev pub ordered : List (List ℤ) → Result (List ℕ) Spot
ordered locations = order_or (model_fault locations) (order_of locations)

-- The numbers of the sources in the order of masters, where one is at the default and no two at one location; or else the
-- fault of the document, whose path this is.
unfoldable pub master_order : List ℕ → List Source → Result (List ℕ) Fault
master_order path sources = in_file path (ordered (locations_of sources))
