-- What a font has of the axes and the named instances of its design space.
use Rattle.std.specs.Prelude.{◌≡◌, ℕ, ℤ, List, map, Some, slice_get}
use Rattle.std.specs.List.{AllZip}
use Rattle.design_axes.specs.declared.axis.Axis.{Axis}
use Rattle.designspace.specs.declared.document.Designspace.{Designspace}
use Rattle.font_build.specs.FontReading.{axes_of_file, mapped_on, name_in}
use Rattle.font_tables.specs.FontAxes.{font_axes}
use Rattle.font_tables.specs.FontNames.{instance_names_of, labels_of}
use Rattle.norm_loc.specs.AvarPairs.{avar_at}
use Rattle.norm_loc.specs.PairBounds.{IsCoordinate}

-- the font's name of this id is this text
abbrev pub IsNamed : List ℕ → ℕ → List ℕ → Type 0
IsNamed file id text = name_in file id ≡ Some text

-- each normalised value on each axis becomes what the axis's map makes of it, on the lines between its pairs
abbrev pub MapsAsDesign : List Axis → List ℕ → Type 0
MapsAsDesign axes file =
    (index : ℕ) (axis : Axis) (v : ℤ) → slice_get axes index ≡ Some axis → IsCoordinate v → mapped_on file index v ≡ Some (avar_at axis.map v)

-- The axes with their tags, spans and whether they are hidden, and the instances with their user values, in order; the
-- id of each one's name; by these ids the labels of the axes and the names of the instances; and the maps of the axes.
pub record HasAxes (design : Designspace) (file : List ℕ) : Type 0 where
  pub axes : axes_of_file file ≡ Some (font_axes design)
  pub labels : AllZip (IsNamed file) (map (λ axis. axis.name_id) (font_axes design).axes) (labels_of design)
  pub instances : AllZip (IsNamed file) (map (λ instance. instance.name_id) (font_axes design).instances) (instance_names_of design)
  pub maps : MapsAsDesign design.axes file
