-- Whether the outlines of every source have the contours of the default's, with as many points of the same kinds.
use Rattle.std.specs.Prelude.{ℕ, List, Option, Some, None, Result, Ok, Err, slice_get}
use Rattle.basics.specs.Reading.{all_pass}
use Rattle.basics.specs.declared.fault.Fault.{Fault}
use Rattle.glif.specs.declared.shape.Outline.{Outline}
use Rattle.compat.specs.Differences.{outline_difference}
use Rattle.compat.specs.declared.compared.Difference.{Difference}
use Rattle.font_project.specs.declared.outlined.OutlinedSource.{OutlinedSource}

-- where the outline of a source's glyph differs from the default's
abbrev pub shape_fault : List ℕ → List ℕ → Difference → Fault
shape_fault folder name difference = record {
  path = folder;
  spot = record { kind = difference.kind; item = name; at = difference.contour; also = difference.point; first = difference.first; second = difference.second };
}

abbrev pub same_shape_or : List ℕ → List ℕ → Option Difference → Result (Unit {0}) Fault
same_shape_or folder name None = Ok tt
same_shape_or folder name (Some difference) = Err (shape_fault folder name difference)

-- of two outlines that are there
abbrev pub shapes_differ : Option Outline → Option Outline → Option Difference
shapes_differ (Some first) (Some second) = outline_difference first second
shapes_differ _ _ = None

abbrev pub has_shape : OutlinedSource → ℕ → List ℕ → ℕ → OutlinedSource → Result (Unit {0}) Fault
has_shape default glyph name _ source =
    same_shape_or source.folder name (shapes_differ (slice_get default.outlines glyph) (slice_get source.outlines glyph))

unfoldable pub has_shape_in_each : OutlinedSource → List OutlinedSource → ℕ → List ℕ → Result (Unit {0}) Fault
has_shape_in_each default sources glyph name = all_pass (has_shape default glyph name) 0 sources

-- the glyphs of these names do, or the first that doesn't in some source, with the first such source
abbrev pub have_shapes : List (List ℕ) → OutlinedSource → List OutlinedSource → Result (Unit {0}) Fault
have_shapes names default sources = all_pass (has_shape_in_each default sources) 0 names
