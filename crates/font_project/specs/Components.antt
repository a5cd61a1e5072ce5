-- Whether the glyphs of every source have the components of the default's: those of the same glyphs, in the same order.
use Rattle.std.specs.Prelude.{ℕ, List, Option, Some, None, Result, Ok, Err, slice_get}
use Rattle.basics.specs.Reading.{all_pass}
use Rattle.basics.specs.declared.fault.Fault.{Fault}
use Rattle.glif.specs.declared.shape.Drawing.{Drawing}
use Rattle.compat.specs.Differences.{base_difference}
use Rattle.compat.specs.declared.compared.Difference.{Difference}
use Rattle.font_project.specs.declared.drawn.DrawnSource.{DrawnSource}

-- where the components of a source's glyph differ from the default's
abbrev pub component_fault : List ℕ → List ℕ → Difference → Fault
component_fault folder name difference = record {
  path = folder;
  spot = record { kind = difference.kind; item = name; at = difference.point; also = 0; first = difference.first; second = difference.second };
}

abbrev pub same_bases_or : List ℕ → List ℕ → Option Difference → Result (Unit {0}) Fault
same_bases_or folder name None = Ok tt
same_bases_or folder name (Some difference) = Err (component_fault folder name difference)

-- of two drawings that are there
abbrev pub bases_differ : Option Drawing → Option Drawing → Option Difference
bases_differ (Some first) (Some second) = base_difference first second
bases_differ _ _ = None

abbrev pub has_bases : DrawnSource → ℕ → List ℕ → ℕ → DrawnSource → Result (Unit {0}) Fault
has_bases default glyph name _ source =
    same_bases_or source.folder name (bases_differ (slice_get default.drawings glyph) (slice_get source.drawings glyph))

unfoldable pub has_bases_in_each : DrawnSource → List DrawnSource → ℕ → List ℕ → Result (Unit {0}) Fault
has_bases_in_each default sources glyph name = all_pass (has_bases default glyph name) 0 sources

-- the glyphs of these names do, or the first that doesn't in some source, with the first such source
abbrev pub have_bases : List (List ℕ) → DrawnSource → List DrawnSource → Result (Unit {0}) Fault
have_bases names default sources = all_pass (has_bases_in_each default sources) 0 names
