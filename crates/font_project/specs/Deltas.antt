-- Whether the deltas of every glyph fit 16 bits.
use Rattle.std.specs.Prelude.{ℕ, ℤ, pos, Bool, List, [], Option, Some, Result, Ok, Err, if◌then◌else◌}
use Rattle.basics.specs.Reading.{all_pass}
use Rattle.basics.specs.declared.kinds.Kind.TheVariants.{DeltaRange}
use Rattle.basics.specs.declared.fault.Fault.{Fault}
use Rattle.glif.specs.declared.shape.Outline.{Outline}
use Rattle.variation_rules.specs.declared.region.Triple.{Triple}
use Rattle.delta_solve.specs.GlyphModels.{delta_fault}
use Rattle.delta_solve.specs.declared.model.DeltaStop.{DeltaStop}
use Rattle.delta_solve.specs.declared.model.DeltaStop.TheVariants as stop
use Rattle.font_project.specs.Columns.{column}

-- a delta of a glyph that doesn't fit: the point, 1 for y, the master's number in the order of masters, and the delta
abbrev pub delta_range : List ℕ → ℕ → ℕ → Bool → ℤ → Fault
delta_range name master point y value = record {
  path = [];
  spot = record { kind = DeltaRange; item = name; at = point; also = if y then 1 else 0; first = pos master; second = value };
}

abbrev pub fits_or : List ℕ → Option DeltaStop → Result (Unit {0}) Fault
fits_or name (Some (stop.DeltaRange master point y value)) = Err (delta_range name master point y value)
fits_or name _ = Ok tt

-- those of the glyph of this number, of masters with these regions, locations and outlines
abbrev pub fits : List (List Triple) → List (List ℤ) → List (List Outline) → ℕ → List ℕ → Result (Unit {0}) Fault
fits regions locations rows glyph name = fits_or name (delta_fault regions locations (column rows glyph))

-- those of the glyphs of these names, or the first that doesn't fit
abbrev pub all_fit : List (List Triple) → List (List ℤ) → List (List Outline) → List (List ℕ) → Result (Unit {0}) Fault
all_fit regions locations rows names = all_pass (fits regions locations rows) 0 names
