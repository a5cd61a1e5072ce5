-- The masters of a glyph that a command's drawings are, in their order, or the first fault.
use Rattle.std.specs.Prelude.{◌≡◌, ℕ, ℤ, pos, ◌≤◌, Bool, List, [], ◌∷◌, length, map, All, Option, Some, None, Result, Ok, Err, if◌then◌else◌, slice_index_or}
use Rattle.outside.specs.Files.{Files}
use Rattle.basics.specs.Reading.{◌>>=◌}
use Rattle.basics.specs.declared.kinds.Kind.{Kind}
use Rattle.basics.specs.declared.kinds.Kind.TheVariants.{NoDefaultSource, SameLocation, DeltaRange}
use Rattle.basics.specs.declared.fault.Fault.{Fault}
use Rattle.glif.specs.Limits.{IsWithinLimits}
use Rattle.glif.specs.declared.shape.Outline.{Outline}
use Rattle.glif.specs.declared.shape.Drawing.{Drawing}
use Rattle.region_support.specs.MasterOrder.{AreMasters, axes_of}
use Rattle.region_support.specs.Sorting.{model_fault, order_of, locations_at}
use Rattle.region_support.specs.Regions.{regions_of, AreNormalisedLocations}
use Rattle.region_support.specs.declared.sorting.ModelStop.{ModelStop}
use Rattle.region_support.specs.declared.sorting.ModelStop.TheVariants as model
use Rattle.compat.specs.Differences.{outline_difference}
use Rattle.compat.specs.declared.compared.Difference.{Difference}
use Rattle.delta_solve.specs.GlyphModels.{AreAlike, delta_fault}
use Rattle.delta_solve.specs.declared.model.DeltaStop.{DeltaStop}
use Rattle.delta_solve.specs.declared.model.DeltaStop.TheVariants as delta
use Rattle.commands.specs.Command.{Located, Tuples}
use Rattle.commands.specs.Proper.{locations_of_drawings}
use Rattle.vfb.specs.Faults.{drawings_of}

-- The masters of a glyph in their order, the default first: its name, which is the default's, the location of each
-- master, and what it draws.
pub record Masters : Type 0 where
  pub name : List ℕ
  pub locations : List (List ℤ)
  pub outlines : List Outline

-- ---- the locations

-- a fault of the drawings' locations, which has no path
abbrev pub location_fault : Kind → ℕ → ℕ → Fault
location_fault kind at also = record {
  path = [];
  spot = record { kind = kind; item = []; at = at; also = also; first = pos 0; second = pos 0 };
}

abbrev pub order_or : Option ModelStop → List ℕ → Result (List ℕ) Fault
order_or (Some model.NoDefault) order = Err (location_fault NoDefaultSource 0 0)
order_or (Some (model.SameLocation first second)) order = Err (location_fault SameLocation first second)
order_or _ order = Ok order

-- the numbers of the drawings in the order of masters
abbrev pub ordered : List (List ℤ) → Result (List ℕ) Fault
ordered listed = order_or (model_fault listed) (order_of listed)

-- ---- the contours

-- where a drawing differs from the default's: the fault of its file, with the glyph's name, which is the default's
abbrev pub difference_fault : List ℕ → List ℕ → Difference → Fault
difference_fault name path difference = record {
  path = path;
  spot = record { kind = difference.kind; item = name; at = difference.contour; also = difference.point; first = difference.first; second = difference.second };
}

abbrev pub alike_or : List ℕ → List ℕ → Option Difference → Result (Unit {0}) Fault
alike_or name path None = Ok tt
alike_or name path (Some difference) = Err (difference_fault name path difference)

-- all have contours like the default's, of as many points of the same kinds; else the first difference is refused
abbrev pub all_alike : Drawing → List Located → List Drawing → Result (Unit {0}) Fault
all_alike default (located ∷ more) (drawing ∷ others) =
    alike_or default.name located.path (outline_difference default.outline drawing.outline) >>= λ _. all_alike default more others
all_alike default _ _ = Ok tt

-- ---- the masters

abbrev pub nothing_drawn : Drawing
nothing_drawn = record { name = []; outline = record { advance = pos 0; contours = [] }; components = []; codes = [] }

abbrev pub drawing_numbered : List Drawing → ℕ → Drawing
drawing_numbered drawings number = slice_index_or drawings number nothing_drawn

-- that of the default, whose number is the first in order
abbrev pub default_drawing : List Drawing → List ℕ → Drawing
default_drawing drawings order = drawing_numbered drawings (slice_index_or order 0 0)

abbrev pub masters_in : List (List ℤ) → List Drawing → List ℕ → Masters
masters_in listed drawings order = record {
  name = (default_drawing drawings order).name;
  locations = locations_at listed order;
  outlines = map (λ number. (drawing_numbered drawings number).outline) order;
}

-- the masters that the drawings are, as they stand
abbrev pub gathered : List Located → List Drawing → Result Masters Fault
gathered located drawings =
    ordered (locations_of_drawings located) >>= λ order.
    all_alike (default_drawing drawings order) located drawings >>= λ _.
    Ok (masters_in (locations_of_drawings located) drawings order)

-- ---- the deltas

-- a delta that doesn't fit 16 bits: the glyph, the point, 1 for y, the master's number in order, and the delta
abbrev pub range_fault : List ℕ → ℕ → ℕ → Bool → ℤ → Fault
range_fault name master point y value = record {
  path = [];
  spot = record { kind = DeltaRange; item = name; at = point; also = if y then 1 else 0; first = pos master; second = value };
}

abbrev pub masters_or : Option DeltaStop → Masters → Result Masters Fault
masters_or (Some (delta.DeltaRange master point y value)) masters = Err (range_fault masters.name master point y value)
masters_or _ masters = Ok masters

-- the masters, where all their deltas fit
abbrev pub fitting : Masters → Result Masters Fault
fitting masters = masters_or (delta_fault (regions_of masters.locations) masters.locations masters.outlines) masters

-- The masters of a command's glyph, or the first fault: that of the first file that has one, of the locations, of the
-- first drawing whose contours aren't like the default's, and of the first delta that doesn't fit.
abbrev pub masters_of : Files → Tuples → Result Masters Fault
masters_of files command =
    drawings_of files command.drawings >>= λ drawings.
    gathered command.drawings drawings >>= λ masters.
    fitting masters

-- ---- what holds of masters that were gathered

pub record AreGathered (masters : Masters) : Type 0 where
  pub ordered : AreMasters (axes_of masters.locations) masters.locations
  pub some_axes : 1 ≤ axes_of masters.locations
  pub few_axes : axes_of masters.locations ≤ 8
  pub normalised : AreNormalisedLocations masters.locations
  pub few : length masters.locations ≤ 128
  pub one_each : length masters.outlines ≡ length masters.locations
  pub within : All IsWithinLimits masters.outlines
  pub alike : AreAlike masters.outlines
