-- Whether the flattened outlines of each source are within limits, and the outlines of the sources.
use Rattle.std.specs.Prelude.{ℕ, List, [], map, All, Option, Some, None, Result, Ok, Err, slice_get}
use Rattle.basics.specs.Reading.{all_pass}
use Rattle.basics.specs.declared.fault.Fault.{Fault}
use Rattle.glif.specs.Limits.{IsWithinLimits}
use Rattle.glif.specs.declared.shape.Outline.{Outline}
use Rattle.source_files.specs.Trees.{fault_at}
use Rattle.font_project.specs.declared.flat.Flat.{Flat}
use Rattle.font_project.specs.declared.flat.Flat.TheVariants.{Outlines, Refused}
use Rattle.font_project.specs.declared.flat.FlatSource.{FlatSource}
use Rattle.font_project.specs.declared.outlined.OutlinedSource.{OutlinedSource}

-- ---- whether they are

abbrev pub flat_or : List ℕ → Flat → Result (Unit {0}) Fault
flat_or folder (Outlines outlines) = Ok tt
flat_or folder (Refused spot) = Err (fault_at folder spot)

abbrev pub is_flat : Option FlatSource → Result (Unit {0}) Fault
is_flat None = Ok tt
is_flat (Some source) = flat_or source.folder source.flat

-- The sources of these numbers have outlines, or the fault of the first that hasn't. Where their components are resolved
-- it is one of too many points or of a coordinate out of range.
abbrev pub are_flat : List FlatSource → List ℕ → Result (Unit {0}) Fault
are_flat sources numbers = all_pass (λ _ number. is_flat (slice_get sources number)) 0 numbers

-- ---- the outlines

abbrev pub outlines_in : Flat → List Outline
outlines_in (Outlines outlines) = outlines
outlines_in (Refused spot) = []

abbrev pub outlined_source : FlatSource → OutlinedSource
outlined_source source = record { folder = source.folder; outlines = outlines_in source.flat }

abbrev pub outlined_sources : List FlatSource → List OutlinedSource
outlined_sources sources = map outlined_source sources

-- all of a source's are within limits
abbrev pub AreOutlinesWithin : OutlinedSource → Type 0
AreOutlinesWithin source = All IsWithinLimits source.outlines
