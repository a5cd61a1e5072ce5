-- Whether the components of each source name glyphs, and lead to no glyph again.
use Rattle.std.specs.Prelude.{ℕ, Bool, true, false, List, Option, Some, None, Result, Ok, Err, if◌then◌else◌, slice_get}
use Rattle.basics.specs.Reading.{all_pass}
use Rattle.basics.specs.declared.kinds.Kind.{Kind}
use Rattle.basics.specs.declared.kinds.Kind.TheVariants.{DanglingComponent, ComponentCycle}
use Rattle.basics.specs.declared.fault.Fault.{Fault}
use Rattle.source_files.specs.Trees.{fault_at}
use Rattle.font_project.specs.declared.flat.Flat.{Flat}
use Rattle.font_project.specs.declared.flat.Flat.TheVariants.{Outlines, Refused}
use Rattle.font_project.specs.declared.flat.FlatSource.{FlatSource}

-- a fault of where components lead
abbrev pub is_unresolved : Kind → Bool
is_unresolved DanglingComponent = true
is_unresolved ComponentCycle = true
is_unresolved _ = false

abbrev pub resolved_or : List ℕ → Flat → Result (Unit {0}) Fault
resolved_or folder (Outlines outlines) = Ok tt
resolved_or folder (Refused spot) = if is_unresolved spot.kind then Err (fault_at folder spot) else Ok tt

abbrev pub is_resolved : Option FlatSource → Result (Unit {0}) Fault
is_resolved None = Ok tt
is_resolved (Some source) = resolved_or source.folder source.flat

-- the sources of these numbers have no such fault, or the first that has one
abbrev pub are_resolved : List FlatSource → List ℕ → Result (Unit {0}) Fault
are_resolved sources numbers = all_pass (λ _ number. is_resolved (slice_get sources number)) 0 numbers
