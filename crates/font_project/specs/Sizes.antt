-- Whether all outlines together are few enough: of each its points and four more are counted.
use Rattle.std.specs.Prelude.{ℕ, ◌+◌, pos, List, [], length, sum_by, Option, Some, None, Result, Ok, Err, if◌then◌else◌, nat_le, slice_get}
use Rattle.basics.specs.Reading.{◌>>=◌, in_turn, spot_of}
use Rattle.basics.specs.declared.kinds.Kind.TheVariants.{TooMuch}
use Rattle.basics.specs.declared.fault.Fault.{Fault}
use Rattle.glif.specs.declared.shape.Outline.{Outline}
use Rattle.font_project.specs.declared.outlined.OutlinedSource.{OutlinedSource}

-- of all sources
abbrev pub size_fault : ℕ → Fault
size_fault sum = record { path = []; spot = spot_of TooMuch [] 0 (pos sum) }

-- an outline's points, and four more
abbrev pub outline_size : Outline → ℕ
outline_size outline = sum_by length outline.contours + 4

-- a sum that isn't too much, else it is the fault
abbrev pub size_or : ℕ → Result ℕ Fault
size_or sum = if nat_le sum 16777216 then Ok sum else Err (size_fault sum)

abbrev pub with_outline : ℕ → Outline → Result ℕ Fault
with_outline sum outline = size_or (sum + outline_size outline)

unfoldable pub with_outlines : ℕ → List Outline → Result ℕ Fault
with_outlines sum outlines = in_turn with_outline sum outlines

abbrev pub with_source : ℕ → Option OutlinedSource → Result ℕ Fault
with_source sum None = Ok sum
with_source sum (Some source) = with_outlines sum source.outlines

-- the sum over the sources of these numbers, source by source and glyph by glyph, or the first one on the way that is too
-- much
abbrev pub size_of : List OutlinedSource → List ℕ → Result ℕ Fault
size_of sources numbers = in_turn (λ sum number. with_source sum (slice_get sources number)) 0 numbers

abbrev pub are_few : List OutlinedSource → List ℕ → Result (Unit {0}) Fault
are_few sources numbers = size_of sources numbers >>= λ _. Ok tt
