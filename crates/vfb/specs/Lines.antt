-- The lines that are said.
use Rattle.std.specs.Prelude.{◌≡◌, ℕ, List, [], ◌∷◌, ◌++◌, codes, decimal, ◌⊎◌}
use Rattle.std.specs.List.{concat}
use Rattle.std.specs.Fmt.{signed_decimal}
use Rattle.outside.specs.Files.{IsPrefix}
use Rattle.basics.specs.Kinds.{kind_name}
use Rattle.basics.specs.declared.fault.Fault.{Fault}
use Rattle.vfb.specs.Calls.{Misuse, words, called_filter}

-- an empty text is shown as a dash
abbrev pub or_dash : List ℕ → List ℕ
or_dash [] = codes "-"
or_dash (b ∷ bytes) = b ∷ bytes

abbrev pub refused_line : Fault → List ℕ
refused_line fault = concat (codes "refused " ∷ kind_name fault.spot.kind ∷ codes " " ∷ or_dash fault.path ∷ codes " " ∷ or_dash fault.spot.item ∷ codes " "
    ∷ decimal fault.spot.at ∷ codes " " ∷ decimal fault.spot.also ∷ codes " " ∷ signed_decimal fault.spot.first ∷ codes " " ∷ signed_decimal fault.spot.second ∷ codes "\n" ∷ [])

abbrev pub usage_line : Misuse → List ℕ
usage_line words = codes "usage words\n"
usage_line (called_filter name) = concat (codes "usage filter " ∷ name ∷ codes "\n" ∷ [])

abbrev pub read_fault_line : List ℕ → List ℕ
read_fault_line path = concat (codes "read fault " ∷ path ∷ codes "\n" ∷ [])

abbrev pub write_fault_line : List ℕ → List ℕ
write_fault_line path = concat (codes "write fault " ∷ path ∷ codes "\n" ∷ [])

abbrev pub no_memory_line : List ℕ
no_memory_line = codes "no memory\n"

-- so many tuples with so many explicit points among so many points
abbrev pub counts_line : ℕ → ℕ → ℕ → List ℕ
counts_line tuples explicit points =
    concat (codes "tuples " ∷ decimal tuples ∷ codes " explicit " ∷ decimal explicit ∷ codes " of " ∷ decimal points ∷ codes "\n" ∷ [])

-- the text went from old to new by a line, which is cut short only where the count of faults rose
abbrev pub AddsLine : Type 0 → List ℕ → List ℕ → List ℕ → Type 0
AddsLine risen line old new = (new ≡ old ++ line) ⊎ (risen × IsPrefix old new × IsPrefix new (old ++ line))

-- the lines of how many glyphs, masters and axes a font has
abbrev pub design_lines : ℕ → ℕ → ℕ → List ℕ
design_lines glyphs masters axes = concat (codes "glyphs " ∷ decimal glyphs ∷ codes "\nmasters " ∷ decimal masters ∷ codes "\naxes " ∷ decimal axes ∷ codes "\n" ∷ [])

-- those of how many tuples it has, and how many points these name among all
abbrev pub variation_lines : ℕ → ℕ → ℕ → List ℕ
variation_lines tuples explicit points =
    concat (codes "tuples " ∷ decimal tuples ∷ codes "\nexplicit " ∷ decimal explicit ∷ codes " of " ∷ decimal points ∷ codes "\n" ∷ [])

-- the five lines that are said of a font
abbrev pub summary : ℕ → ℕ → ℕ → ℕ → ℕ → ℕ → List ℕ
summary glyphs masters axes tuples explicit points = design_lines glyphs masters axes ++ variation_lines tuples explicit points
