-- The file of a font.
use Rattle.std.specs.Prelude.{ℕ, List, map}
use Rattle.std.specs.List.{concat}
use Rattle.font_build.specs.declared.built.Built.{Built}

-- its pieces, one after another
abbrev pub file_of : Built → List ℕ
file_of built = concat (map (λ piece. piece.items) built.pieces)
