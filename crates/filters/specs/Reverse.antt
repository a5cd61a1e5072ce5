-- What the filter `reverse` makes: contours drawn the other way round, from the same point.
use Rattle.std.specs.Prelude.{List, [], ◌∷◌, map, reverse}
use Rattle.glif.specs.declared.shape.Outline.{Outline}

-- what stands at the points of a contour, read the other way round: the first stays, the others follow in reverse
abbrev pub turned : {A : Type 0} → List A → List A
turned [] = []
turned (first ∷ others) = first ∷ reverse others

-- each contour the other way round, with the same advance width
abbrev pub reversed : Outline → Outline
reversed outline = record { advance = outline.advance; contours = map turned outline.contours }
