-- What is kept of a glyph while its text is read: where in the glyph the text stands, and what the elements before have
-- given. Frames are the open elements, the innermost first.
use Rattle.std.specs.Prelude.{◌≡◌, ℕ, zero, suc, true, List, [], ◌∷◌, ◌++◌, map, codes, Option, Some, Result, Ok}
use Rattle.basics.specs.Reading.{◌>>=◌, in_turn}
use Rattle.basics.specs.declared.fault.Spot.{Spot}
use Rattle.markup_rules.specs.Tree.{Tree, Trees, node, no_trees, is_named}
use Rattle.markup_rules.specs.Outcome.{Frame}
use Rattle.glif.specs.declared.glyph.Seen.{Seen}
use Rattle.glif.specs.declared.outline.Shapes.{Shapes}
use Rattle.glif.specs.declared.shape.Point.{Point}
use Rattle.glif.specs.declared.part.Glyph.{Glyph}
use Rattle.glif.specs.declared.part.OpenOutline.{OpenOutline}
use Rattle.glif.specs.declared.part.OpenContour.{OpenContour}
use Rattle.glif.specs.declared.part.Place.{Place}
use Rattle.glif.specs.declared.part.Place.TheVariants as place
use Rattle.glif.specs.declared.part.DrawingPart.{DrawingPart}
use Rattle.glif.specs.Gathered.{IsContour}
use Rattle.glif.specs.Glyphs.{child_of, drawing_of, no_shapes, nothing_seen, shape_of, with_contour}
use Rattle.glif.specs.Opened.{is_first_outline, opened}

-- an element by its tag alone
abbrev pub tag_of : Frame → Tree
tag_of f = node f.name f.attributes no_trees [] f.at

abbrev pub tag_alone : Tree → Tree
tag_alone (node name attributes children text at) = node name attributes no_trees [] at

-- an element that goes on to have these children and this text
abbrev pub going_on : Frame → Trees → List ℕ → Tree
going_on f children text = node f.name f.attributes children text f.at

-- an element with one more child
abbrev pub with_child : Frame → Tree → Frame
with_child f tree = record f { children = f.children ++ tree ∷ [] }

abbrev pub with_seen : List ℕ → Result Seen Spot → Result Glyph Spot
with_seen name seen = seen >>= λ seen. Ok (record { name = name; seen = seen })

-- the glyph of a name, of which nothing is seen
abbrev pub named : Result (List ℕ) Spot → Result Glyph Spot
named name = name >>= λ name. with_seen name (Ok nothing_seen)

-- the glyph with what its outline draws
abbrev pub with_outline : Glyph → Result Shapes Spot → Result Glyph Spot
with_outline glyph shapes = shapes >>= λ shapes. with_seen glyph.name (Ok (record glyph.seen { shapes = Some shapes }))

-- the shapes with a contour after them
abbrev pub with_points : Shapes → Result (Option (List Point)) Spot → Result Shapes Spot
with_points shapes contour = contour >>= λ points. Ok (with_contour shapes points)

-- the glyph as far as its elements have ended
abbrev pub glyph_of : Frame → Result Glyph Spot
glyph_of g = opened (tag_of g) >>= λ name. with_seen name (in_turn child_of nothing_seen g.children)

-- o is the first outline of the glyph g
pub record IsInOutline (here : OpenOutline) (o g : Frame) : Type 0 where
  pub before : glyph_of g ≡ Ok here.glyph
  pub first : is_first_outline here.glyph.seen (tag_of o) ≡ true
  pub at : here.at ≡ o.at
  pub shapes : in_turn shape_of no_shapes o.children ≡ here.shapes

-- c is a contour of the outline o, of which no element before is faulty
pub record IsInContour (here : OpenContour) (c o g : Frame) : Type 0 where
  pub outline : IsInOutline (record { glyph = here.glyph; at = here.outline; shapes = Ok here.shapes }) o g
  pub named : is_named (codes "contour") (tag_of c) ≡ true
  pub at : here.at ≡ c.at
  pub contour : IsContour here.contour (map tag_alone c.children)

-- where the text stands, with these open elements and this root
abbrev pub IsPlace : Place → Option Tree → List Frame → Type 0
IsPlace place.Before root [] = Unit {0}
IsPlace (place.Glyph glyph) root (g ∷ []) = glyph_of g ≡ glyph
IsPlace (place.Outline outline) root (o ∷ g ∷ []) = IsInOutline outline o g
IsPlace (place.Contour contour) root (c ∷ o ∷ g ∷ []) = IsInContour contour c o g
IsPlace (place.After drawing) (Some tree) [] = drawing_of tree ≡ drawing
IsPlace _ _ _ = ⊥

-- So many of the innermost elements are passed over: what is kept is what the others give, however those go on and end.
abbrev pub IsPassed : (List Frame → Type 0) → ℕ → List Frame → Type 0
IsPassed Is zero frames = Is frames
IsPassed Is (suc n) [] = ⊥
IsPassed Is (suc n) (f ∷ []) = ⊥
IsPassed Is (suc n) (f ∷ p ∷ frames) = (children : Trees) (text : List ℕ) → IsPassed Is n (with_child p (going_on f children text) ∷ frames)

abbrev pub IsKept : DrawingPart → Option Tree → List Frame → Type 0
IsKept part root frames = IsPassed (IsPlace part.place root) part.passed frames
