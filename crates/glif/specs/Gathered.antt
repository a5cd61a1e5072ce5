-- What the elements of a contour have given so far, where these are its elements up to now.
use Rattle.std.specs.Prelude.{◌≡◌, ℕ, Bool, true, false, List, [], ◌∷◌, codes, filter, Option, Some, None, Ok, Err, if◌then◌else◌}
use Rattle.basics.specs.declared.fault.Spot.{Spot}
use Rattle.markup_rules.specs.Tree.{Tree, at_of, is_named}
use Rattle.glif.specs.declared.shape.Point.{Point}
use Rattle.glif.specs.declared.point.PointType.{PointType}
use Rattle.glif.specs.declared.contour.Contour.{Contour}
use Rattle.glif.specs.declared.contour.ContourKind.{ContourKind}
use Rattle.glif.specs.declared.contour.ContourKind.TheVariants.{Empty, Anchor, Full}
use Rattle.glif.specs.declared.contour.Drawn.{Drawn}
use Rattle.glif.specs.Contours.{is_line, is_move, line_after_off, points_of, starts_with_move, type_of}

-- what a contour is with one more element `point`, of this type
abbrev pub with_point : ContourKind → PointType → ContourKind
with_point Empty kind = if is_move kind then Anchor else Full
with_point Anchor kind = Full
with_point Full kind = Full

-- whether it is passed over unread
abbrev pub is_passed : ContourKind → Bool
is_passed Empty = true
is_passed Anchor = true
is_passed Full = false

-- what it is by its elements `point`
abbrev pub kind_of : List Tree → ContourKind
kind_of [] = Empty
kind_of (tree ∷ []) = if is_move (type_of tree) then Anchor else Full
kind_of (tree ∷ other ∷ trees) = Full

-- the offset of the first element, where it ends a line
abbrev pub first_line : List Tree → Option ℕ
first_line [] = None
first_line (tree ∷ trees) = if is_line (type_of tree) then Some (at_of tree) else None

-- the offset of the first later one that ends a line from a point off the curve
abbrev pub later_line : List Tree → List Point → Option ℕ
later_line (tree ∷ trees) (point ∷ points) = line_after_off point.on trees points
later_line _ _ = None

pub record IsDrawn (drawn : Drawn) (trees : List Tree) : Type 0 where
  pub points : points_of trees ≡ Ok drawn.points
  pub is_open : drawn.is_open ≡ starts_with_move trees
  pub first_line : drawn.first_line ≡ first_line trees
  pub later_line : drawn.later_line ≡ later_line trees drawn.points

-- the elements have this first fault, or draw this
abbrev pub AreDrawn : Option Spot → Drawn → List Tree → Type 0
AreDrawn None drawn trees = IsDrawn drawn trees
AreDrawn (Some spot) drawn trees = points_of trees ≡ Err spot

pub record IsContour (contour : Contour) (trees : List Tree) : Type 0 where
  pub kind : contour.kind ≡ kind_of (filter (is_named (codes "point")) trees)
  pub drawn : AreDrawn contour.fault contour.drawn trees
