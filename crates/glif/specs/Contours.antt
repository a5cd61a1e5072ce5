-- What the element `contour` draws (UFO 3, "GLIF", "contour" and "point"), or its first fault.
use Rattle.std.specs.Prelude.{ℕ, ◌-◌, pos, Bool, true, false, not, ◌&&◌, List, [], ◌∷◌, length, codes, filter, Option, Some, None, Result, Ok, Err, nat_le, slice_get, if◌then◌else◌}
use Rattle.std.specs.Str.{bytes_eq}
use Rattle.markup_rules.specs.Tree.{Tree, at_of, attribute_of, children_of, is_named}
use Rattle.basics.specs.Reading.{◌>>=◌, each, spot_of}
use Rattle.basics.specs.declared.kinds.Kind.TheVariants.{NotGlif, Curve, OpenContour, LineAfterOff, TooManyPoints}
use Rattle.basics.specs.declared.fault.Spot.{Spot}
use Rattle.glif.specs.declared.shape.Point.{Point}
use Rattle.glif.specs.declared.point.PointType.{PointType}
use Rattle.glif.specs.declared.point.PointType.TheVariants.{Off, Line, Quadratic, Cubic, Move, Unknown}
use Rattle.attributes.specs.Attributes.{fault, fault_at}
use Rattle.glif.specs.Numbers.{coordinate}

-- ---- points

-- the type of a point by its text, which is exact
abbrev pub type_by : Option (List ℕ) → PointType
type_by None = Off
type_by (Some text) =
    if bytes_eq text (codes "offcurve") then Off else
    (if bytes_eq text (codes "line") then Line else
    (if bytes_eq text (codes "qcurve") then Quadratic else
    (if bytes_eq text (codes "curve") then Cubic else
    (if bytes_eq text (codes "move") then Move else Unknown))))

abbrev pub type_of : Tree → PointType
type_of tree = type_by (attribute_of (codes "type") tree)

abbrev pub is_move : PointType → Bool
is_move Move = true
is_move _ = false

abbrev pub is_line : PointType → Bool
is_line Line = true
is_line _ = false

-- whether a point of this type is on the curve; a move may stand first, and makes an open contour
abbrev pub on_by : Bool → ℕ → PointType → Result Bool Spot
on_by first at Off = Ok false
on_by first at Line = Ok true
on_by first at Quadratic = Ok true
on_by first at Cubic = fault_at Curve [] at
on_by true at Move = Ok true
on_by false at Move = fault_at NotGlif [] at
on_by first at Unknown = fault_at NotGlif [] at

-- the first point of a contour, or another one
unfoldable pub point_of : Bool → Tree → Result Point Spot
point_of first tree =
    if is_named (codes "point") tree then (do
      x ← coordinate (codes "x") tree
      y ← coordinate (codes "y") tree
      on ← on_by first (at_of tree) (type_of tree)
      Ok (record { x = x; y = y; on = on })) else fault NotGlif tree

abbrev pub points_of : List Tree → Result (List Point) Spot
points_of [] = Ok []
points_of (tree ∷ trees) = point_of true tree >>= λ point. each (point_of false) trees >>= λ points. Ok (point ∷ points)

-- ---- what is tested of a contour after its points

abbrev pub starts_with_move : List Tree → Bool
starts_with_move [] = false
starts_with_move (tree ∷ trees) = is_move (type_of tree)

-- the offset of the first line that comes from a point off the curve, where on says whether the point before is on it
abbrev pub line_after_off : Bool → List Tree → List Point → Option ℕ
line_after_off on (tree ∷ trees) (point ∷ points) = if is_line (type_of tree) && not on then Some (at_of tree) else line_after_off point.on trees points
line_after_off on _ _ = None

abbrev pub is_on : Option Point → Bool
is_on None = true
is_on (Some point) = point.on

-- round the contour the last point stands before the first
abbrev pub ends_on : List Point → Bool
ends_on points = is_on (slice_get points (length points - 1))

abbrev pub lined : List Point → Option ℕ → Result (List Point) Spot
lined points None = Ok points
lined points (Some at) = Err (spot_of LineAfterOff [] at (pos 0))

-- the points of a contour, where there are at most 1,024, the contour is closed, and no line begins off the curve
unfoldable pub closed : Tree → List Point → Result (List Point) Spot
closed tree points =
    if nat_le (length points) 1024 then
    (if starts_with_move (children_of tree) then fault OpenContour tree else
    lined points (line_after_off (ends_on points) (children_of tree) points))
    else Err (spot_of TooManyPoints [] (at_of tree) (pos (length points)))

-- ---- contours

-- A contour without points is none, nor is a single point of the type move, with which editors of old wrote an
-- anchor. Such contours are passed over unread.
abbrev pub is_passed_over : List Tree → Bool
is_passed_over [] = true
is_passed_over (tree ∷ []) = is_move (type_of tree)
is_passed_over (tree ∷ other ∷ trees) = false

abbrev pub point_elements : Tree → List Tree
point_elements tree = filter (is_named (codes "point")) (children_of tree)

-- the points, or nothing of a contour that is passed over
unfoldable pub contour_of : Tree → Result (Option (List Point)) Spot
contour_of tree =
    if is_passed_over (point_elements tree) then Ok None else
    (points_of (children_of tree) >>= λ points. closed tree points >>= λ contour. Ok (Some contour))
