-- The first difference between two outlines of a glyph in the kinds of their points, and between two drawings of it
-- in their components.
use Rattle.std.specs.Prelude.{ℕ, ◌+◌, ℤ, pos, ◌==◌, ◌&&◌, Bool, List, ◌∷◌, length, map, Option, Some, None, if◌then◌else◌, nat_eq}
use Rattle.std.proofs.Math.Bool.{beq}
use Rattle.std.specs.Option.{option_or}
use Rattle.std.specs.List.{common_prefix_len}
use Rattle.std.specs.Cmp.Lexicographic.{pointwise}
use Rattle.basics.specs.declared.kinds.Kind.TheVariants.{ComponentShape, ContourCount, PointCount, PointKind}
use Rattle.glif.specs.declared.shape.Point.{Point}
use Rattle.glif.specs.declared.shape.Outline.{Outline}
use Rattle.glif.specs.declared.shape.Component.{Component}
use Rattle.glif.specs.declared.shape.Drawing.{Drawing}
use Rattle.compat.specs.declared.compared.Difference.{Difference}

-- 1 for a point on the curve, 0 for one off it
abbrev pub kind_number : Point → ℤ
kind_number point = if point.on then pos 1 else pos 0

-- the first points of unlike kinds, in contours of as many points, the first two having this number
abbrev pub kind_difference : ℕ → ℕ → List Point → List Point → Option Difference
kind_difference contour number (first ∷ points) (second ∷ others) =
    if beq first.on second.on then kind_difference contour (number + 1) points others
    else Some (record { kind = PointKind; contour = contour; point = number; first = kind_number first; second = kind_number second })
kind_difference contour number _ _ = None

-- of two contours of this number: their point counts, or else the first points of unlike kinds
abbrev pub contour_difference : ℕ → List Point → List Point → Option Difference
contour_difference contour points others =
    if nat_eq (length points) (length others) then kind_difference contour 0 points others
    else Some (record { kind = PointCount; contour = contour; point = 0; first = pos (length points); second = pos (length others) })

-- of the first two contours that differ, the first of them having this number
abbrev pub contours_difference : ℕ → List (List Point) → List (List Point) → Option Difference
contours_difference number (points ∷ contours) (others ∷ more) =
    option_or (contour_difference number points others) (contours_difference (number + 1) contours more)
contours_difference number _ _ = None

-- of two outlines: their contour counts, or else the first contours that differ
abbrev pub outline_difference : Outline → Outline → Option Difference
outline_difference a b =
    if nat_eq (length a.contours) (length b.contours) then contours_difference 0 a.contours b.contours
    else Some (record { kind = ContourCount; contour = 0; point = 0; first = pos (length a.contours); second = pos (length b.contours) })

-- the names of the glyphs that a drawing has as components
abbrev pub bases : Drawing → List (List ℕ)
bases drawing = map (λ (component : Component). component.base) drawing.components

abbrev pub have_one_base : Component → Component → Bool
have_one_base a b = pointwise ◌==◌ a.base b.base

-- how many components two drawings begin with in common, by their bases
abbrev pub common_bases : Drawing → Drawing → ℕ
common_bases a b = common_prefix_len have_one_base a.components b.components

-- of two drawings: the number of the first components with unlike bases, or the shorter count where there is none,
-- with the two counts
abbrev pub base_difference : Drawing → Drawing → Option Difference
base_difference a b =
    if nat_eq (common_bases a b) (length a.components) && nat_eq (common_bases a b) (length b.components) then None
    else Some (record { kind = ComponentShape; contour = 0; point = common_bases a b; first = pos (length a.components); second = pos (length b.components) })
