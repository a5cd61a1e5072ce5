-- Points of plain drawings: the elements of a contour are read as its points.
use Rattle.std.proofs.Common.{◌≡◌, ℕ, zero, suc, ◌+◌, ◌-◌, ◌≤◌, Bool, true, false, ◌&&◌, List, [], ◌∷◌, length, map, Some, None, Ok, Result, refl, ap, ◌∙◌, arith}
use Rattle.std.specs.Prelude.{ℤ, pos, negsuc, ◌≤ℤ◌, int_le, codes, All, filter, slice_get}
use Rattle.std.proofs.lemmas.Bool.{cond-true, and_from, le-leb}
use Rattle.std.proofs.lemmas.Int.{ints}
use Rattle.std.proofs.lemmas.List.Elements.{All-head, All-tail}
use Rattle.fixpoint.specs.declared.decimal.NumberFault.{NumberFault}
use Rattle.markup_rules.specs.Tree.{Tree, node, no_trees, at_of, attribute_of, children_of, is_named}
use Rattle.markup_rules.specs.Syntax.{tag_then, children_from}
use Rattle.basics.specs.Reading.{◌>>=◌, each}
use Rattle.glif.specs.declared.shape.Point.{Point}
use Rattle.attributes.specs.Attributes.{number_or_fault, needed, ranged, whole, whole_in}
use Rattle.attributes.specs.declared.limits.Limits.{Limits}
use Rattle.glif.specs.Numbers.{coordinate, coordinates}
use Rattle.glif.specs.Contours.{point_of, points_of, type_of, is_move, is_on, ends_on, line_after_off, is_passed_over, closed, contour_of}
use Rattle.glif.specs.Limits.{IsPointWithin, IsContourWithin}
use Rattle.glif.specs.Printed.{Number, PrintedPoint, number_text, value_of, IsNumber, IsPrintedPoint}
use Rattle.glif.specs.Printed as plain
use Rattle.glif.proofs.PrintedNumbers.{number_reads}
use Rattle.glif.proofs.PrintedTexts.{point_tag, points_inside}

-- ---- numbers within limits

int_le_true : (a b : ℤ) → a ≤ℤ b → int_le a b ≡ true
int_le_true a b le = grind (arith, ints)

ranged_within : (limits : Limits) (name : List ℕ) (tree : Tree) (n : ℤ) → limits.least ≤ℤ n → n ≤ℤ limits.greatest → ranged limits name tree n ≡ Ok n
unfolding ranged
ranged_within limits name tree n low high =
    cond-true (int_le limits.least n && int_le n limits.greatest) _ _ (and_from (int_le limits.least n) (int_le n limits.greatest) (int_le_true limits.least n low) (int_le_true n limits.greatest high))

pub whole_reads : (limits : Limits) (name : List ℕ) (tree : Tree) (n : Number) → IsNumber n → limits.least ≤ℤ value_of n → value_of n ≤ℤ limits.greatest → whole_in limits name tree (number_text n) ≡ Ok (value_of n)
unfolding whole_in
whole_reads limits name tree n is low high =
    ap (λ (r : Result ℤ NumberFault). number_or_fault name (at_of tree) r >>= ranged limits name tree) (number_reads n is) ∙ ranged_within limits name tree (value_of n) low high

coordinate_reads : (name : List ℕ) (tree : Tree) (n : Number) → IsNumber n → attribute_of name tree ≡ Some (number_text n) → negsuc 16383 ≤ℤ value_of n → value_of n ≤ℤ pos 16383 → coordinate name tree ≡ Ok (value_of n)
unfolding coordinate whole needed
coordinate_reads name tree n is found low high = rw found (whole_reads coordinates name tree n is low high)

-- ---- one point

abbrev point_tree : ℕ → PrintedPoint → Tree
point_tree at p = node (codes "point") ((codes "x", number_text p.0) ∷ (codes "y", number_text p.1) ∷ (codes "type", codes "line") ∷ []) no_trees [] at

point_reads : (first : Bool) (at : ℕ) (p : PrintedPoint) → IsPrintedPoint p → IsPointWithin (plain.point_of p) → point_of first (point_tree at p) ≡ Ok (plain.point_of p)
unfolding point_of
point_reads first at p is within =
    let tree = point_tree at p in
    rw (coordinate_reads (codes "x") tree p.0 is.0 refl within.least_x within.greatest_x, coordinate_reads (codes "y") tree p.1 is.1 refl within.least_y within.greatest_y) refl

-- ---- all points of a contour

-- the elements of the points, from an offset on
abbrev point_trees : ℕ → List PrintedPoint → List Tree
point_trees at ps = children_from at (points_inside ps)

-- where the element after a point begins
abbrev after : ℕ → PrintedPoint → ℕ
after at p = at + 1 + length (tag_then (point_tag (number_text p.0) (number_text p.1)) (codes "/>"))

each_step : {A B F : Type 0} (f : A → Result B F) (t : A) (ts : List A) (x : B) (xs : List B) → f t ≡ Ok x → each f ts ≡ Ok xs → each f (t ∷ ts) ≡ Ok (x ∷ xs)
each_step f t ts x xs one more = rw (one, more) refl

each_reads : (at : ℕ) (ps : List PrintedPoint) → All IsPrintedPoint ps → All IsPointWithin (map plain.point_of ps) → each (point_of false) (point_trees at ps) ≡ Ok (map plain.point_of ps)
each_reads at [] printed within = refl
each_reads at (p ∷ ps) printed within =
    let tail = All-tail IsPointWithin (plain.point_of p) (map plain.point_of ps) within in
    each_step (point_of false) (point_tree (at + 1) p) (point_trees (after at p) ps) (plain.point_of p) (map plain.point_of ps)
    (point_reads false (at + 1) p (All-head IsPrintedPoint p ps printed) (All-head IsPointWithin (plain.point_of p) (map plain.point_of ps) within))
    (each_reads (after at p) ps (All-tail IsPrintedPoint p ps printed) tail)

points_step : (t : Tree) (ts : List Tree) (x : Point) (xs : List Point) → point_of true t ≡ Ok x → each (point_of false) ts ≡ Ok xs → points_of (t ∷ ts) ≡ Ok (x ∷ xs)
points_step t ts x xs one more = rw (one, more) refl

points_reads : (at : ℕ) (p : PrintedPoint) (ps : List PrintedPoint) → All IsPrintedPoint (p ∷ ps) → All IsPointWithin (map plain.point_of (p ∷ ps)) → points_of (point_trees at (p ∷ ps)) ≡ Ok (map plain.point_of (p ∷ ps))
points_reads at p ps printed within =
    let tail = All-tail IsPointWithin (plain.point_of p) (map plain.point_of ps) within in
    points_step (point_tree (at + 1) p) (point_trees (after at p) ps) (plain.point_of p) (map plain.point_of ps)
    (point_reads true (at + 1) p (All-head IsPrintedPoint p ps printed) (All-head IsPointWithin (plain.point_of p) (map plain.point_of ps) within))
    (each_reads (after at p) ps (All-tail IsPrintedPoint p ps printed) tail)

-- ---- what is tested of a contour

not_passed_over : (tree : Tree) (trees : List Tree) → is_move (type_of tree) ≡ false → is_passed_over (tree ∷ trees) ≡ false
not_passed_over tree [] still = still
not_passed_over tree (other ∷ trees) still = refl

contour_is_read : (at : ℕ) (p : PrintedPoint) (ps : List PrintedPoint) → is_passed_over (filter (is_named (codes "point")) (point_trees at (p ∷ ps))) ≡ false
contour_is_read at p ps = not_passed_over (point_tree (at + 1) p) (filter (is_named (codes "point")) (point_trees (after at p) ps)) refl

all_on : (ps : List PrintedPoint) (k : ℕ) → is_on (slice_get (map plain.point_of ps) k) ≡ true
all_on [] k = refl
all_on (p ∷ ps) zero = refl
all_on (p ∷ ps) (suc k) = all_on ps k

no_line_after_off : (at : ℕ) (ps : List PrintedPoint) → line_after_off true (point_trees at ps) (map plain.point_of ps) ≡ None
no_line_after_off at [] = refl
no_line_after_off at (p ∷ ps) = no_line_after_off (after at p) ps

-- no line of the contour begins off the curve
contour_lined : (at : ℕ) (ps : List PrintedPoint) → line_after_off (ends_on (map plain.point_of ps)) (point_trees at ps) (map plain.point_of ps) ≡ None
contour_lined at ps =
    ap (λ on. line_after_off on (point_trees at ps) (map plain.point_of ps)) (all_on ps (length (map plain.point_of ps) - 1)) ∙ no_line_after_off at ps

contour_closed : (tree : Tree) (at : ℕ) (p : PrintedPoint) (ps : List PrintedPoint) → children_of tree ≡ point_trees at (p ∷ ps) → length (map plain.point_of (p ∷ ps)) ≤ 1024 → closed tree (map plain.point_of (p ∷ ps)) ≡ Ok (map plain.point_of (p ∷ ps))
unfolding closed
contour_closed tree at p ps inside few = rw (le-leb (length (map plain.point_of (p ∷ ps))) 1024 few, inside, contour_lined at (p ∷ ps)) refl

-- ---- a contour

some_contour : (tree : Tree) (at : ℕ) (p : PrintedPoint) (ps : List PrintedPoint) → children_of tree ≡ point_trees at (p ∷ ps) → All IsPrintedPoint (p ∷ ps) → IsContourWithin (map plain.point_of (p ∷ ps)) → contour_of tree ≡ Ok (Some (map plain.point_of (p ∷ ps)))
unfolding contour_of
some_contour tree at p ps inside printed within =
    rw (inside, contour_is_read at p ps, points_reads at p ps printed within.points_within, contour_closed tree at p ps inside within.greatest) refl

-- the element of a contour is read as its points
pub contour_reads : (tree : Tree) (at : ℕ) (ps : List PrintedPoint) → children_of tree ≡ point_trees at ps → All IsPrintedPoint ps → IsContourWithin (map plain.point_of ps) → contour_of tree ≡ Ok (Some (map plain.point_of ps))
contour_reads tree at [] inside printed within = absurd (omega (arith, within.least))
contour_reads tree at (p ∷ ps) inside printed within = some_contour tree at p ps inside printed within
