-- Plain drawings: the tree of each is read as the drawing that it means.
use Rattle.std.proofs.Common.{◌≡◌, ℕ, ◌+◌, ◌≤◌, List, [], ◌∷◌, ◌++◌, length, map, Option, Some, None, Ok, Result, refl, sym, ap, ◌∙◌, append_assoc, append-nil}
use Rattle.std.specs.Prelude.{ℤ, pos, ◌≤ℤ◌, codes, All, sum_by}
use Rattle.std.proofs.lemmas.Bool.{le-leb}
use Rattle.std.proofs.lemmas.List.Elements.{All-head, All-tail}
use Rattle.markup_rules.specs.Tree.{Tree, node, no_trees, trees_of, list_of, children_of}
use Rattle.markup_rules.specs.Syntax.{tag_then, end_tag_then, inside_then, own_text, children_from}
use Rattle.markup_rules.specs.Outcome.{outcome}
use Rattle.basics.specs.Reading.{◌>>=◌, in_turn}
use Rattle.basics.specs.declared.fault.Spot.{Spot}
use Rattle.glif.specs.declared.shape.Drawing.{Drawing}
use Rattle.glif.specs.declared.shape.Point.{Point}
use Rattle.glif.specs.declared.outline.Shapes.{Shapes}
use Rattle.glif.specs.declared.glyph.Seen.{Seen}
use Rattle.attributes.specs.Attributes.{needed, optional_whole}
use Rattle.glif.specs.Numbers.{width, advance_widths}
use Rattle.glif.specs.Glyphs.{shape_of, few, outline_of, nothing_seen, child_of, format_of, drawing_of}
use Rattle.glif.specs.Limits.{IsContourWithin}
use Rattle.glif.specs.Printed.{Number, PrintedPoint, Written, number_text, value_of, printing, meaning, IsNumber, IsPrintedPoint, IsWritten, IsPrinted}
use Rattle.glif.specs.Printed as plain
use Rattle.glif.specs.Texts.{drawing_of_text}
use Rattle.glif.proofs.PrintedPoints.{whole_reads, contour_reads}
use Rattle.glif.proofs.PrintedTexts.{advance_tag, contour_tag, outline_tag, points_inside, contours_inside, glyph_tag, glyph_inside, printed_outcome}

-- a list of trees comes back
list_of_trees : (ts : List Tree) → list_of (trees_of ts) ≡ ts
list_of_trees [] = refl
list_of_trees (t ∷ ts) = ap (λ more. t ∷ more) (list_of_trees ts)

-- ---- contours

-- contours alone
abbrev drawn_contours : List (List Point) → Shapes
drawn_contours contours = record { contours = contours; components = [] }

-- the element of a contour, after a line feed
abbrev contour_tree : ℕ → List PrintedPoint → Tree
contour_tree at ps = node (codes "contour") [] (trees_of (children_from (at + 1 + length (tag_then contour_tag (codes ">"))) (points_inside ps))) (own_text (points_inside ps)) (at + 1)

shape_reads : (contours : List (List Point)) (at : ℕ) (ps : List PrintedPoint) → All IsPrintedPoint ps → IsContourWithin (map plain.point_of ps) → shape_of (drawn_contours contours) (contour_tree at ps) ≡ Ok (drawn_contours (contours ++ map plain.point_of ps ∷ []))
unfolding shape_of
shape_reads contours at ps printed within =
    let inside = at + 1 + length (tag_then contour_tag (codes ">")) in
    rw (contour_reads (contour_tree at ps) inside ps (list_of_trees (children_from inside (points_inside ps))) printed within) refl

-- where what follows a contour begins
abbrev after : ℕ → List PrintedPoint → ℕ
after at ps = at + 1 + length (tag_then contour_tag (codes ">")) + length (inside_then (points_inside ps) (end_tag_then (codes "contour") [] []))

abbrev contour_trees : ℕ → List (List PrintedPoint) → List Tree
contour_trees at contours = children_from at (contours_inside contours)

-- the first of a list, and then the others
turn_step : {A S F : Type 0} (step : S → A → Result S F) (state next : S) (t : A) (ts : List A) (last : Result S F) → step state t ≡ Ok next → in_turn step next ts ≡ last → in_turn step state (t ∷ ts) ≡ last
turn_step step state next t ts last one more = rw (one, more) refl

shapes_read : (before : List (List Point)) (at : ℕ) (contours : List (List PrintedPoint)) → All (All IsPrintedPoint) contours → All IsContourWithin (map (map plain.point_of) contours)
    → in_turn shape_of (drawn_contours before) (contour_trees at contours) ≡ Ok (drawn_contours (before ++ map (map plain.point_of) contours))
shapes_read before at [] printed within = ap (λ contours. Ok (drawn_contours contours)) (sym (append-nil before))
shapes_read before at (ps ∷ contours) printed within =
    let points = map plain.point_of ps in
    let later = map (map plain.point_of) contours in
    turn_step shape_of (drawn_contours before) (drawn_contours (before ++ points ∷ [])) (contour_tree at ps) (contour_trees (after at ps) contours) (Ok (drawn_contours (before ++ points ∷ later)))
    (shape_reads before at ps (All-head (All IsPrintedPoint) ps contours printed) (All-head IsContourWithin points later within))
    (shapes_read (before ++ points ∷ []) (after at ps) contours (All-tail (All IsPrintedPoint) ps contours printed) (All-tail IsContourWithin points later within) ∙
    ap (λ cs. Ok (drawn_contours cs)) (append_assoc before (points ∷ []) later))

-- ---- the outline

few_enough : (tree : Tree) (contours : List (List Point)) → sum_by length contours ≤ 4000 → few tree (drawn_contours contours) ≡ Ok (drawn_contours contours)
few_enough tree contours enough = rw (le-leb (sum_by length contours) 4000 enough) refl

outline_reads : (tree : Tree) (at : ℕ) (contours : List (List PrintedPoint)) → children_of tree ≡ contour_trees at contours → All (All IsPrintedPoint) contours → All IsContourWithin (map (map plain.point_of) contours)
    → sum_by length (map (map plain.point_of) contours) ≤ 4000 → outline_of tree ≡ Ok (drawn_contours (map (map plain.point_of) contours))
unfolding outline_of
outline_reads tree at contours inside printed within enough =
    rw (inside, shapes_read [] at contours printed within) (few_enough tree (map (map plain.point_of) contours) enough)

-- ---- the glyph

-- what has been seen, where no code point has
abbrev seen : Option ℤ → Option Shapes → Seen
seen width shapes = record { width = width; codes = []; shapes = shapes }

abbrev advance_tree : ℕ → Number → Tree
advance_tree at width = node (codes "advance") ((codes "width", number_text width) ∷ []) no_trees [] at

advance_reads : (at : ℕ) (n : Number) → IsNumber n → pos 0 ≤ℤ value_of n → value_of n ≤ℤ pos 16383 → child_of nothing_seen (advance_tree at n) ≡ Ok (seen (Some (value_of n)) None)
unfolding child_of width optional_whole
advance_reads at n is low high = rw (whole_reads advance_widths (codes "width") (advance_tree at n) n is low high) refl

abbrev outline_tree : ℕ → ℕ → List (List PrintedPoint) → Tree
outline_tree at within contours = node (codes "outline") [] (trees_of (contour_trees within contours)) (own_text (contours_inside contours)) at

outline_child : (width : ℤ) (at within : ℕ) (contours : List (List PrintedPoint)) (shapes : Shapes) → outline_of (outline_tree at within contours) ≡ Ok shapes → child_of (seen (Some width) None) (outline_tree at within contours) ≡ Ok (seen (Some width) (Some shapes))
unfolding child_of
outline_child width at within contours shapes reads = rw reads refl

-- the element of a plain drawing, whose children begin at an offset
abbrev glyph_tree : Written → ℕ → List ℕ → Tree
glyph_tree w within text = node (codes "glyph") ((codes "name", w.name) ∷ (codes "format", codes "2") ∷ []) (trees_of (children_from within (glyph_inside w))) text 0

children_read : (w : Written) (at : ℕ) → IsWritten w → in_turn child_of nothing_seen (children_from at (glyph_inside w)) ≡ Ok (seen (Some (value_of w.width)) (Some (drawn_contours (map (map plain.point_of) w.contours))))
children_read w at is =
    let here = at + 1 + length (tag_then (advance_tag (number_text w.width)) (codes "/>")) + 1 in
    let within = here + length (tag_then outline_tag (codes ">")) in
    let outline = outline_tree here within w.contours in
    let shapes = drawn_contours (map (map plain.point_of) w.contours) in
    let width = value_of w.width in
    let first = seen (Some width) None in
    let last = seen (Some width) (Some shapes) in
    let reads = outline_reads outline within w.contours (list_of_trees (contour_trees within w.contours)) is.placed is.limits.contours_within is.limits.points in
    turn_step child_of nothing_seen first (advance_tree (at + 1) w.width) (outline ∷ []) (Ok last)
    (advance_reads (at + 1) w.width is.wide is.limits.least_advance is.limits.greatest_advance)
    (turn_step child_of first last outline [] (Ok last) (outline_child width here within w.contours shapes reads) refl)

glyph_reads : (w : Written) (within : ℕ) (text : List ℕ) → IsWritten w → drawing_of (glyph_tree w within text) ≡ Ok (meaning w)
unfolding drawing_of format_of needed
glyph_reads w within text is = rw (children_read w within is) refl

-- a plain drawing is read as the drawing that it means
pub printed_reads : (text : List ℕ) (drawing : Drawing) → IsPrinted text drawing → drawing_of_text text ≡ Ok drawing
printed_reads text drawing is =
    let w = is.written in
    let reads = glyph_reads w (0 + length (tag_then (glyph_tag w.name) (codes ">"))) (own_text (glyph_inside w)) is.proper in
    ap (λ t. outcome t >>= drawing_of) is.spelled ∙ (ap (λ (tree : Result Tree Spot). tree >>= drawing_of) (printed_outcome w is.proper) ∙ (reads ∙ ap (λ d. Ok d) (sym is.means)))
