-- What is read off a tree is within limits.
use Rattle.std.proofs.Common.{◌≡◌, ℕ, ◌≤◌, ◌<◌, ◌&&◌, ℤ, pos, Bool, true, false, List, [], ◌∷◌, ◌++◌, length, filter, codes, get_or, Option, Some, None, Ok, refl, subst, arith}
use Rattle.std.specs.Prelude.{All, IfOk, MatchOption, Result, sum_by, nat_le, unwrap_or, ◌==◌, if◌then◌else◌}
use Rattle.std.specs.List.{list_any}
use Rattle.std.specs.Str.Parse.{digits_value}
use Rattle.std.proofs.lemmas.Int.{ints}
use Rattle.std.proofs.lemmas.Bool.Decides.{Decides-eqb, nat_tests}
use Rattle.std.proofs.lemmas.List.Elements.{All-nil, All-cons, All-append, All-push}
use Rattle.std.proofs.lemmas.List.Folds.{list_any_at}
use Rattle.std.proofs.lemmas.List.Quantifiers.{all_pairs_push}
use Rattle.basics.specs.Reading.{each, in_turn}
use Rattle.basics.specs.declared.fault.Spot.{Spot}
use Rattle.markup_rules.specs.Tree.{Tree, at_of, attribute_of, children_of, is_named}
use Rattle.glif.specs.declared.shape.Component.{Component}
use Rattle.glif.specs.declared.shape.Drawing.{Drawing}
use Rattle.glif.specs.declared.shape.Point.{Point}
use Rattle.glif.specs.declared.outline.Shapes.{Shapes}
use Rattle.glif.specs.declared.glyph.Seen.{Seen}
use Rattle.attributes.specs.Attributes.{IsWithin, needed, optional_whole}
use Rattle.attributes.specs.declared.limits.Limits.{Limits}
use Rattle.attributes.proofs.Readings.{after_any, chosen, each_ok, in_turn_ok, then_ok}
use Rattle.attributes.proofs.Within.{IsNoneOrWithin, optional_whole_within, whole_within}
use Rattle.glif.specs.Numbers.{advance_widths, coordinate, coordinates, offset, width}
use Rattle.glif.specs.Components.{component_of, matrix}
use Rattle.glif.specs.Contours.{closed, contour_of, ends_on, is_passed_over, line_after_off, lined, on_by, point_elements, point_of, points_of, starts_with_move, type_of}
use Rattle.glif.specs.Glyphs.{advance_seen, child_of, code_by, code_of, drawing_of, drawn, few, format_of, is_code, is_hexadecimal, no_shapes, nothing_seen, outline_of, outline_seen, shape_of, with_code, with_component, with_contour}
use Rattle.markup_rules.specs.Outcome.{outcome}
use Rattle.glif.specs.Texts.{drawing_of_text}
use Rattle.glif.specs.Limits.{AreDistinct, IsCodePoint, IsContourWithin, IsOffsetWithin, IsPointWithin, IsWithinLimits}

-- ---- numbers

coordinate_ok : (name : List ℕ) (tree : Tree) → IfOk (coordinate name tree) (IsWithin coordinates)
unfolding coordinate
coordinate_ok name tree = whole_within coordinates name tree

or_zero : (limits : Limits) (found : Option ℤ) → IsWithin limits (pos 0) → IsNoneOrWithin limits found → IsWithin limits (unwrap_or found (pos 0))
or_zero limits None zero within = zero
or_zero limits (Some n) zero within = within

offset_ok : (name : List ℕ) (tree : Tree) → IfOk (offset name tree) (IsWithin coordinates)
unfolding offset
offset_ok name tree =
    then_ok (IsNoneOrWithin coordinates) (IsWithin coordinates) (optional_whole coordinates name tree) _ (optional_whole_within coordinates name tree)
    (λ found within. or_zero coordinates found (record { least = omega (arith, ints); greatest = omega (arith, ints) }) within)

width_ok : (tree : Tree) → IfOk (width tree) (IsWithin advance_widths)
unfolding width
width_ok tree =
    then_ok (IsNoneOrWithin advance_widths) (IsWithin advance_widths) (optional_whole advance_widths (codes "width") tree) _ (optional_whole_within advance_widths (codes "width") tree)
    (λ found within. or_zero advance_widths found (record { least = omega (arith, ints); greatest = omega (arith, ints) }) within)

-- ---- contours

point_ok : (first : Bool) (tree : Tree) → IfOk (point_of first tree) IsPointWithin
unfolding point_of
point_ok first tree =
    chosen IsPointWithin (is_named (codes "point") tree) _ _
    (λ _. then_ok (IsWithin coordinates) IsPointWithin (coordinate (codes "x") tree) _ (coordinate_ok (codes "x") tree)
    (λ x across. then_ok (IsWithin coordinates) IsPointWithin (coordinate (codes "y") tree) _ (coordinate_ok (codes "y") tree)
    (λ y up. after_any IsPointWithin (on_by first (at_of tree) (type_of tree)) _
    (λ on. record { least_x = across.least; greatest_x = across.greatest; least_y = up.least; greatest_y = up.greatest }))))
    (λ _. tt)

-- at least one point, each within limits
record AreWithin (points : List Point) : Type 0 where
  some : 1 ≤ length points
  within : All IsPointWithin points

points_ok : (tree : Tree) (trees : List Tree) → IfOk (points_of (tree ∷ trees)) AreWithin
points_ok tree trees =
    then_ok IsPointWithin AreWithin (point_of true tree) _ (point_ok true tree)
    (λ point p. then_ok (All IsPointWithin) AreWithin (each (point_of false) trees) _ (each_ok IsPointWithin (point_of false) (point_ok false) trees)
    (λ points ps. record { some = omega arith; within = All-cons IsPointWithin point points p ps }))

lined_ok : (P : List Point → Type 0) (points : List Point) (found : Option ℕ) → P points → IfOk (lined points found) P
lined_ok P points None p = p
lined_ok P points (Some at) p = tt

closed_ok : (tree : Tree) (points : List Point) → AreWithin points → IfOk (closed tree points) IsContourWithin
unfolding closed
closed_ok tree points p =
    chosen IsContourWithin (nat_le (length points) 1024) _ _
    (λ few. chosen IsContourWithin (starts_with_move (children_of tree)) _ _ (λ _. tt)
    (λ _. lined_ok IsContourWithin points (line_after_off (ends_on points) (children_of tree) points)
    (record { least = p.some; greatest = grind (arith, nat_tests); points_within = p.within })))
    (λ _. tt)

abbrev IsKept : Option (List Point) → Type 0
IsKept contour = MatchOption contour (Unit {0}) IsContourWithin

kept_ok : (tree : Tree) (trees : List Tree) → is_passed_over (filter (is_named (codes "point")) trees) ≡ false → IfOk (points_of trees) AreWithin
kept_ok tree [] kept = cc
kept_ok tree (first ∷ trees) kept = points_ok first trees

contour_ok : (tree : Tree) → IfOk (contour_of tree) IsKept
unfolding contour_of
contour_ok tree =
    chosen IsKept (is_passed_over (point_elements tree)) _ _ (λ _. tt)
    (λ kept. then_ok AreWithin IsKept (points_of (children_of tree)) _ (kept_ok tree (children_of tree) kept)
    (λ points p. then_ok IsContourWithin IsKept (closed tree points) _ (closed_ok tree points p) (λ contour q. q)))

-- ---- components

component_ok : (tree : Tree) → IfOk (component_of tree) IsOffsetWithin
unfolding component_of
component_ok tree =
    after_any IsOffsetWithin (needed (codes "base") tree) _
    (λ base. after_any IsOffsetWithin (matrix tree) _
    (λ _. then_ok (IsWithin coordinates) IsOffsetWithin (offset (codes "xOffset") tree) _ (offset_ok (codes "xOffset") tree)
    (λ dx across. then_ok (IsWithin coordinates) IsOffsetWithin (offset (codes "yOffset") tree) _ (offset_ok (codes "yOffset") tree)
    (λ dy up. record { least_x = across.least; greatest_x = across.greatest; least_y = up.least; greatest_y = up.greatest }))))

-- ---- outlines

record AreShapes (shapes : Shapes) : Type 0 where
  contours : All IsContourWithin shapes.contours
  components : All IsOffsetWithin shapes.components

no_shapes_within : AreShapes no_shapes
no_shapes_within = record { contours = All-nil IsContourWithin; components = All-nil IsOffsetWithin }

with_contour_within : (shapes : Shapes) (contour : Option (List Point)) → AreShapes shapes → IsKept contour → AreShapes (with_contour shapes contour)
with_contour_within shapes None before kept = before
with_contour_within shapes (Some points) before kept = record {
  contours = All-append IsContourWithin shapes.contours (points ∷ []) before.contours (All-cons IsContourWithin points [] kept (All-nil IsContourWithin));
  components = before.components;
}

with_component_within : (shapes : Shapes) (component : Component) → AreShapes shapes → IsOffsetWithin component → AreShapes (with_component shapes component)
with_component_within shapes component before within = record {
  contours = before.contours;
  components = All-append IsOffsetWithin shapes.components (component ∷ []) before.components (All-cons IsOffsetWithin component [] within (All-nil IsOffsetWithin));
}

shape_ok : (shapes : Shapes) (tree : Tree) → AreShapes shapes → IfOk (shape_of shapes tree) AreShapes
unfolding shape_of
shape_ok shapes tree before =
    chosen AreShapes (is_named (codes "contour") tree) _ _
    (λ _. then_ok IsKept AreShapes (contour_of tree) _ (contour_ok tree) (λ contour kept. with_contour_within shapes contour before kept))
    (λ _. chosen AreShapes (is_named (codes "component") tree) _ _
    (λ _. then_ok IsOffsetWithin AreShapes (component_of tree) _ (component_ok tree) (λ component within. with_component_within shapes component before within))
    (λ _. tt))

-- shapes of so many points as a glyph may have
record AreFew (shapes : Shapes) : Type 0 where
  shown : AreShapes shapes
  points : sum_by length shapes.contours ≤ 4000

few_ok : (tree : Tree) (shapes : Shapes) → AreShapes shapes → IfOk (few tree shapes) AreFew
few_ok tree shapes shown =
    chosen AreFew (nat_le (sum_by length shapes.contours) 4000) _ _ (λ h. record { shown = shown; points = grind (arith, nat_tests) }) (λ _. tt)

outline_ok : (tree : Tree) → IfOk (outline_of tree) AreFew
unfolding outline_of
outline_ok tree =
    then_ok AreShapes AreFew (in_turn shape_of no_shapes (children_of tree)) _ (in_turn_ok AreShapes shape_of shape_ok no_shapes (children_of tree) no_shapes_within) (few_ok tree)

-- ---- code points

code_point : (code : ℕ) → is_code code ≡ true → IsCodePoint code
code_point code is = record {
  greatest = grind (arith, nat_tests);
  no_surrogate = λ least. grind (arith, nat_tests);
  named = λ same. grind (arith, nat_tests);
}

both : (a b : Bool) → (a && b) ≡ true → b ≡ true
both true b is = is
both false b is = cc

code_by_ok : (at : ℕ) (text : Option (List ℕ)) → IfOk (code_by at text) IsCodePoint
code_by_ok at None = tt
code_by_ok at (Some text) =
    chosen IsCodePoint (is_hexadecimal text && is_code (digits_value 16 text)) _ _
    (λ tested. code_point (digits_value 16 text) (both (is_hexadecimal text) (is_code (digits_value 16 text)) tested)) (λ _. tt)

code_ok : (tree : Tree) → IfOk (code_of tree) IsCodePoint
unfolding code_of
code_ok tree = code_by_ok (at_of tree) (attribute_of (codes "hex") tree)

-- code points that stand once each
record AreCodePoints (points : List ℕ) : Type 0 where
  codes : All IsCodePoint points
  once : AreDistinct points

no_codes : AreCodePoints []
no_codes = record { codes = All-nil IsCodePoint; once = λ i j d before less. absurd (omega arith) }

apart : (points : List ℕ) (code : ℕ) → list_any (λ other. other == code) points ≡ false → (k d : ℕ) → k < length points → get_or points k d ≡ code → ⊥
apart points code none k d less same = cc (list_any_at (λ other. other == code) points k d less ((Decides-eqb (get_or points k d) code).1 same), none)

chosen_codes : (b : Bool) (points : List ℕ) (code : ℕ) → list_any (λ other. other == code) points ≡ b → AreCodePoints points → IsCodePoint code → AreCodePoints (if b then points else points ++ code ∷ [])
chosen_codes true points code among before is = before
chosen_codes false points code among before is = record {
  codes = All-push IsCodePoint points code before.codes is;
  once = all_pairs_push (λ earlier later. earlier ≡ later → ⊥) points code before.once (apart points code among);
}

with_code_ok : (points : List ℕ) (code : ℕ) → AreCodePoints points → IsCodePoint code → AreCodePoints (with_code points code)
with_code_ok points code before is = chosen_codes (list_any (λ other. other == code) points) points code refl before is

-- ---- glyphs

record IsSeen (seen : Seen) : Type 0 where
  wide : MatchOption seen.width (Unit {0}) (IsWithin advance_widths)
  points : AreCodePoints seen.codes
  drawn : MatchOption seen.shapes (Unit {0}) AreFew

advance_ok : (tree : Tree) (seen : Seen) (width : Option ℤ) → IsSeen seen → IfOk (advance_seen tree seen width) IsSeen
advance_ok tree seen (Some width) before = before
advance_ok tree seen None before =
    then_ok (IsWithin advance_widths) IsSeen (width tree) _ (width_ok tree)
    (λ units within. record { wide = within; points = before.points; drawn = before.drawn })

outline_seen_ok : (tree : Tree) (seen : Seen) (shapes : Option Shapes) → IsSeen seen → IfOk (outline_seen tree seen shapes) IsSeen
outline_seen_ok tree seen (Some shapes) before = tt
outline_seen_ok tree seen None before =
    then_ok AreFew IsSeen (outline_of tree) _ (outline_ok tree) (λ shapes within. record { wide = before.wide; points = before.points; drawn = within })

child_ok : (seen : Seen) (tree : Tree) → IsSeen seen → IfOk (child_of seen tree) IsSeen
unfolding child_of
child_ok seen tree before =
    chosen IsSeen (is_named (codes "advance") tree) _ _ (λ _. advance_ok tree seen seen.width before)
    (λ _. chosen IsSeen (is_named (codes "unicode") tree) _ _
    (λ _. then_ok IsCodePoint IsSeen (code_of tree) _ (code_ok tree)
    (λ code is. record { wide = before.wide; points = with_code_ok seen.codes code before.points is; drawn = before.drawn }))
    (λ _. chosen IsSeen (is_named (codes "outline") tree) _ _ (λ _. outline_seen_ok tree seen seen.shapes before) (λ _. before)))

-- a drawing whose outline and offsets are within limits, and its code points too, each of which stands once
pub record IsDrawnWithin (drawing : Drawing) : Type 0 where
  pub outline : IsWithinLimits drawing.outline
  pub offsets : All IsOffsetWithin drawing.components
  pub codes : All IsCodePoint drawing.codes
  pub once : AreDistinct drawing.codes

shapes_within : (shapes : Option Shapes) → MatchOption shapes (Unit {0}) AreFew → AreFew (unwrap_or shapes no_shapes)
shapes_within None drawn = record { shown = no_shapes_within; points = omega arith }
shapes_within (Some shapes) drawn = drawn

drawn_within : (name : List ℕ) (seen : Seen) → IsSeen seen → IsDrawnWithin (drawn name seen)
drawn_within name seen within =
    let wide = or_zero advance_widths seen.width (record { least = omega (arith, ints); greatest = omega (arith, ints) }) within.wide in
    let shapes = shapes_within seen.shapes within.drawn in
    record {
      outline = record { least_advance = wide.least; greatest_advance = wide.greatest; contours_within = shapes.shown.contours; points = shapes.points };
      offsets = shapes.shown.components;
      codes = within.points.codes;
      once = within.points.once;
    }

drawing_ok : (tree : Tree) → IfOk (drawing_of tree) IsDrawnWithin
unfolding drawing_of
drawing_ok tree =
    chosen IsDrawnWithin (is_named (codes "glyph") tree) _ _
    (λ _. after_any IsDrawnWithin (format_of tree) _
    (λ _. after_any IsDrawnWithin (needed (codes "name") tree) _
    (λ name. then_ok IsSeen IsDrawnWithin (in_turn child_of nothing_seen (children_of tree)) _
    (in_turn_ok IsSeen child_of child_ok nothing_seen (children_of tree) (record { wide = tt; points = no_codes; drawn = tt }))
    (λ seen within. drawn_within name seen within))))
    (λ _. tt)

-- the drawing that a tree means is within limits
pub drawing_within : (tree : Tree) (drawing : Drawing) → drawing_of tree ≡ Ok drawing → IsDrawnWithin drawing
drawing_within tree drawing read =
    let P : Result Drawing Spot → Type 0 = λ r. IfOk r IsDrawnWithin in subst P read (drawing_ok tree)

drawing_text_ok : (text : List ℕ) → IfOk (drawing_of_text text) IsDrawnWithin
drawing_text_ok text = after_any IsDrawnWithin (outcome text) drawing_of drawing_ok

-- and so is that of a text
pub text_within : (text : List ℕ) (drawing : Drawing) → drawing_of_text text ≡ Ok drawing → IsDrawnWithin drawing
text_within text drawing read =
    let P : Result Drawing Spot → Type 0 = λ r. IfOk r IsDrawnWithin in subst P read (drawing_text_ok text)
