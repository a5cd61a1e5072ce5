-- What of an element its tag alone tells, whatever stands in it.
use Rattle.std.proofs.Common.{◌≡◌, ℕ, Bool, true, false, not, ◌&&◌, length, List, [], ◌∷◌, map, filter, codes, Option, Some, None, Ok, Err, refl, sym, ap, ◌∙◌}
use Rattle.std.specs.Prelude.{ℤ, pos, Result, is_none, nat_le}
use Rattle.std.specs.Bool.{if◌then◌else◌}
use Rattle.std.specs.Str.{bytes_eq}
use Rattle.basics.specs.Reading.{◌>>=◌, each}
use Rattle.basics.specs.declared.fault.Spot.{Spot}
use Rattle.markup_rules.specs.Tree.{Tree, Trees, node, trees_of, list_of, is_named}
use Rattle.markup_rules.specs.Outcome.{Frame, ended}
use Rattle.basics.specs.Reading.{spot_of}
use Rattle.basics.specs.declared.kinds.Kind.TheVariants.{NotGlif, OpenContour, TooManyPoints}
use Rattle.attributes.specs.Attributes.{decimal_in, fault, needed, optional_decimal, optional_whole, ranged, whole, whole_in}
use Rattle.glif.specs.declared.shape.Point.{Point}
use Rattle.glif.specs.declared.outline.Shapes.{Shapes}
use Rattle.glif.specs.declared.glyph.Seen.{Seen}
use Rattle.glif.specs.Numbers.{coordinate, offset, width}
use Rattle.glif.specs.Components.{component_of, matrix, scale}
use Rattle.glif.specs.Contours.{closed, contour_of, ends_on, is_line, is_passed_over, line_after_off, lined, point_of, points_of, starts_with_move, type_of}
use Rattle.glif.specs.Glyphs.{advance_seen, child_of, code_of, format_of, outline_seen, shape_of, with_code, with_component}
use Rattle.glif.specs.Opened.{is_first_outline, opened}
use Rattle.glif.specs.Parts.{going_on, tag_alone, tag_of}

pub list_of_trees : (ts : List Tree) → list_of (trees_of ts) ≡ ts
list_of_trees [] = refl
list_of_trees (t ∷ ts) = ap (λ us. t ∷ us) (list_of_trees ts)

-- ---- the root

pub opened_alone : (f : Frame) (children : Trees) (text : List ℕ) → opened (going_on f children text) ≡ opened (tag_of f)
unfolding opened format_of needed
opened_alone f children text = refl

-- ---- elements of the glyph but its first outline

width_alone : (f : Frame) (children : Trees) (text : List ℕ) → width (going_on f children text) ≡ width (tag_of f)
unfolding width optional_whole whole_in ranged
width_alone f children text = refl

code_alone : (f : Frame) (children : Trees) (text : List ℕ) → code_of (going_on f children text) ≡ code_of (tag_of f)
unfolding code_of
code_alone f children text = refl

advance_alone : (seen : Seen) (before : Option ℤ) (f : Frame) (children : Trees) (text : List ℕ) → advance_seen (going_on f children text) seen before ≡ advance_seen (tag_of f) seen before
advance_alone seen (Some width) f children text = refl
advance_alone seen None f children text = ap (λ r. r >>= λ units. Ok (record seen { width = Some units })) (width_alone f children text)

outline_alone : (seen : Seen) (before : Option Shapes) (named : Bool) (f : Frame) (children : Trees) (text : List ℕ) → (is_none before && named) ≡ false
    → (if named then outline_seen (going_on f children text) seen before else Ok seen) ≡ (if named then outline_seen (tag_of f) seen before else Ok seen)
outline_alone seen None true f children text other = cc
outline_alone seen (Some shapes) true f children text other = refl
outline_alone seen before false f children text other = refl

pub child_alone : (seen : Seen) (f : Frame) (children : Trees) (text : List ℕ) → is_first_outline seen (tag_of f) ≡ false → child_of seen (going_on f children text) ≡ child_of seen (tag_of f)
unfolding child_of
child_alone seen f children text other =
    let advance = is_named (codes "advance") (tag_of f) in
    let unicode = is_named (codes "unicode") (tag_of f) in
    let outline = is_named (codes "outline") (tag_of f) in
    let tree = going_on f children text in
    ap (λ r. if advance then r else (if unicode then (code_of tree >>= λ code. Ok (record seen { codes = with_code seen.codes code })) else (if outline then outline_seen tree seen seen.shapes else Ok seen))) (advance_alone seen seen.width f children text)
    ∙ (ap (λ r. if advance then advance_seen (tag_of f) seen seen.width else (if unicode then (r >>= λ code. Ok (record seen { codes = with_code seen.codes code })) else (if outline then outline_seen tree seen seen.shapes else Ok seen))) (code_alone f children text)
    ∙ ap (λ r. if advance then advance_seen (tag_of f) seen seen.width else (if unicode then (code_of (tag_of f) >>= λ code. Ok (record seen { codes = with_code seen.codes code })) else r)) (outline_alone seen seen.shapes outline f children text other))

-- ---- elements of the outline but contours

component_alone : (f : Frame) (children : Trees) (text : List ℕ) → component_of (going_on f children text) ≡ component_of (tag_of f)
unfolding component_of needed matrix scale offset optional_decimal decimal_in optional_whole whole_in ranged
component_alone f children text = refl

second : {R : Type 0} (b : Bool) (x y z w : R) → b ≡ false → z ≡ w → (if b then x else z) ≡ (if b then y else w)
second b x y z w e same = rw e same

pub shape_alone : (shapes : Shapes) (f : Frame) (children : Trees) (text : List ℕ) → is_named (codes "contour") (tag_of f) ≡ false → shape_of shapes (going_on f children text) ≡ shape_of shapes (tag_of f)
unfolding shape_of
shape_alone shapes f children text other =
    second (is_named (codes "contour") (tag_of f)) _ _ _ _ other
    (ap (λ r. if is_named (codes "component") (tag_of f) then (r >>= λ component. Ok (with_component shapes component)) else fault NotGlif (tag_of f)) (component_alone f children text))

-- ---- elements of a contour

point_alone : (first : Bool) (t : Tree) → point_of first (tag_alone t) ≡ point_of first t
unfolding point_of coordinate whole needed whole_in ranged
point_alone first (node name attributes children text at) = refl

each_alone : (ts : List Tree) → each (point_of false) (map tag_alone ts) ≡ each (point_of false) ts
each_alone [] = refl
each_alone (t ∷ ts) = ap (λ r. r >>= λ p. each (point_of false) (map tag_alone ts) >>= λ ps. Ok (p ∷ ps)) (point_alone false t) ∙ ap (λ later. point_of false t >>= λ p. later >>= λ ps. Ok (p ∷ ps)) (each_alone ts)

points_alone : (ts : List Tree) → points_of (map tag_alone ts) ≡ points_of ts
points_alone [] = refl
points_alone (t ∷ ts) = ap (λ r. r >>= λ p. each (point_of false) (map tag_alone ts) >>= λ ps. Ok (p ∷ ps)) (point_alone true t) ∙ ap (λ later. point_of true t >>= λ p. later >>= λ ps. Ok (p ∷ ps)) (each_alone ts)

filter_alone : (ts : List Tree) → filter (is_named (codes "point")) (map tag_alone ts) ≡ map tag_alone (filter (is_named (codes "point")) ts)
filter_alone [] = refl
filter_alone (node name attributes children text at ∷ ts) = kept (bytes_eq name (codes "point")) (filter_alone ts)
  where
    t : Tree
    t = node name attributes children text at

    kept : (b : Bool) → filter (is_named (codes "point")) (map tag_alone ts) ≡ map tag_alone (filter (is_named (codes "point")) ts)
        → (if b then tag_alone t ∷ filter (is_named (codes "point")) (map tag_alone ts) else filter (is_named (codes "point")) (map tag_alone ts)) ≡ map tag_alone (if b then t ∷ filter (is_named (codes "point")) ts else filter (is_named (codes "point")) ts)
    kept true ih = ap (λ us. tag_alone t ∷ us) ih
    kept false ih = ih

passed_alone : (ts : List Tree) → is_passed_over (map tag_alone ts) ≡ is_passed_over ts
passed_alone [] = refl
passed_alone (node name attributes children text at ∷ []) = refl
passed_alone (t ∷ u ∷ ts) = refl

starts_alone : (ts : List Tree) → starts_with_move (map tag_alone ts) ≡ starts_with_move ts
starts_alone [] = refl
starts_alone (node name attributes children text at ∷ ts) = refl

walk_alone : (on : Bool) (ts : List Tree) (ps : List Point) → line_after_off on (map tag_alone ts) ps ≡ line_after_off on ts ps
walk_alone on [] ps = refl
walk_alone on (node name attributes children text at ∷ ts) [] = refl
walk_alone on (node name attributes children text at ∷ ts) (p ∷ ps) =
    ap (λ later. if is_line (type_of (node name attributes children text at)) && not on then Some at else later) (walk_alone p.on ts ps)

-- a contour of these elements, at an offset
closed_by : ℕ → List Tree → List Point → Result (List Point) Spot
closed_by at ts points =
    if nat_le (length points) 1024 then
    (if starts_with_move ts then Err (spot_of OpenContour [] at (pos 0)) else lined points (line_after_off (ends_on points) ts points))
    else Err (spot_of TooManyPoints [] at (pos (length points)))

contour_by : ℕ → List Tree → Result (Option (List Point)) Spot
contour_by at ts =
    if is_passed_over (filter (is_named (codes "point")) ts) then Ok None else
    (points_of ts >>= λ points. closed_by at ts points >>= λ contour. Ok (Some contour))

contour_is : (name : List ℕ) (attributes : List (List ℕ × List ℕ)) (trees : Trees) (text : List ℕ) (at : ℕ) → contour_of (node name attributes trees text at) ≡ contour_by at (list_of trees)
unfolding contour_of closed closed_by contour_by
contour_is name attributes trees text at = refl

closed_alone : (at : ℕ) (ts : List Tree) (points : List Point) → closed_by at (map tag_alone ts) points ≡ closed_by at ts points
unfolding closed_by
closed_alone at ts points = rw (starts_alone ts, walk_alone (ends_on points) ts points) refl

contour_by_alone : (at : ℕ) (ts : List Tree) → contour_by at (map tag_alone ts) ≡ contour_by at ts
unfolding contour_by
contour_by_alone at ts = rw (filter_alone ts, passed_alone (filter (is_named (codes "point")) ts), points_alone ts) (ap (λ r. if is_passed_over (filter (is_named (codes "point")) ts) then Ok None else r) (read (points_of ts)))
  where
    read : (r : Result (List Point) Spot) → (r >>= λ points. closed_by at (map tag_alone ts) points >>= λ contour. Ok (Some contour)) ≡ (r >>= λ points. closed_by at ts points >>= λ contour. Ok (Some contour))
    read (Ok points) = ap (λ r. r >>= λ contour. Ok (Some contour)) (closed_alone at ts points)
    read (Err e) = refl

-- the contour by the tags of its elements
abbrev pub by_tags : Frame → Tree
by_tags f = node f.name f.attributes (trees_of (map tag_alone f.children)) f.text f.at

pub contour_alone : (f : Frame) → contour_of (by_tags f) ≡ contour_of (ended f)
contour_alone f =
    contour_is f.name f.attributes (trees_of (map tag_alone f.children)) f.text f.at
    ∙ (ap (contour_by f.at) (list_of_trees (map tag_alone f.children))
    ∙ (contour_by_alone f.at f.children
    ∙ (ap (contour_by f.at) (sym (list_of_trees f.children))
    ∙ sym (contour_is f.name f.attributes (trees_of f.children) f.text f.at))))
