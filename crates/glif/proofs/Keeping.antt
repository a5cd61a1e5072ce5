-- What is kept of a glyph goes on with each element that begins or ends.
use Rattle.std.proofs.Common.{◌≡◌, ℕ, true, false, List, [], ◌∷◌, ◌++◌, map, codes, Option, Some, Ok, Err, refl, sym, ap, ◌∙◌}
use Rattle.std.specs.Prelude.{Result}
use Rattle.std.proofs.lemmas.Bool.{cond-true}
use Rattle.std.proofs.lemmas.List.{map-append}
use Rattle.basics.specs.Reading.{◌>>=◌, in_turn}
use Rattle.basics.specs.declared.fault.Spot.{Spot}
use Rattle.markup_rules.specs.Tree.{Tree, Trees, children_of, trees_of, is_named}
use Rattle.markup_rules.specs.Outcome.{Frame, ended}
use Rattle.glif.specs.declared.shape.Point.{Point}
use Rattle.glif.specs.declared.outline.Shapes.{Shapes}
use Rattle.glif.specs.declared.glyph.Seen.{Seen}
use Rattle.glif.specs.declared.contour.Contour.{Contour}
use Rattle.glif.specs.declared.part.Glyph.{Glyph}
use Rattle.glif.specs.declared.part.OpenOutline.{OpenOutline}
use Rattle.glif.specs.declared.part.OpenContour.{OpenContour}
use Rattle.glif.specs.Contours.{contour_of}
use Rattle.glif.specs.Gathered.{IsContour}
use Rattle.glif.specs.Glyphs.{child_of, drawing_of, drawn, few, no_shapes, nothing_seen, outline_of, shape_of}
use Rattle.glif.specs.Opened.{is_first_outline, opened}
use Rattle.glif.specs.Parts.{IsInContour, IsInOutline, glyph_of, going_on, tag_alone, tag_of, with_child, with_outline, with_points, with_seen}
use Rattle.glif.proofs.Alone.{child_alone, list_of_trees, opened_alone, shape_alone}
use Rattle.glif.proofs.Gathering.{in_turn_push}
use Rattle.glif.proofs.Opening.{drawing_by, first_outline}

-- ---- elements of the glyph

-- what one more element makes of a glyph
abbrev pub next_glyph : Result Glyph Spot → Tree → Result Glyph Spot
next_glyph before t = before >>= λ glyph. with_seen glyph.name (child_of glyph.seen t)

glyph_push : (g : Frame) (t : Tree) → glyph_of (with_child g t) ≡ next_glyph (glyph_of g) t
glyph_push g t = ap (λ r. opened (tag_of g) >>= λ name. with_seen name r) (in_turn_push child_of nothing_seen g.children t) ∙ on (opened (tag_of g)) (in_turn child_of nothing_seen g.children)
  where
    on : (name : Result (List ℕ) Spot) (seen : Result Seen Spot) → (name >>= λ n. with_seen n (seen >>= λ s. child_of s t)) ≡ next_glyph (name >>= λ n. with_seen n seen) t
    on (Ok name) (Ok seen) = refl
    on (Ok name) (Err e) = refl
    on (Err e) seen = refl

pub faulty_child : (g : Frame) (t : Tree) (spot : Spot) → glyph_of g ≡ Err spot → glyph_of (with_child g t) ≡ Err spot
faulty_child g t spot before = glyph_push g t ∙ ap (λ r. next_glyph r t) before

glyph_child : (g : Frame) (t : Tree) (glyph : Glyph) → glyph_of g ≡ Ok glyph → glyph_of (with_child g t) ≡ with_seen glyph.name (child_of glyph.seen t)
glyph_child g t glyph before = glyph_push g t ∙ ap (λ r. next_glyph r t) before

pub child_begun : (g f : Frame) (glyph : Glyph) (read : Result Seen Spot) → glyph_of g ≡ Ok glyph → is_first_outline glyph.seen (tag_of f) ≡ false → read ≡ child_of glyph.seen (tag_of f)
    → (children : Trees) (text : List ℕ) → glyph_of (with_child g (going_on f children text)) ≡ with_seen glyph.name read
child_begun g f glyph read before other is children text =
    glyph_child g (going_on f children text) glyph before ∙ ap (with_seen glyph.name) (child_alone glyph.seen f children text other ∙ sym is)

pub glyph_ended : (g : Frame) (glyph : Result Glyph Spot) → glyph_of g ≡ glyph → drawing_of (ended g) ≡ (glyph >>= λ glyph. Ok (drawn glyph.name glyph.seen))
glyph_ended g glyph before =
    drawing_by (ended g) ∙ (ap (λ r. r >>= λ name. in_turn child_of nothing_seen (children_of (ended g)) >>= λ seen. Ok (drawn name seen)) (opened_alone g (trees_of g.children) g.text)
    ∙ (ap (λ ts. opened (tag_of g) >>= λ name. in_turn child_of nothing_seen ts >>= λ seen. Ok (drawn name seen)) (list_of_trees g.children)
    ∙ (on (opened (tag_of g)) (in_turn child_of nothing_seen g.children) ∙ ap (λ r. r >>= λ glyph. Ok (drawn glyph.name glyph.seen)) before)))
  where
    on : (name : Result (List ℕ) Spot) (seen : Result Seen Spot) → (name >>= λ n. seen >>= λ s. Ok (drawn n s)) ≡ ((name >>= λ n. with_seen n seen) >>= λ glyph. Ok (drawn glyph.name glyph.seen))
    on (Ok name) (Ok seen) = refl
    on (Ok name) (Err e) = refl
    on (Err e) seen = refl

-- ---- elements of the outline

shapes_push : (o : Frame) (t : Tree) (shapes : Result Shapes Spot) → in_turn shape_of no_shapes o.children ≡ shapes → in_turn shape_of no_shapes (o.children ++ t ∷ []) ≡ (shapes >>= λ shapes. shape_of shapes t)
shapes_push o t shapes before = in_turn_push shape_of no_shapes o.children t ∙ ap (λ r. r >>= λ shapes. shape_of shapes t) before

-- the outline with one more element, after which this is drawn
pub shape_added : (o g : Frame) (here : OpenOutline) (t : Tree) (read : Result Shapes Spot) → IsInOutline here o g → read ≡ (here.shapes >>= λ shapes. shape_of shapes t)
    → IsInOutline (record { glyph = here.glyph; at = here.at; shapes = read }) (with_child o t) g
shape_added o g here t read is e = record {
  before = is.before;
  first = is.first;
  at = is.at;
  shapes = shapes_push o t here.shapes is.shapes ∙ sym e;
}

pub shape_begun : (o g f : Frame) (here : OpenOutline) (shapes : Shapes) (read : Result Shapes Spot) → IsInOutline here o g → here.shapes ≡ Ok shapes → is_named (codes "contour") (tag_of f) ≡ false → read ≡ shape_of shapes (tag_of f)
    → (children : Trees) (text : List ℕ) → IsInOutline (record { glyph = here.glyph; at = here.at; shapes = read }) (with_child o (going_on f children text)) g
shape_begun o g f here shapes read is so other e children text =
    shape_added o g here (going_on f children text) read is (e ∙ (sym (shape_alone shapes f children text other) ∙ ap (λ (r : Result Shapes Spot). r >>= λ shapes. shape_of shapes (going_on f children text)) (sym so)))

pub faulty_shape : (o g : Frame) (here : OpenOutline) (t : Tree) (spot : Spot) → IsInOutline here o g → here.shapes ≡ Err spot → IsInOutline (record { glyph = here.glyph; at = here.at; shapes = Err spot }) (with_child o t) g
faulty_shape o g here t spot is so = shape_added o g here t (Err spot) is (ap (λ (r : Result Shapes Spot). r >>= λ shapes. shape_of shapes t) (sym so))

outline_is : (o : Frame) (shapes : Result Shapes Spot) → in_turn shape_of no_shapes o.children ≡ shapes → outline_of (ended o) ≡ (shapes >>= λ shapes. few (ended o) shapes)
unfolding outline_of
outline_is o shapes e = ap (λ ts. in_turn shape_of no_shapes ts >>= λ shapes. few (ended o) shapes) (list_of_trees o.children) ∙ ap (λ r. r >>= λ shapes. few (ended o) shapes) e

pub outline_ended : (o g : Frame) (here : OpenOutline) (drawn : Result Shapes Spot) → IsInOutline here o g → (here.shapes >>= λ shapes. few (ended o) shapes) ≡ drawn → glyph_of (with_child g (ended o)) ≡ with_outline here.glyph drawn
outline_ended o g here drawn is e =
    glyph_child g (ended o) here.glyph is.before
    ∙ (ap (with_seen here.glyph.name) (first_outline here.glyph.seen (ended o) is.first ∙ ap (λ r. r >>= λ shapes. Ok (record here.glyph.seen { shapes = Some shapes })) (outline_is o here.shapes is.shapes ∙ e)) ∙ on drawn)
  where
    on : (r : Result Shapes Spot) → with_seen here.glyph.name (r >>= λ shapes. Ok (record here.glyph.seen { shapes = Some shapes })) ≡ with_outline here.glyph r
    on (Ok shapes) = refl
    on (Err e) = refl

-- ---- elements of a contour

pub point_begun : (c o g f : Frame) (here : OpenContour) (contour : Contour) → IsInContour here c o g → IsContour contour (map tag_alone c.children ++ tag_of f ∷ [])
    → (children : Trees) (text : List ℕ) → IsInContour (record { glyph = here.glyph; outline = here.outline; shapes = here.shapes; at = here.at; contour = contour }) (with_child c (going_on f children text)) o g
point_begun c o g f here contour is next children text = record {
  outline = is.outline;
  named = is.named;
  at = is.at;
  contour = rw (map-append tag_alone c.children (going_on f children text ∷ [])) next;
}

contour_shape : (c : Frame) (shapes : Shapes) → is_named (codes "contour") (tag_of c) ≡ true → shape_of shapes (ended c) ≡ with_points shapes (contour_of (ended c))
unfolding shape_of
contour_shape c shapes named = cond-true (is_named (codes "contour") (tag_of c)) _ _ named

pub contour_ended : (c o g : Frame) (here : OpenContour) (read : Result (Option (List Point)) Spot) → IsInContour here c o g → contour_of (ended c) ≡ read
    → IsInOutline (record { glyph = here.glyph; at = here.outline; shapes = with_points here.shapes read }) (with_child o (ended c)) g
contour_ended c o g here read is e =
    shape_added o g (record { glyph = here.glyph; at = here.outline; shapes = Ok here.shapes }) (ended c) (with_points here.shapes read) is.outline (sym (contour_shape c here.shapes is.named ∙ ap (with_points here.shapes) e))
