-- What mirrored outlines have of the outlines that they are made of: how many points, and of which kinds.
use Rattle.std.proofs.Common.{◌≡◌, ℕ, suc, ℤ, arith, List, [], ◌∷◌, length, map, Result, Ok, Err, refl, sym, ◌∙◌, ap}
use Rattle.std.specs.Prelude.{sum_by, IfOk}
use Rattle.std.proofs.lemmas.List.Sums.{sum_by-cons}
use Rattle.glif.specs.declared.shape.Point.{Point}
use Rattle.glif.specs.declared.shape.Outline.{Outline}
use Rattle.glif.specs.Shapes.{contour_kinds}
use Rattle.filters.specs.declared.refusal.FilterRefusal.{FilterRefusal}
use Rattle.filters.specs.Applied.{Applies}
use Rattle.mirror_filter.specs.Mirror.{mirrored_point, mirrored}

map-map_same : {A B : Type 0} (f : A → B) (g : A → A) → ((x : A) → f (g x) ≡ f x) → (xs : List A) → map f (map g xs) ≡ map f xs
map-map_same f g same [] = refl
map-map_same f g same (x ∷ xs) = ap (λ y. y ∷ map f (map g xs)) (same x) ∙ ap (λ ys. f x ∷ ys) (map-map_same f g same xs)

length-map_same : {A B : Type 0} (f : A → B) (xs : List A) → length (map f xs) ≡ length xs
length-map_same f [] = refl
length-map_same f (x ∷ xs) = ap suc (length-map_same f xs)

same_count : (width : ℤ) (contours : List (List Point)) → sum_by length (map (map (mirrored_point width)) contours) ≡ sum_by length contours
same_count width [] = refl
same_count width (points ∷ contours) =
    let more = same_count width contours in
    let first = length-map_same (mirrored_point width) points in
    sum_by-cons length (map (mirrored_point width) points) (map (map (mirrored_point width)) contours) ∙ (omega (arith, first, more) ∙ sym (sum_by-cons length points contours))

pub kinds_mirrored : (width : ℤ) (outline : Outline) → contour_kinds (mirrored width outline) ≡ contour_kinds outline
kinds_mirrored width outline =
    map-map_same (map (λ (point : Point). point.on)) (map (mirrored_point width)) (map-map_same (λ (point : Point). point.on) (mirrored_point width) (λ point. refl)) outline.contours

pub points_mirrored : (width : ℤ) (outline : Outline) → sum_by length (mirrored width outline).contours ≡ sum_by length outline.contours
points_mirrored width outline = same_count width outline.contours

-- outlines of equal kinds stay so
pub alike_mirrored : (width : ℤ) (a b : Outline) → contour_kinds a ≡ contour_kinds b → contour_kinds (mirrored width a) ≡ contour_kinds (mirrored width b)
alike_mirrored width a b same = kinds_mirrored width a ∙ (same ∙ sym (kinds_mirrored width b))

-- what the image has, an answer has too
pub applied_has : {A : Type 0} (of : Outline → A) (image : Outline) (value : A) (result : Result Outline FilterRefusal) → Applies image result → of image ≡ value → IfOk result (λ made. of made ≡ value)
applied_has of image value (Ok made) applies same = ap of applies.0 ∙ same
applied_has of image value (Err refusal) applies same = tt
