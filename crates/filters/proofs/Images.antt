-- What images have of the outlines that they are made of: how many points, and of which kinds.
use Rattle.std.proofs.Common.{◌≡◌, ℕ, suc, ℤ, arith, List, [], ◌∷◌, ◌++◌, length, map, Result, Ok, Err, refl, sym, ◌∙◌, ap}
use Rattle.std.specs.Prelude.{sum_by, reverse, IfOk}
use Rattle.std.proofs.lemmas.List.{map-append, length-reverse, reverse-reverse}
use Rattle.std.proofs.lemmas.List.Sums.{sum_by-cons}
use Rattle.std.proofs.lemmas.Grind.{reverse_onto}
use Rattle.glif.specs.declared.shape.Point.{Point}
use Rattle.glif.specs.declared.shape.Outline.{Outline}
use Rattle.glif.specs.Shapes.{contour_kinds}
use Rattle.filters.specs.declared.refusal.FilterRefusal.{FilterRefusal}
use Rattle.filters.specs.Applied.{Applies}
use Rattle.filters.specs.Reverse.{turned, reversed}
use Rattle.filters.specs.Shift.{shifted_point, shifted}

-- ---- lists

map-reverse : {A B : Type 0} (f : A → B) (xs : List A) → map f (reverse xs) ≡ reverse (map f xs)
map-reverse f [] = refl
map-reverse f (x ∷ xs) =
    ap (map f) (reverse_onto xs x []) ∙ (map-append f (reverse xs) (x ∷ []) ∙ (ap (λ ys. ys ++ f x ∷ []) (map-reverse f xs) ∙ sym (reverse_onto (map f xs) (f x) [])))

map-map_same : {A B : Type 0} (f : A → B) (g : A → A) → ((x : A) → f (g x) ≡ f x) → (xs : List A) → map f (map g xs) ≡ map f xs
map-map_same f g same [] = refl
map-map_same f g same (x ∷ xs) = ap (λ y. y ∷ map f (map g xs)) (same x) ∙ ap (λ ys. f x ∷ ys) (map-map_same f g same xs)

sum_by-map_same : {A : Type 0} (f : A → ℕ) (g : A → A) → ((x : A) → f (g x) ≡ f x) → (xs : List A) → sum_by f (map g xs) ≡ sum_by f xs
sum_by-map_same f g same [] = refl
sum_by-map_same f g same (x ∷ xs) =
    let more = sum_by-map_same f g same xs in
    let first = same x in sum_by-cons f (g x) (map g xs) ∙ (omega (arith, first, more) ∙ sym (sum_by-cons f x xs))

length-map_same : {A B : Type 0} (f : A → B) (xs : List A) → length (map f xs) ≡ length xs
length-map_same f [] = refl
length-map_same f (x ∷ xs) = ap suc (length-map_same f xs)

-- ---- a contour the other way round

length-turned : {A : Type 0} (xs : List A) → length (turned xs) ≡ length xs
length-turned [] = refl
length-turned (x ∷ xs) = ap suc (length-reverse xs)

map-turned : {A B : Type 0} (f : A → B) (xs : List A) → map f (turned xs) ≡ turned (map f xs)
map-turned f [] = refl
map-turned f (x ∷ xs) = ap (λ ys. f x ∷ ys) (map-reverse f xs)

map-map_turned : {A B : Type 0} (f : A → B) (xss : List (List A)) → map (map f) (map turned xss) ≡ map turned (map (map f) xss)
map-map_turned f [] = refl
map-map_turned f (xs ∷ xss) = ap (λ ys. ys ∷ map (map f) (map turned xss)) (map-turned f xs) ∙ ap (λ yss. turned (map f xs) ∷ yss) (map-map_turned f xss)

pub kinds_reversed : (outline : Outline) → contour_kinds (reversed outline) ≡ map turned (contour_kinds outline)
kinds_reversed outline = map-map_turned (λ (point : Point). point.on) outline.contours

pub points_reversed : (outline : Outline) → sum_by length (reversed outline).contours ≡ sum_by length outline.contours
points_reversed outline = sum_by-map_same length turned length-turned outline.contours

-- outlines of equal kinds stay so
pub alike_reversed : (a b : Outline) → contour_kinds a ≡ contour_kinds b → contour_kinds (reversed a) ≡ contour_kinds (reversed b)
alike_reversed a b same = kinds_reversed a ∙ (ap (map turned) same ∙ sym (kinds_reversed b))

turned-turned : {A : Type 0} (xs : List A) → turned (turned xs) ≡ xs
turned-turned [] = refl
turned-turned (x ∷ xs) = ap (λ ys. x ∷ ys) (reverse-reverse xs)

map_turned-twice : {A : Type 0} (xss : List (List A)) → map turned (map turned xss) ≡ xss
map_turned-twice [] = refl
map_turned-twice (xs ∷ xss) = ap (λ ys. ys ∷ map turned (map turned xss)) (turned-turned xs) ∙ ap (λ yss. xs ∷ yss) (map_turned-twice xss)

-- twice the other way round is the outline itself
pub reversed-reversed : (outline : Outline) → reversed (reversed outline) ≡ outline
reversed-reversed outline = ap (λ (contours : List (List Point)). let image : Outline = record { advance = outline.advance; contours = contours } in image) (map_turned-twice outline.contours)

-- ---- an outline moved

pub kinds_shifted : (dx dy : ℤ) (outline : Outline) → contour_kinds (shifted dx dy outline) ≡ contour_kinds outline
kinds_shifted dx dy outline =
    map-map_same (map (λ (point : Point). point.on)) (map (shifted_point dx dy)) (map-map_same (λ (point : Point). point.on) (shifted_point dx dy) (λ point. refl)) outline.contours

pub points_shifted : (dx dy : ℤ) (outline : Outline) → sum_by length (shifted dx dy outline).contours ≡ sum_by length outline.contours
points_shifted dx dy outline = sum_by-map_same length (map (shifted_point dx dy)) (length-map_same (shifted_point dx dy)) outline.contours

pub alike_shifted : (dx dy : ℤ) (a b : Outline) → contour_kinds a ≡ contour_kinds b → contour_kinds (shifted dx dy a) ≡ contour_kinds (shifted dx dy b)
alike_shifted dx dy a b same = kinds_shifted dx dy a ∙ (same ∙ sym (kinds_shifted dx dy b))

-- ---- what a filter answers

-- a number or a list that the image has, an answer has too
pub applied_has : {A : Type 0} (of : Outline → A) (image : Outline) (value : A) (result : Result Outline FilterRefusal) → Applies image result → of image ≡ value → IfOk result (λ made. of made ≡ value)
applied_has of image value (Ok made) applies same = ap of applies.0 ∙ same
applied_has of image value (Err refusal) applies same = tt
