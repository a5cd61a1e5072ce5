-- Flattened outlines of drawings within limits are within limits, one for each drawing.
use Rattle.std.proofs.Common.{◌≡◌, ℕ, suc, ◌≤◌, ℤ, pos, ◌≤ℤ◌, Bool, true, false, cond, List, [], ◌∷◌, ◌++◌, length, map, All, Option, Some, None, refl, sym, ap, subst, arith}
use Rattle.std.specs.Prelude.{nat_le, sum_by}
use Rattle.std.specs.Option.{option_map, option_or}
use Rattle.std.specs.List.{AllZip}
use Rattle.std.proofs.lemmas.Grind.{common_steps}
use Rattle.std.proofs.lemmas.Bool.Decides.{nat_tests}
use Rattle.std.proofs.lemmas.List.{length-map}
use Rattle.std.proofs.lemmas.List.Elements.{All-nil, All-cons, All-head, All-tail, All-append, All-map, All-weaker}
use Rattle.basics.specs.declared.kinds.Kind.{Kind}
use Rattle.basics.specs.declared.kinds.Kind.TheVariants.{CoordinateRange, TooManyPoints}
use Rattle.glif.specs.Limits.{IsContourWithin, IsPointWithin, IsWithinLimits}
use Rattle.glif.specs.FirstOutside.{first_given, out_of, point_outside}
use Rattle.glif.specs.declared.shape.Point.{Point}
use Rattle.glif.specs.declared.shape.Outline.{Outline}
use Rattle.glif.specs.declared.shape.Component.{Component}
use Rattle.glif.specs.declared.shape.Drawing.{Drawing}
use Rattle.compat.specs.Flattened.{AreDrawn, AreFit, AreFlattened, IsFlatOutline, IsFlattened, IsNamed, coordinate_outside, drawn, moved, moved_contours, nothing, shown_count}
use Rattle.font_project.proofs.Passing.{below_length, item_is}

-- ---- where no coordinate is out of range

or_none_left : {A : Type 0} (a b : Option A) → option_or a b ≡ None → a ≡ None
or_none_left None b none = refl
or_none_left (Some x) b none = cc

or_none_right : {A : Type 0} (a b : Option A) → option_or a b ≡ None → b ≡ None
or_none_right None b none = none
or_none_right (Some x) b none = cc

in_range : (least greatest number : ℤ) → out_of least greatest number ≡ None → (least ≤ℤ number) × (number ≤ℤ greatest)
in_range least greatest number none = grind (arith, common_steps)

none_all : {A B : Type 0} (f : A → Option B) (P : A → Type 0) → ((item : A) → f item ≡ None → P item) → (items : List A) → first_given f items ≡ None → All P items
none_all f P each [] none = All-nil P
none_all f P each (item ∷ more) none = All-cons P item more (each item (or_none_left _ _ none)) (none_all f P each more (or_none_right _ _ none))

point_within : (point : Point) → point_outside point ≡ None → IsPointWithin point
point_within point none =
    let x = in_range _ _ _ (or_none_left _ _ none) in
    let y = in_range _ _ _ (or_none_right _ _ none) in
    record { least_x = x.0; greatest_x = x.1; least_y = y.0; greatest_y = y.1 }

points_within : (points : List Point) → first_given point_outside points ≡ None → All IsPointWithin points
points_within points none = none_all point_outside IsPointWithin point_within points none

-- ---- the contours

-- as many points as a contour may have
record IsSized (points : List Point) : Type 0 where
  least : 1 ≤ length points
  greatest : length points ≤ 1024

own_sized : (drawing : Drawing) → IsWithinLimits drawing.outline → All IsSized drawing.outline.contours
own_sized drawing within = All-weaker IsContourWithin IsSized (λ points contour. record { least = contour.least; greatest = contour.greatest }) drawing.outline.contours within.contours_within

moved_sized : (component : Component) (points : List Point) → IsSized points → IsSized (map (moved component) points)
moved_sized component points sized =
    let count : length (map (moved component) points) ≡ length points = length-map points (moved component) in
    record { least = omega (arith, sized.least); greatest = omega (arith, sized.greatest) }

named_within : (drawings : List Drawing) (name : List ℕ) (base : Drawing) → All (λ (drawing : Drawing). IsWithinLimits drawing.outline) drawings → IsNamed drawings name base → IsWithinLimits base.outline
named_within drawings name base within named =
    subst (λ (drawing : Drawing). IsWithinLimits drawing.outline) (item_is drawings named.number base base named.stands) (within named.number base (below_length drawings named.number base named.stands))

drawn_sized : (drawings : List Drawing) → All (λ (drawing : Drawing). IsWithinLimits drawing.outline) drawings → {components : List Component} {contours : List (List Point)} → AreDrawn drawings components contours → All IsSized contours
drawn_sized drawings within nothing = All-nil IsSized
drawn_sized drawings within (drawn {component} {more} {base} {below} {beside} named under next) =
    let inner : All IsSized (base.outline.contours ++ below) = All-append IsSized base.outline.contours below (own_sized base (named_within drawings component.base base within named)) (drawn_sized drawings within under) in
    All-append IsSized (moved_contours component (base.outline.contours ++ below)) beside
    (All-map IsSized (map (moved component)) (base.outline.contours ++ below) (All-weaker IsSized (λ points. IsSized (map (moved component) points)) (moved_sized component) (base.outline.contours ++ below) inner))
    (drawn_sized drawings within next)

flattened_sized : (drawings : List Drawing) (drawing : Drawing) (contours : List (List Point)) → All (λ (drawing : Drawing). IsWithinLimits drawing.outline) drawings → IsWithinLimits drawing.outline → IsFlattened drawings drawing contours → All IsSized contours
flattened_sized drawings drawing contours within own flat =
    subst (All IsSized) (sym flat.whole) (All-append IsSized drawing.outline.contours flat.below (own_sized drawing own) (drawn_sized drawings within flat.drawn_below))

-- ---- the outlines

-- a choice that is nothing
few_and_inside : (few : Bool) (value : Option ℤ) (kind : Kind × ℤ) → cond few (option_map (λ value. (CoordinateRange, value)) value) (Some kind) ≡ None → (few ≡ true) × (value ≡ None)
few_and_inside true None kind none = (refl, refl)
few_and_inside true (Some value) kind none = cc
few_and_inside false value kind none = cc

both_sized : (contours : List (List Point)) → All IsSized contours → All (All IsPointWithin) contours → All IsContourWithin contours
both_sized contours sized inside k d below =
    record { least = (sized k d below).least; greatest = (sized k d below).greatest; points_within = inside k d below }

outline_within : (drawings : List Drawing) (drawing : Drawing) (outline : Outline) → All (λ (drawing : Drawing). IsWithinLimits drawing.outline) drawings → IsWithinLimits drawing.outline → IsFlatOutline drawings drawing outline → IsWithinLimits outline
outline_within drawings drawing outline within own flat =
    let parts = few_and_inside (nat_le (sum_by length outline.contours) 4000) (coordinate_outside outline.contours) (TooManyPoints, pos (shown_count outline.contours)) flat.within in
    let inside : All (All IsPointWithin) outline.contours = none_all (first_given point_outside) (All IsPointWithin) points_within outline.contours parts.1 in
    let few : sum_by length outline.contours ≤ 4000 = grind (arith, nat_tests, parts.0) in
    record {
      least_advance = subst (λ n. pos 0 ≤ℤ n) (sym flat.advance) own.least_advance;
      greatest_advance = subst (λ n. n ≤ℤ pos 16383) (sym flat.advance) own.greatest_advance;
      contours_within = both_sized outline.contours (flattened_sized drawings drawing outline.contours within own flat.flattened) inside;
      points = few;
    }

all_within : (drawings some : List Drawing) (outlines : List Outline) → All (λ (drawing : Drawing). IsWithinLimits drawing.outline) drawings → All (λ (drawing : Drawing). IsWithinLimits drawing.outline) some
    → AllZip (IsFlatOutline drawings) some outlines → (length outlines ≡ length some) × All IsWithinLimits outlines
all_within drawings [] [] within own flat = (refl, All-nil IsWithinLimits)
all_within drawings [] (outline ∷ outlines) within own flat = absurd flat
all_within drawings (drawing ∷ more) [] within own flat = absurd flat
all_within drawings (drawing ∷ more) (outline ∷ outlines) within own flat =
    let P : Drawing → Type 0 = λ drawing. IsWithinLimits drawing.outline in
    let rest = all_within drawings more outlines within (All-tail P drawing more own) flat.1 in
    (ap suc rest.0, All-cons IsWithinLimits outline outlines (outline_within drawings drawing outline within (All-head P drawing more own) flat.0) rest.1)

-- what is flattened
pub flattened_within : (drawings : List Drawing) (outlines : List Outline) → AreFit drawings → AreFlattened drawings outlines → (length outlines ≡ length drawings) × All IsWithinLimits outlines
flattened_within drawings outlines fit flat = all_within drawings drawings outlines fit.within fit.within flat.each
