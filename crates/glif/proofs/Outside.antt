-- An outline has no number out of limits exactly where it is within limits.
use Rattle.std.proofs.Common.{◌≡◌, ◌≤◌, ℕ, ◌-◌, ◌^◌, min, ℤ, pos, ◌≤ℤ◌, List, [], ◌∷◌, length, Option, Some, None, refl, arith}
use Rattle.std.proofs.lemmas.Grind.{common_steps}
use Rattle.std.proofs.lemmas.Int.{ints}
use Rattle.std.proofs.lemmas.List.Elements.{All-nil, All-cons, All-head, All-tail}
use Rattle.std.specs.Prelude.{All}
use Rattle.std.specs.Option.{option_or}
use Rattle.glif.specs.declared.shape.Point.{Point}
use Rattle.glif.specs.declared.shape.Outline.{Outline}
use Rattle.glif.specs.Limits.{IsPointWithin, IsContourWithin, IsWithinLimits}
use Rattle.glif.specs.FirstOutside.{out_of, first_given, point_outside, contour_outside, point_count, first_outside}

or_none_left : {A : Type 0} (a b : Option A) → option_or a b ≡ None → a ≡ None
or_none_left None b none = refl
or_none_left (Some x) b none = cc

or_none_right : {A : Type 0} (a b : Option A) → option_or a b ≡ None → b ≡ None
or_none_right None b none = none
or_none_right (Some x) b none = cc

both_none : {A : Type 0} (a b : Option A) → a ≡ None → b ≡ None → option_or a b ≡ None
both_none None b first second = second
both_none (Some x) b first second = cc

in_range : (least greatest number : ℤ) → out_of least greatest number ≡ None → (least ≤ℤ number) × (number ≤ℤ greatest)
in_range least greatest number none = grind (arith, common_steps)

none_in_range : (least greatest number : ℤ) → least ≤ℤ number → number ≤ℤ greatest → out_of least greatest number ≡ None
none_in_range least greatest number above below = grind (arith, common_steps)

pos_le : (a b : ℕ) → pos a ≤ℤ pos b → a ≤ b
pos_le a b h = omega (arith, ints)

le_pos : (a b : ℕ) → a ≤ b → pos a ≤ℤ pos b
le_pos a b h = omega (arith, ints)

few : {n : ℕ} → min n (2 ^ 63 - 1) ≤ 4000 → n ≤ 4000
few h = omega arith

many : {n : ℕ} → n ≤ 4000 → min n (2 ^ 63 - 1) ≤ 4000
many h = omega arith

none_all : {A B : Type 0} (f : A → Option B) (P : A → Type 0) → ((item : A) → f item ≡ None → P item) → (items : List A) → first_given f items ≡ None → All P items
none_all f P each [] none = All-nil P
none_all f P each (item ∷ more) none = All-cons P item more (each item (or_none_left _ _ none)) (none_all f P each more (or_none_right _ _ none))

all_none : {A B : Type 0} (f : A → Option B) (P : A → Type 0) → ((item : A) → P item → f item ≡ None) → (items : List A) → All P items → first_given f items ≡ None
all_none f P each [] all = refl
all_none f P each (item ∷ more) all = both_none _ _ (each item (All-head P item more all)) (all_none f P each more (All-tail P item more all))

point_within : (point : Point) → point_outside point ≡ None → IsPointWithin point
point_within point none =
    let x = in_range _ _ _ (or_none_left _ _ none) in
    let y = in_range _ _ _ (or_none_right _ _ none) in
    record { least_x = x.0; greatest_x = x.1; least_y = y.0; greatest_y = y.1 }

within_point : (point : Point) → IsPointWithin point → point_outside point ≡ None
within_point point within = both_none _ _ (none_in_range _ _ _ within.least_x within.greatest_x) (none_in_range _ _ _ within.least_y within.greatest_y)

contour_within : (points : List Point) → contour_outside points ≡ None → IsContourWithin points
contour_within points none =
    let count = in_range (pos 1) (pos 1024) (pos (length points)) (or_none_left _ _ none) in
    record { least = pos_le _ _ count.0; greatest = pos_le _ _ count.1; points_within = none_all point_outside IsPointWithin point_within points (or_none_right _ _ none) }

within_contour : (points : List Point) → IsContourWithin points → contour_outside points ≡ None
within_contour points within = both_none _ _ (none_in_range (pos 1) (pos 1024) (pos (length points)) (le_pos _ _ within.least) (le_pos _ _ within.greatest)) (all_none point_outside IsPointWithin within_point points within.points_within)

pub none_within : (outline : Outline) → first_outside outline ≡ None → IsWithinLimits outline
none_within outline none =
    let advance = in_range (pos 0) (pos 16383) outline.advance (or_none_left _ _ none) in
    let others = or_none_right _ _ none in
    let count = in_range (pos 0) (pos 4000) (pos (point_count outline.contours)) (or_none_right _ _ others) in
    record {
      least_advance = advance.0;
      greatest_advance = advance.1;
      contours_within = none_all contour_outside IsContourWithin contour_within outline.contours (or_none_left _ _ others);
      points = few (pos_le _ _ count.1);
    }

pub within_none : (outline : Outline) → IsWithinLimits outline → first_outside outline ≡ None
within_none outline within =
    both_none _ _ (none_in_range (pos 0) (pos 16383) outline.advance within.least_advance within.greatest_advance)
    (both_none _ _ (all_none contour_outside IsContourWithin within_contour outline.contours within.contours_within)
    (none_in_range (pos 0) (pos 4000) (pos (point_count outline.contours)) (le_pos _ _ (omega arith)) (le_pos _ _ (many within.points))))
