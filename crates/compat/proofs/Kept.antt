-- What is kept of a drawing stands for its flattened outline, where what is kept of its bases stands for theirs.
use Rattle.std.proofs.Common.{◌≡◌, ◌≤◌, ◌<◌, ℕ, suc, ◌+◌, min, pos, Bool, true, false, cond, List, [], ◌∷◌, ◌++◌, length, map, get_or, Option, Some, None, refl, sym, ◌∙◌, ap, subst, arith}
use Rattle.std.specs.Prelude.{All, sum_by, is_none, nat_le}
use Rattle.std.specs.Option.{option_or, option_map}
use Rattle.std.specs.List.{position_from, filter_map, cons_option, AllZip}
use Rattle.std.specs.Str.{bytes_eq}
use Rattle.std.proofs.lemmas.Int.{ints}
use Rattle.std.proofs.lemmas.Bool.{leb-true, leb-false}
use Rattle.std.proofs.lemmas.Option.{slice_get-get_or, same_Some}
use Rattle.std.proofs.lemmas.List.{length-map}
use Rattle.std.proofs.lemmas.List.Sums.{sum_by-cons, sum_by-append}
use Rattle.std.proofs.lemmas.List.Elements.{All-nil, All-cons, All-head, All-tail, All-append, All-map, All-weaker}
use Rattle.glif.specs.Limits.{IsPointWithin, IsContourWithin, IsWithinLimits, IsOffsetWithin}
use Rattle.glif.specs.declared.shape.Point.{Point}
use Rattle.glif.specs.declared.shape.Outline.{Outline}
use Rattle.glif.specs.declared.shape.Component.{Component}
use Rattle.glif.specs.declared.shape.Drawing.{Drawing}
use Rattle.compat.specs.Names.{number_of, dangling_in, dangling_refusal, dangling_from}
use Rattle.compat.specs.Flattened.{moved, moved_contours, AreDrawn, nothing, drawn}
use Rattle.compat.specs.Flats.{IsPointNear, AreNear, IsFlatOf, IsKept, CanMove, flat_at, flat_contours, flat_count, joint_count, drawn_contours, AreMovable, joined_flat}
use Rattle.compat.specs.declared.flat.Flat.{Flat}
use Rattle.compat.specs.declared.flat.Flat.TheVariants.{Unknown, Few, Many}

-- ---- names

abbrev pub blank : Drawing
blank = record { name = []; outline = record { advance = pos 0; contours = [] }; components = []; codes = [] }

first_or_later : (count n rest : ℕ) (later : Option ℕ) → (later ≡ Some n → n < count + 1 + rest) → (test : Bool) → cond test (Some count) later ≡ Some n → n < count + suc rest
first_or_later count n rest later less true found = let same = same_Some count n found in omega (arith, same)
first_or_later count n rest later less false found = let l = less found in omega (arith, l)

position_known : {X : Type 0} (p : X → Bool) (count : ℕ) (xs : List X) (n : ℕ) → position_from p count xs ≡ Some n → n < count + length xs
position_known p count [] n found = cc
position_known p count (x ∷ xs) n found =
    let step : (test : Bool) → cond test (Some count) (position_from p (count + 1) xs) ≡ Some n → n < count + length (x ∷ xs) = first_or_later count n (length xs) (position_from p (count + 1) xs) (λ later. position_known p (count + 1) xs n later) in
    step (p x) found

pub number_known : (drawings : List Drawing) (name : List ℕ) (n : ℕ) → number_of drawings name ≡ Some n → n < length drawings
number_known drawings name n found = let less = position_known (λ (drawing : Drawing). bytes_eq drawing.name name) 0 drawings n found in omega (arith, less)

-- ---- points

near_moved : (component : Component) (bound : ℕ) → IsOffsetWithin component → (point : Point) → IsPointNear bound point → IsPointNear (bound + 1) (moved component point)
near_moved component bound offset point near = record {
  least_x = omega (arith, ints, offset.least_x, near.least_x);
  greatest_x = omega (arith, ints, offset.greatest_x, near.greatest_x);
  least_y = omega (arith, ints, offset.least_y, near.least_y);
  greatest_y = omega (arith, ints, offset.greatest_y, near.greatest_y);
}

pub all_near_moved : (component : Component) (bound : ℕ) → IsOffsetWithin component → (contours : List (List Point)) → AreNear bound contours → AreNear (bound + 1) (moved_contours component contours)
all_near_moved component bound offset contours near =
    All-map (All (IsPointNear (bound + 1))) (map (moved component)) contours
    (All-weaker (All (IsPointNear bound)) (λ points. All (IsPointNear (bound + 1)) (map (moved component) points))
    (λ points all. All-map (IsPointNear (bound + 1)) (moved component) points (All-weaker (IsPointNear bound) (λ point. IsPointNear (bound + 1) (moved component point)) (near_moved component bound offset) points all))
    contours near)

near_can_move : (component : Component) (bound : ℕ) → bound ≤ 32510 → IsOffsetWithin component → (point : Point) → IsPointNear bound point → CanMove component point
near_can_move component bound few offset point near = record {
  x = omega (arith, ints, few, offset.least_x, offset.greatest_x, near.least_x, near.greatest_x);
  y = omega (arith, ints, few, offset.least_y, offset.greatest_y, near.least_y, near.greatest_y);
}

pub all_can_move : (component : Component) (bound : ℕ) → bound ≤ 32510 → IsOffsetWithin component → (contours : List (List Point)) → AreNear bound contours → All (All (CanMove component)) contours
all_can_move component bound few offset contours near =
    All-weaker (All (IsPointNear bound)) (All (CanMove component)) (λ points all. All-weaker (IsPointNear bound) (CanMove component) (near_can_move component bound few offset) points all) contours near

nearer : (low high : ℕ) → low ≤ high → (point : Point) → IsPointNear low point → IsPointNear high point
nearer low high less point near = record {
  least_x = omega (arith, ints, less, near.least_x);
  greatest_x = omega (arith, ints, less, near.greatest_x);
  least_y = omega (arith, ints, less, near.least_y);
  greatest_y = omega (arith, ints, less, near.greatest_y);
}

pub all_nearer : (low high : ℕ) → low ≤ high → (contours : List (List Point)) → AreNear low contours → AreNear high contours
all_nearer low high less contours near =
    All-weaker (All (IsPointNear low)) (All (IsPointNear high)) (λ points all. All-weaker (IsPointNear low) (IsPointNear high) (nearer low high less) points all) contours near

within_near : (point : Point) → IsPointWithin point → IsPointNear 1 point
within_near point within = record {
  least_x = omega (arith, ints, within.least_x);
  greatest_x = omega (arith, ints, within.greatest_x);
  least_y = omega (arith, ints, within.least_y);
  greatest_y = omega (arith, ints, within.greatest_y);
}

pub own_near : (outline : Outline) → IsWithinLimits outline → AreNear 1 outline.contours
own_near outline within =
    All-weaker IsContourWithin (All (IsPointNear 1)) (λ points contour. All-weaker IsPointWithin (IsPointNear 1) within_near points contour.points_within) outline.contours within.contours_within

-- ---- counts

sum_moved : (component : Component) (contours : List (List Point)) → sum_by length (moved_contours component contours) ≡ sum_by length contours
sum_moved component [] = refl
sum_moved component (points ∷ contours) =
    let first : length (map (moved component) points) ≡ length points = simp length-map in
    let left = sum_by-cons length (map (moved component) points) (moved_contours component contours) in
    let right = sum_by-cons length points contours in
    let more = sum_moved component contours in
    omega (arith, first, left, right, more)

-- ---- one base

record IsBase (drawings : List Drawing) (bound : ℕ) (component : Component) (base : Drawing) (flat : Flat) : Type 0 where
  below : List (List Point)
  drawn_below : AreDrawn drawings base.components below
  count : min (sum_by length (moved_contours component (base.outline.contours ++ below))) 1000000000 ≡ min (flat_count flat) 1000000000
  few : flat_count flat ≤ 4000 → (moved_contours component (base.outline.contours ++ below) ≡ moved_contours component (flat_contours flat)) × AreNear (bound + 1) (moved_contours component (base.outline.contours ++ below))

one_base : (drawings : List Drawing) (bound : ℕ) (component : Component) (base : Drawing) → IsOffsetWithin component → (flat : Flat) → IsFlatOf drawings bound base flat → IsBase drawings bound component base flat
one_base drawings bound component base offset Unknown kept = absurd kept
one_base drawings bound component base offset (Few contours points) kept =
    let moved_sum = sum_moved component (base.outline.contours ++ kept.0.below) in
    let whole = ap (sum_by length) kept.0.whole in
    record {
      below = kept.0.below;
      drawn_below = kept.0.drawn_below;
      count = omega (arith, moved_sum, whole, kept.3);
      few = λ small. (ap (moved_contours component) (sym kept.0.whole), subst (λ c. AreNear (bound + 1) (moved_contours component c)) kept.0.whole (all_near_moved component bound offset contours kept.2));
    }
one_base drawings bound component base offset (Many points) kept =
    let moved_sum = sum_moved component (base.outline.contours ++ kept.1.below) in
    let whole = ap (sum_by length) kept.1.whole in
    record {
      below = kept.1.below;
      drawn_below = kept.1.drawn_below;
      count = omega (arith, moved_sum, whole, kept.3);
      few = λ small. absurd (omega (arith, small, kept.2, kept.3));
    }

-- ---- all components

abbrev pub count_all : List Flat → List ℕ → ℕ
count_all flats bases = sum_by (λ base. flat_count (flat_at flats base)) bases

pub record IsPlacing (drawings : List Drawing) (flats : List Flat) (bound : ℕ) (components : List Component) (bases : List ℕ) : Type 0 where
  pub contours : List (List Point)
  pub drawn_all : AreDrawn drawings components contours
  pub count : min (sum_by length contours) 1000000000 ≡ min (count_all flats bases) 1000000000
  pub few : count_all flats bases ≤ 4000 → (contours ≡ drawn_contours flats components bases) × AreNear (bound + 1) contours

abbrev pub IsBaseOf : List Drawing → Component → ℕ → Type 0
IsBaseOf drawings component number = number_of drawings component.base ≡ Some number

pub placing : (drawings : List Drawing) (flats : List Flat) (bound : ℕ) (components : List Component) (bases : List ℕ) → AllZip (IsBaseOf drawings) components bases → All IsOffsetWithin components
    → All (IsKept drawings bound flats) bases → IsPlacing drawings flats bound components bases
placing drawings flats bound [] [] named offsets kept = record { contours = []; drawn_all = nothing; count = refl; few = λ small. (refl, All-nil (All (IsPointNear (bound + 1)))) }
placing drawings flats bound [] (number ∷ bases) named offsets kept = absurd named
placing drawings flats bound (component ∷ components) [] named offsets kept = absurd named
placing drawings flats bound (component ∷ components) (number ∷ bases) named offsets kept =
    let base = get_or drawings number blank in
    let stands = slice_get-get_or drawings number blank (number_known drawings component.base number named.0) in
    let first = one_base drawings bound component base (All-head IsOffsetWithin component components offsets) (flat_at flats number) (All-head (IsKept drawings bound flats) number bases kept base stands) in
    let more = placing drawings flats bound components bases named.1 (All-tail IsOffsetWithin component components offsets) (All-tail (IsKept drawings bound flats) number bases kept) in
    let sums = sum_by-append length (moved_contours component (base.outline.contours ++ first.below)) more.contours in
    let counts = sum_by-cons (λ base. flat_count (flat_at flats base)) number bases in
    record {
      contours = moved_contours component (base.outline.contours ++ first.below) ++ more.contours;
      drawn_all = drawn (record { number = number; named = named.0; stands = stands }) first.drawn_below more.drawn_all;
      count = omega (arith, sums, counts, first.count, more.count);
      few = λ small. let here = first.few (omega (arith, small, counts)) in let there = more.few (omega (arith, small, counts)) in (
        ap (λ c. c ++ more.contours) here.0 ∙ ap (λ c. moved_contours component (flat_contours (flat_at flats number)) ++ c) there.0,
        All-append (All (IsPointNear (bound + 1))) (moved_contours component (base.outline.contours ++ first.below)) more.contours here.1 there.1,
      );
    }

-- ---- the drawing

joined_by : (drawings : List Drawing) (flats : List Flat) (bound : ℕ) (drawing : Drawing) (bases : List ℕ) → IsPlacing drawings flats bound drawing.components bases → AreNear 1 drawing.outline.contours
    → (test : Bool) → nat_le (joint_count flats drawing.outline.contours bases) 4000 ≡ test
    → IsFlatOf drawings (bound + 1) drawing (cond test (Few (drawing.outline.contours ++ drawn_contours flats drawing.components bases) (joint_count flats drawing.outline.contours bases)) (Many (joint_count flats drawing.outline.contours bases)))
joined_by drawings flats bound drawing bases placing own true is =
    let small = leb-true (joint_count flats drawing.outline.contours bases) 4000 is in
    let few = placing.few (omega (arith, small)) in
    let whole : drawing.outline.contours ++ drawn_contours flats drawing.components bases ≡ drawing.outline.contours ++ placing.contours = ap (λ c. drawing.outline.contours ++ c) (sym few.0) in
    let sums = ap (sum_by length) whole ∙ sum_by-append length drawing.outline.contours placing.contours in (
      record { below = placing.contours; drawn_below = placing.drawn_all; whole = whole },
      omega (arith, small, sums, placing.count),
      subst (AreNear (bound + 1)) (sym whole) (All-append (All (IsPointNear (bound + 1))) drawing.outline.contours placing.contours (all_nearer 1 (bound + 1) (omega arith) drawing.outline.contours own) few.1),
      omega (arith, small, sums, placing.count),
    )
joined_by drawings flats bound drawing bases placing own false is =
    let large = leb-false (joint_count flats drawing.outline.contours bases) 4000 is in
    let sums = sum_by-append length drawing.outline.contours placing.contours in (
      drawing.outline.contours ++ placing.contours,
      record { below = placing.contours; drawn_below = placing.drawn_all; whole = refl },
      omega (arith, large, sums, placing.count),
      omega (arith, sums, placing.count),
    )

pub kept_joined : (drawings : List Drawing) (flats : List Flat) (bound : ℕ) (drawing : Drawing) (bases : List ℕ) → AllZip (IsBaseOf drawings) drawing.components bases → All IsOffsetWithin drawing.components
    → IsWithinLimits drawing.outline → All (IsKept drawings bound flats) bases → IsFlatOf drawings (bound + 1) drawing (joined_flat flats drawing bases)
kept_joined drawings flats bound drawing bases named offsets within kept =
    joined_by drawings flats bound drawing bases (placing drawings flats bound drawing.components bases named offsets kept) (own_near drawing.outline within) (nat_le (joint_count flats drawing.outline.contours bases) 4000) refl

-- ---- what can be moved

flat_can_move : (drawings : List Drawing) (bound : ℕ) (component : Component) (base : Drawing) → bound ≤ 32510 → IsOffsetWithin component → (flat : Flat) → IsFlatOf drawings bound base flat → All (All (CanMove component)) (flat_contours flat)
flat_can_move drawings bound component base few offset Unknown kept = absurd kept
flat_can_move drawings bound component base few offset (Few contours points) kept = all_can_move component bound few offset contours kept.2
flat_can_move drawings bound component base few offset (Many points) kept = All-nil (All (CanMove component))

pub all_movable : (drawings : List Drawing) (flats : List Flat) (bound : ℕ) (components : List Component) (bases : List ℕ) → bound ≤ 32510 → AllZip (IsBaseOf drawings) components bases → All IsOffsetWithin components
    → All (IsKept drawings bound flats) bases → AreMovable flats components bases
all_movable drawings flats bound [] bases few named offsets kept = tt
all_movable drawings flats bound (component ∷ components) [] few named offsets kept = tt
all_movable drawings flats bound (component ∷ components) (number ∷ bases) few named offsets kept =
    let base = get_or drawings number blank in
    let stands = slice_get-get_or drawings number blank (number_known drawings component.base number named.0) in (
      flat_can_move drawings bound component base few (All-head IsOffsetWithin component components offsets) (flat_at flats number) (All-head (IsKept drawings bound flats) number bases kept base stands),
      all_movable drawings flats bound components bases few named.1 (All-tail IsOffsetWithin component components offsets) (All-tail (IsKept drawings bound flats) number bases kept),
    )

-- ---- components that all have bases

named_step : (number : List ℕ → Option ℕ) (component : Component) (components : List Component) (count : ℕ)
    → (position_from (λ (component : Component). is_none (number component.base)) (count + 1) components ≡ None → AllZip (λ (component : Component) n. number component.base ≡ Some n) components (filter_map (λ (component : Component). number component.base) components))
    → (found : Option ℕ) → number component.base ≡ found
    → cond (is_none found) (Some count) (position_from (λ (component : Component). is_none (number component.base)) (count + 1) components) ≡ None
    → AllZip (λ (component : Component) n. number component.base ≡ Some n) (component ∷ components) (cons_option found (filter_map (λ (component : Component). number component.base) components))
named_step number component components count more None is none = cc
named_step number component components count more (Some n) is none = (is, more none)

or_none_left : {A : Type 0} (a b : Option A) → option_or a b ≡ None → a ≡ None
or_none_left None b none = refl
or_none_left (Some x) b none = cc

or_none_right : {A : Type 0} (a b : Option A) → option_or a b ≡ None → b ≡ None
or_none_right None b none = none
or_none_right (Some x) b none = cc

map_none : {A B : Type 0} (f : A → B) (a : Option A) → option_map f a ≡ None → a ≡ None
map_none f None none = refl
map_none f (Some x) none = cc

pub named_all : (number : List ℕ → Option ℕ) (components : List Component) (count : ℕ) → position_from (λ (component : Component). is_none (number component.base)) count components ≡ None
    → AllZip (λ (component : Component) n. number component.base ≡ Some n) components (filter_map (λ (component : Component). number component.base) components)
named_all number [] count none = tt
named_all number (component ∷ components) count none = named_step number component components count (named_all number components (count + 1)) (number component.base) refl none

pub none_dangle : (number : List ℕ → Option ℕ) (count : ℕ) (drawings : List Drawing) → dangling_from number count drawings ≡ None → All (λ drawing. dangling_in number drawing ≡ None) drawings
none_dangle number count [] none = All-nil (λ drawing. dangling_in number drawing ≡ None)
none_dangle number count (drawing ∷ drawings) none =
    All-cons (λ drawing. dangling_in number drawing ≡ None) drawing drawings (map_none (dangling_refusal count) (dangling_in number drawing) (or_none_left _ _ none)) (none_dangle number (count + 1) drawings (or_none_right _ _ none))
