-- The bounds of points: their law, their steps in a loop, and that they have 16 bits.
use Rattle.std.proofs.Common.{◌≡◌, ℕ, ℤ, pos, negsuc, ◌≤◌, Bool, true, List, [], ◌∷◌, length, take, fold, FitsSigned, ◌&&◌, refl, sym, ap, subst, ◌∙◌, inl, inr, arith}
use Rattle.std.proofs.lemmas.Bool.Decides.{Decides-int_eq}
use Rattle.std.proofs.lemmas.Int.{fold-int_max_bounds, fold-int_max_reached, fold-int_min_bounds, fold-int_min_reached, ints}
use Rattle.std.proofs.lemmas.List.{take_all}
use Rattle.std.proofs.lemmas.List.Elements.{All-cons, All-contains, All-map, All-weaker, Contains-append_right, Contains-get_or}
use Rattle.std.specs.Prelude.{◌≤ℤ◌, All, Contains}
use Rattle.std.specs.Int.{int_max, int_min, w16}
use Rattle.std.specs.Ordering.{int_eq}
use Rattle.glif.specs.Limits.{IsPointWithin}
use Rattle.glif.specs.declared.shape.Point.{Point}
use Rattle.glyf_loca.specs.declared.extent.Bounds.{Bounds}
use Rattle.glyf_loca.specs.Bounds.{BoundsLaw, IsGreatest, IsLeast, bounds_of, greatest, least, same_bounds, xs_of, ys_of}

-- ---- least and greatest

pub least_is : (z : ℤ) (zs : List ℤ) → IsLeast (least (z ∷ zs)) (z ∷ zs)
least_is z zs =
    let r : ℤ = fold int_min z zs in
    let bounds = fold-int_min_bounds z zs r refl in
    record {
      there = elim (fold-int_min_reached z zs r refl) [ inl first ↦ subst (Contains (z ∷ zs)) (sym first) (Contains-get_or (z ∷ zs) 0 z (omega arith)) | inr later ↦ Contains-append_right (z ∷ []) zs r later ];
      below = All-cons (λ other. r ≤ℤ other) z zs bounds.0 bounds.1;
    }

pub greatest_is : (z : ℤ) (zs : List ℤ) → IsGreatest (greatest (z ∷ zs)) (z ∷ zs)
greatest_is z zs =
    let r : ℤ = fold int_max z zs in
    let bounds = fold-int_max_bounds z zs r refl in
    record {
      there = elim (fold-int_max_reached z zs r refl) [ inl first ↦ subst (Contains (z ∷ zs)) (sym first) (Contains-get_or (z ∷ zs) 0 z (omega arith)) | inr later ↦ Contains-append_right (z ∷ []) zs r later ];
      above = All-cons (λ other. other ≤ℤ r) z zs bounds.0 bounds.1;
    }

pub bounds_are : BoundsLaw
unfolding bounds_of
bounds_are [] some = absurd (some refl)
bounds_are (point ∷ points) some = record {
  x_min = least_is point.x (xs_of points);
  y_min = least_is point.y (ys_of points);
  x_max = greatest_is point.x (xs_of points);
  y_max = greatest_is point.y (ys_of points);
}

-- ---- one number after another

same_four : (a b c d p q r s : ℤ) → a ≡ p → b ≡ q → c ≡ r → d ≡ s → let first : Bounds = record { x_min = a; y_min = b; x_max = c; y_max = d } in let second : Bounds = record { x_min = p; y_min = q; x_max = r; y_max = s } in first ≡ second
same_four a b c d p q r s x_min y_min x_max y_max = cc

-- the fold over the rest of the points from the bounds of the first one
pub bounds_by_steps : (point : Point) (rest : List Point) (i : ℕ) (first bounds : Bounds) → length rest ≤ i → first ≡ record { x_min = point.x; y_min = point.y; x_max = point.x; y_max = point.y }
    → bounds.x_min ≡ fold int_min first.x_min (xs_of (take i rest)) → bounds.y_min ≡ fold int_min first.y_min (ys_of (take i rest)) → bounds.x_max ≡ fold int_max first.x_max (xs_of (take i rest)) → bounds.y_max ≡ fold int_max first.y_max (ys_of (take i rest))
    → bounds ≡ bounds_of (point ∷ rest)
unfolding bounds_of
bounds_by_steps point rest i first bounds all first_is x_min y_min x_max y_max =
    let whole : take i rest ≡ rest = take_all i rest all in
    same_four bounds.x_min bounds.y_min bounds.x_max bounds.y_max (least (xs_of (point ∷ rest))) (least (ys_of (point ∷ rest))) (greatest (xs_of (point ∷ rest))) (greatest (ys_of (point ∷ rest)))
    (x_min ∙ ap (λ (b : Bounds). fold int_min b.x_min (xs_of (take i rest))) first_is ∙ ap (λ (ps : List Point). fold int_min point.x (xs_of ps)) whole)
    (y_min ∙ ap (λ (b : Bounds). fold int_min b.y_min (ys_of (take i rest))) first_is ∙ ap (λ (ps : List Point). fold int_min point.y (ys_of ps)) whole)
    (x_max ∙ ap (λ (b : Bounds). fold int_max b.x_max (xs_of (take i rest))) first_is ∙ ap (λ (ps : List Point). fold int_max point.x (xs_of ps)) whole)
    (y_max ∙ ap (λ (b : Bounds). fold int_max b.y_max (ys_of (take i rest))) first_is ∙ ap (λ (ps : List Point). fold int_max point.y (ys_of ps)) whole)

-- ---- ranges

pub record IsCoordinate (z : ℤ) : Type 0 where
  pub low : negsuc 16383 ≤ℤ z
  pub high : z ≤ℤ pos 16383

pub x_within : (point : Point) → IsPointWithin point → IsCoordinate point.x
x_within point own = record { low = own.least_x; high = own.greatest_x }

pub y_within : (point : Point) → IsPointWithin point → IsCoordinate point.y
y_within point own = record { low = own.least_y; high = own.greatest_y }

pub xs_within : (points : List Point) → All IsPointWithin points → All IsCoordinate (xs_of points)
xs_within points each = All-map IsCoordinate (λ (point : Point). point.x) points (All-weaker IsPointWithin (λ point. IsCoordinate point.x) x_within points each)

pub ys_within : (points : List Point) → All IsPointWithin points → All IsCoordinate (ys_of points)
ys_within points each = All-map IsCoordinate (λ (point : Point). point.y) points (All-weaker IsPointWithin (λ point. IsCoordinate point.y) y_within points each)

coordinate_fits : (z : ℤ) → IsCoordinate z → FitsSigned w16 z
coordinate_fits z own = omega (arith, ints, own.low, own.high)

least_fits : (zs : List ℤ) → All IsCoordinate zs → FitsSigned w16 (least zs)
least_fits [] each = omega (arith, ints)
least_fits (z ∷ zs) each = coordinate_fits (least (z ∷ zs)) (All-contains IsCoordinate (z ∷ zs) (least (z ∷ zs)) each (least_is z zs).there)

greatest_fits : (zs : List ℤ) → All IsCoordinate zs → FitsSigned w16 (greatest zs)
greatest_fits [] each = omega (arith, ints)
greatest_fits (z ∷ zs) each = coordinate_fits (greatest (z ∷ zs)) (All-contains IsCoordinate (z ∷ zs) (greatest (z ∷ zs)) each (greatest_is z zs).there)

pub record FitsBounds (bounds : Bounds) : Type 0 where
  pub x_min : FitsSigned w16 bounds.x_min
  pub y_min : FitsSigned w16 bounds.y_min
  pub x_max : FitsSigned w16 bounds.x_max
  pub y_max : FitsSigned w16 bounds.y_max

pub bounds_fit : (points : List Point) → All IsPointWithin points → FitsBounds (bounds_of points)
unfolding bounds_of
bounds_fit points each = record {
  x_min = least_fits (xs_of points) (xs_within points each);
  y_min = least_fits (ys_of points) (ys_within points each);
  x_max = greatest_fits (xs_of points) (xs_within points each);
  y_max = greatest_fits (ys_of points) (ys_within points each);
}

-- ---- a test of equality

itself : (z : ℤ) → int_eq z z ≡ true
itself z = (Decides-int_eq z z).1 refl

all_true : (a b c d : Bool) → a ≡ true → b ≡ true → c ≡ true → d ≡ true → (a && (b && (c && d))) ≡ true
all_true a b c d p q r s = rw (p, q, r, s) refl

pub same_as_itself : (bounds : Bounds) → same_bounds bounds bounds ≡ true
same_as_itself bounds = all_true _ _ _ _ (itself bounds.x_min) (itself bounds.y_min) (itself bounds.x_max) (itself bounds.y_max)
