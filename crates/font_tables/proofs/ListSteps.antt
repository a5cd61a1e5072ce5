-- What is left of a list gives what the whole gives, one step on and at the end.
use Rattle.std.proofs.Common.{◌≡◌, ℕ, zero, suc, ◌+◌, ◌<◌, ◌≤◌, min, Bool, List, [], ◌∷◌, All, length, get_or, take, drop, sum_by, refl, sym, ap, ◌∙◌, arith}
use Rattle.std.proofs.lemmas.List.{drop_more}
use Rattle.std.proofs.lemmas.List.Elements.{All-head, All-tail}
use Rattle.std.proofs.lemmas.List.Sums.{sum_by-cons}
use Rattle.fixpoint.specs.declared.plane.Pair.{Pair}
use Rattle.font_model.specs.DefaultOutline.{contours_of, points_at}
use Rattle.glif.specs.Limits.{IsContourWithin}
use Rattle.glif.specs.declared.shape.Point.{Point}

pub points_more : (on : List Bool) (pairs : List Pair) (i : ℕ) (own : Bool) (pair : Pair) → i < length on → i < length pairs → own ≡ get_or on i own → pair ≡ get_or pairs i pair
    → points_at (drop i on) (drop i pairs) ≡ record { x = pair.x; y = pair.y; on = own } ∷ points_at (drop (i + 1) on) (drop (i + 1) pairs)
points_more on pairs i own pair here there own_is pair_is =
    let first : drop i on ≡ own ∷ drop (i + 1) on = drop_more on i own here ∙ ap (λ (b : Bool). b ∷ drop (i + 1) on) (sym own_is) in
    let second : drop i pairs ≡ pair ∷ drop (i + 1) pairs = drop_more pairs i pair there ∙ ap (λ (p : Pair). p ∷ drop (i + 1) pairs) (sym pair_is) in
    ap (λ (a : List Bool). points_at a (drop i pairs)) first ∙ ap (points_at (own ∷ drop (i + 1) on)) second

no_points : (on : List Bool) → points_at on [] ≡ []
no_points [] = refl
no_points (b ∷ on) = refl

pub points_end : (i : ℕ) (on : List Bool) (pairs : List Pair) → min (length on) (length pairs) ≤ i → points_at (drop i on) (drop i pairs) ≡ []
points_end zero [] pairs past = refl
points_end zero (b ∷ on) [] past = refl
points_end zero (b ∷ on) (p ∷ pairs) past = absurd (omega arith)
points_end (suc i) [] pairs past = refl
points_end (suc i) (b ∷ on) [] past = no_points (drop i on)
points_end (suc i) (b ∷ on) (p ∷ pairs) past = points_end i on pairs (omega arith)

pub contours_more : (lengths : List ℕ) (i n : ℕ) (rest : List Point) → i < length lengths → n ≡ get_or lengths i n
    → contours_of (drop i lengths) rest ≡ take n rest ∷ contours_of (drop (i + 1) lengths) (drop n rest)
contours_more lengths i n rest here n_is =
    ap (λ (some : List ℕ). contours_of some rest) (drop_more lengths i n here ∙ ap (λ (m : ℕ). m ∷ drop (i + 1) lengths) (sym n_is))

pub points_count : (on : List Bool) (pairs : List Pair) → length on ≡ length pairs → length (points_at on pairs) ≡ length pairs
points_count [] [] same = refl
points_count [] (p ∷ pairs) same = absurd (omega arith)
points_count (b ∷ on) [] same = absurd (omega arith)
points_count (b ∷ on) (p ∷ pairs) same = ap suc (points_count on pairs (omega arith))

-- a contour has a point at least
pub few_contours : (contours : List (List Point)) → All IsContourWithin contours → length contours ≤ sum_by length contours
few_contours [] each = omega arith
few_contours (own ∷ contours) each =
    let more = few_contours contours (All-tail IsContourWithin own contours each) in
    let here = All-head IsContourWithin own contours each in
    omega (arith, sum_by-cons length own contours, here.least)
