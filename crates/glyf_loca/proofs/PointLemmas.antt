-- The flags and the coordinates of points are read back as they were written, and their contours with them.
use Rattle.std.proofs.Common.{◌≡◌, ℕ, ℤ, suc, pos, ◌+◌, ◌-◌, ◌+ℤ◌, ◌≤◌, Bool, true, false, List, [], ◌∷◌, ◌++◌, length, take, drop, map, sum_by, Some, None, FitsSigned, refl, ap, ◌∙◌, arith, length-append, append_assoc}
use Rattle.std.proofs.lemmas.Bool.{le-leb}
use Rattle.std.proofs.lemmas.Int.{ints}
use Rattle.std.proofs.lemmas.List.{drop_at, take_at}
use Rattle.std.proofs.lemmas.List.Elements.{All-append, All-head, All-nil, All-tail}
use Rattle.std.proofs.lemmas.List.Sums.{sum_by-cons}
use Rattle.std.specs.Prelude.{◌-ℤ◌, All, if◌then◌else◌, nat_le}
use Rattle.std.specs.Int.{w16}
use Rattle.std.specs.List.{flat_map}
use Rattle.be_bytes.specs.Reading.{int16}
use Rattle.be_bytes.proofs.FieldLemmas.{int16-field}
use Rattle.glif.specs.Limits.{IsContourWithin, IsPointWithin}
use Rattle.glif.specs.declared.shape.Point.{Point}
use Rattle.glyf_loca.specs.Bounds.{points_in, xs_of, ys_of}
use Rattle.glyf_loca.specs.Layout.{flag_bytes, flag_of, lasts_from, point_bytes, steps_from}
use Rattle.glyf_loca.specs.SimpleGlyphs.{contours_from, coordinates_in, count_from, flags_in, has_bit, points_from, shape_in, step_in, xs_in, ys_in}
use Rattle.glyf_loca.proofs.BoundsLemmas.{IsCoordinate, x_within, y_within}

-- ---- what contours within limits have

pub points_within : (contours : List (List Point)) → All IsContourWithin contours → All IsPointWithin (points_in contours)
points_within [] each = All-nil IsPointWithin
points_within (own ∷ contours) each =
    All-append IsPointWithin own (points_in contours) (All-head IsContourWithin own contours each).points_within (points_within contours (All-tail IsContourWithin own contours each))

pub points_count : (contours : List (List Point)) → length (points_in contours) ≡ sum_by length contours
points_count [] = refl
points_count (own ∷ contours) = omega (arith, length-append own (points_in contours), points_count contours, sum_by-cons (length {A = Point}) own contours)

pub lasts_count : (count : ℕ) (contours : List (List Point)) → length (lasts_from count contours) ≡ length contours
lasts_count count [] = refl
lasts_count count (own ∷ contours) = ap suc (lasts_count (count + length own) contours)

pub few_contours : (contours : List (List Point)) → All IsContourWithin contours → length contours ≤ sum_by length contours
few_contours [] each = omega arith
few_contours (own ∷ contours) each =
    let here = All-head IsContourWithin own contours each in
    omega (arith, here.least, few_contours contours (All-tail IsContourWithin own contours each), sum_by-cons (length {A = Point}) own contours)

-- ---- flags

by_on : (value : ℕ) → has_bit value 0 ≡ false → has_bit value 1 ≡ false → (on : Bool) → has_bit value (if on then 1 else 0) ≡ false
by_on value off on true = on
by_on value off on false = off

no_bit : (value : ℕ) → has_bit value 0 ≡ false → has_bit value 1 ≡ false → (point : Point) → has_bit value (flag_of point) ≡ false
no_bit value off on point = by_on value off on point.on

one_flag : (flag count : ℕ) (bytes flags rest : List ℕ) → has_bit 8 flag ≡ false → flags_in None count bytes ≡ Some (flags, rest) → flags_in None (suc count) (flag ∷ bytes) ≡ Some (flag ∷ flags, rest)
one_flag flag count bytes flags rest plain more = rw (plain, more) refl

no_flag : (bytes : List ℕ) → flags_in None 0 bytes ≡ Some ([], bytes)
no_flag [] = refl
no_flag (byte ∷ bytes) = refl

flags_back : (points : List Point) (rest : List ℕ) → flags_in None (length points) (flat_map flag_bytes points ++ rest) ≡ Some (map flag_of points, rest)
flags_back [] rest = no_flag rest
flags_back (point ∷ points) rest =
    one_flag (flag_of point) (length points) (flat_map flag_bytes points ++ rest) (map flag_of points) rest (no_bit 8 refl refl point) (flags_back points rest)

-- ---- coordinates

read_step : (short same flag : ℕ) (bytes : List ℕ) (z : ℤ) → has_bit short flag ≡ false → has_bit same flag ≡ false → int16 bytes ≡ Some z → step_in short same flag bytes ≡ Some (z, 2)
read_step short same flag bytes z long other read = rw (long, other, read) refl

one_coordinate : (short same flag : ℕ) (at step z : ℤ) (flags bytes rest : List ℕ) (zs : List ℤ) → step_in short same flag bytes ≡ Some (step, 2) → at +ℤ step ≡ z → coordinates_in short same z flags (drop 2 bytes) ≡ Some (zs, rest) → coordinates_in short same at (flag ∷ flags) bytes ≡ Some (z ∷ zs, rest)
one_coordinate short same flag at step z flags bytes rest zs read sum more = rw (read, sum, more) refl

step_fits : (at z : ℤ) → IsCoordinate at → IsCoordinate z → FitsSigned w16 (z -ℤ at)
step_fits at z before here = omega (arith, ints, before.low, before.high, here.low, here.high)

step_sum : (at z : ℤ) → at +ℤ (z -ℤ at) ≡ z
step_sum at z = omega (arith, ints)

module _ (short same : ℕ) (not_short : (point : Point) → has_bit short (flag_of point) ≡ false) (not_same : (point : Point) → has_bit same (flag_of point) ≡ false) (pick : Point → ℤ) (within : (point : Point) → IsPointWithin point → IsCoordinate (pick point)) where
  coordinates_back : (at : ℤ) (points : List Point) (rest : List ℕ) → IsCoordinate at → All IsPointWithin points → coordinates_in short same at (map flag_of points) (steps_from at (map pick points) ++ rest) ≡ Some (map pick points, rest)
  coordinates_back at [] rest before each = refl
  coordinates_back at (point ∷ points) rest before each =
      let z : ℤ = pick point in
      let here = within point (All-head IsPointWithin point points each) in
      one_coordinate short same (flag_of point) at (z -ℤ at) z (map flag_of points) (steps_from at (map pick (point ∷ points)) ++ rest) rest (map pick points)
      (read_step short same (flag_of point) (steps_from at (map pick (point ∷ points)) ++ rest) (z -ℤ at) (not_short point) (not_same point) (int16-field (z -ℤ at) (steps_from z (map pick points) ++ rest) (step_fits at z before here)))
      (step_sum at z)
      (coordinates_back z points rest here (All-tail IsPointWithin point points each))

origin : IsCoordinate (pos 0)
origin = record { low = omega (arith, ints); high = omega (arith, ints) }

xs_back : (points : List Point) (rest : List ℕ) → All IsPointWithin points → xs_in (map flag_of points) (steps_from (pos 0) (xs_of points) ++ rest) ≡ Some (xs_of points, rest)
xs_back points rest each = coordinates_back 2 16 (no_bit 2 refl refl) (no_bit 16 refl refl) (λ (point : Point). point.x) x_within (pos 0) points rest origin each

ys_back : (points : List Point) (rest : List ℕ) → All IsPointWithin points → ys_in (map flag_of points) (steps_from (pos 0) (ys_of points) ++ rest) ≡ Some (ys_of points, rest)
ys_back points rest each = coordinates_back 4 32 (no_bit 4 refl refl) (no_bit 32 refl refl) (λ (point : Point). point.y) y_within (pos 0) points rest origin each

-- ---- points

on_back : (on : Bool) → has_bit 1 (if on then 1 else 0) ≡ on
on_back true = refl
on_back false = refl

points_back : (points : List Point) → points_from (map flag_of points) (xs_of points) (ys_of points) ≡ points
points_back [] = refl
points_back (point ∷ points) =
    ap (λ (on : Bool). let own : Point = record { x = point.x; y = point.y; on = on } in own ∷ points_from (map flag_of points) (xs_of points) (ys_of points)) (on_back point.on)
    ∙ ap (λ (more : List Point). point ∷ more) (points_back points)

-- ---- contours

one_contour : (start last : ℕ) (lasts : List ℕ) (points own more : List Point) (contours : List (List Point)) → start ≤ last → last + 1 - start ≡ length own → points ≡ own ++ more → contours_from (last + 1) lasts more ≡ Some contours → contours_from start (last ∷ lasts) points ≡ Some (own ∷ contours)
one_contour start last lasts points own more contours rises size is rest =
    let test : nat_le start last ≡ true = le-leb start last rises in
    let taken : take (length own) points ≡ own = ap (take (length own)) is ∙ take_at own more (length own) refl in
    let dropped : drop (length own) points ≡ more = ap (drop (length own)) is ∙ drop_at own more (length own) refl in
    rw (test, size, dropped, rest, taken) refl

contours_back : (start : ℕ) (contours : List (List Point)) → All IsContourWithin contours → contours_from start (lasts_from start contours) (points_in contours) ≡ Some contours
contours_back start [] each = refl
contours_back start (own ∷ contours) each =
    let here = All-head IsContourWithin own contours each in
    let next : start + length own - 1 + 1 ≡ start + length own = omega (arith, here.least) in
    one_contour start (start + length own - 1) (lasts_from (start + length own) contours) (points_in (own ∷ contours)) own (points_in contours) contours
    (omega (arith, here.least)) (omega (arith, here.least)) refl
    (ap (λ (n : ℕ). contours_from n (lasts_from (start + length own) contours) (points_in contours)) next ∙ contours_back (start + length own) contours (All-tail IsContourWithin own contours each))

count_back : (start : ℕ) (contours : List (List Point)) → All IsContourWithin contours → count_from start (lasts_from start contours) ≡ start + length (points_in contours)
count_back start [] each = omega arith
count_back start (own ∷ contours) each =
    let here = All-head IsContourWithin own contours each in
    let next : start + length own - 1 + 1 ≡ start + length own = omega (arith, here.least) in
    let rest : count_from (start + length own) (lasts_from (start + length own) contours) ≡ start + length own + length (points_in contours) = count_back (start + length own) contours (All-tail IsContourWithin own contours each) in
    ap (λ (n : ℕ). count_from n (lasts_from (start + length own) contours)) next ∙ rest ∙ omega (arith, length-append own (points_in contours))

-- ---- all from the flags on

read_shape : (lasts bytes flags after_flags after_xs after_ys : List ℕ) (xs ys : List ℤ) (contours : List (List Point)) → flags_in None (count_from 0 lasts) bytes ≡ Some (flags, after_flags) → xs_in flags after_flags ≡ Some (xs, after_xs) → ys_in flags after_xs ≡ Some (ys, after_ys) → contours_from 0 lasts (points_from flags xs ys) ≡ Some contours → shape_in lasts bytes ≡ Some contours
read_shape lasts bytes flags after_flags after_xs after_ys xs ys contours a b c d = rw (a, b, c, d) refl

pub shape_back : (contours : List (List Point)) (rest : List ℕ) → All IsContourWithin contours → shape_in (lasts_from 0 contours) (point_bytes (points_in contours) ++ rest) ≡ Some contours
shape_back contours rest each =
    let points : List Point = points_in contours in
    let within : All IsPointWithin points = points_within contours each in
    let own_flags : List ℕ = flat_map flag_bytes points in
    let own_xs : List ℕ = steps_from (pos 0) (xs_of points) in
    let own_ys : List ℕ = steps_from (pos 0) (ys_of points) in
    let regrouped : point_bytes points ++ rest ≡ own_flags ++ (own_xs ++ (own_ys ++ rest)) =
    append_assoc own_flags (own_xs ++ own_ys) rest ∙ ap (λ (t : List ℕ). own_flags ++ t) (append_assoc own_xs own_ys rest) in
    let counted : count_from 0 (lasts_from 0 contours) ≡ length points = count_back 0 contours each ∙ omega arith in
    read_shape (lasts_from 0 contours) (point_bytes points ++ rest) (map flag_of points) (own_xs ++ (own_ys ++ rest)) (own_ys ++ rest) rest (xs_of points) (ys_of points) contours
    (ap (flags_in None (count_from 0 (lasts_from 0 contours))) regrouped ∙ ap (λ (n : ℕ). flags_in None n (own_flags ++ (own_xs ++ (own_ys ++ rest)))) counted ∙ flags_back points (own_xs ++ (own_ys ++ rest)))
    (xs_back points (own_ys ++ rest) within)
    (ys_back points rest within)
    (ap (contours_from 0 (lasts_from 0 contours)) (points_back points) ∙ contours_back 0 contours each)
