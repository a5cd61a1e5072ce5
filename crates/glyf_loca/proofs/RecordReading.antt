-- A glyph is read back as it was written.
use Rattle.std.proofs.Common.{◌≡◌, ℕ, ℤ, pos, ◌+◌, ◌*◌, ◌-◌, ◌%◌, ◌^◌, ◌<◌, ◌≤◌, true, List, [], ◌∷◌, ◌++◌, length, drop, replicate, Some, FitsSigned, refl, sym, ap, ◌∙◌, arith, append_assoc}
use Rattle.std.proofs.lemmas.Bool.{le-leb}
use Rattle.std.proofs.lemmas.Int.{ints}
use Rattle.std.proofs.lemmas.List.{drop-drop, drop_at}
use Rattle.std.proofs.lemmas.List.Sums.{sum_by-cons}
use Rattle.std.specs.Prelude.{nat_le, sum_by}
use Rattle.std.specs.Int.{w16}
use Rattle.std.specs.List.{AllByRecursion, flat_map}
use Rattle.be_bytes.specs.Fields.{field_bytes, fields_bytes}
use Rattle.be_bytes.specs.Reading.{int16, prefix_of, records, uint16}
use Rattle.be_bytes.specs.declared.field.Field.TheVariants.{Int16, Uint16}
use Rattle.be_bytes.proofs.FieldLemmas.{int16-field, uint16-field}
use Rattle.be_bytes.proofs.RecordLemmas.{ComesBack, records_back, records_size}
use Rattle.glif.specs.declared.shape.Point.{Point}
use Rattle.glyf_loca.specs.declared.extent.Bounds.{Bounds}
use Rattle.glyf_loca.specs.Bounds.{bounds_of, points_in, same_bounds}
use Rattle.glyf_loca.specs.Layout.{glyph_bytes, header_fields, last_bytes, lasts_from, point_bytes, record_bytes}
use Rattle.glyf_loca.specs.Limits.{AreContoursWithin}
use Rattle.glyf_loca.specs.SimpleGlyphs.{bounds_in, glyph_in, record_in, shape_in}
use Rattle.glyf_loca.proofs.BoundsLemmas.{FitsBounds, bounds_fit, same_as_itself}
use Rattle.glyf_loca.proofs.PointLemmas.{few_contours, lasts_count, points_within, shape_back}

-- ---- the indexes of last points

last_back : (last : ℕ) → last < 2 ^ 16 → ComesBack last_bytes uint16 2 last
last_back last fits = record { size_is = refl; back = uint16-field last [] fits }

pub each_last_back : (count : ℕ) (contours : List (List Point)) → count + sum_by length contours ≤ 4000 → AllByRecursion (ComesBack last_bytes uint16 2) (lasts_from count contours)
each_last_back count [] few = tt
each_last_back count (own ∷ contours) few =
    let sum = sum_by-cons (length {A = Point}) own contours in
    (last_back (count + length own - 1) (omega (arith, few, sum)), each_last_back (count + length own) contours (omega (arith, few, sum)))

-- ---- the header

read_bounds : (bytes : List ℕ) (x_min y_min x_max y_max : ℤ) → int16 bytes ≡ Some x_min → int16 (drop 2 bytes) ≡ Some y_min → int16 (drop 4 bytes) ≡ Some x_max → int16 (drop 6 bytes) ≡ Some y_max
    → bounds_in bytes ≡ Some (record { x_min = x_min; y_min = y_min; x_max = x_max; y_max = y_max })
read_bounds bytes x_min y_min x_max y_max a b c d = rw (a, b, c, d) refl

bounds_back : (bounds : Bounds) (rest : List ℕ) → FitsBounds bounds → bounds_in (fields_bytes (Int16 bounds.x_min ∷ Int16 bounds.y_min ∷ Int16 bounds.x_max ∷ Int16 bounds.y_max ∷ []) ++ rest) ≡ Some bounds
bounds_back bounds rest fit =
    read_bounds (fields_bytes (Int16 bounds.x_min ∷ Int16 bounds.y_min ∷ Int16 bounds.x_max ∷ Int16 bounds.y_max ∷ []) ++ rest) bounds.x_min bounds.y_min bounds.x_max bounds.y_max
    (int16-field bounds.x_min (fields_bytes (Int16 bounds.y_min ∷ Int16 bounds.x_max ∷ Int16 bounds.y_max ∷ []) ++ rest) fit.x_min)
    (int16-field bounds.y_min (fields_bytes (Int16 bounds.x_max ∷ Int16 bounds.y_max ∷ []) ++ rest) fit.y_min)
    (int16-field bounds.x_max (fields_bytes (Int16 bounds.y_max ∷ []) ++ rest) fit.x_max)
    (int16-field bounds.y_max rest fit.y_max)

-- ---- the record

read_record : (bytes : List ℕ) (count size : ℕ) (bounds : Bounds) (lasts instructions : List ℕ) (contours : List (List Point)) → int16 bytes ≡ Some (pos count) → bounds_in (drop 2 bytes) ≡ Some bounds → records uint16 2 count (drop 10 bytes) ≡ Some lasts → uint16 (drop (10 + 2 * count) bytes) ≡ Some size → prefix_of size (drop (12 + 2 * count) bytes) ≡ Some instructions → shape_in lasts (drop (12 + 2 * count + size) bytes) ≡ Some contours → same_bounds bounds (bounds_of (points_in contours)) ≡ true
    → record_in bytes ≡ Some contours
read_record bytes count size bounds lasts instructions contours a b c d e f g = rw (a, b, c, d, e, f, g) refl

no_prefix : (bytes : List ℕ) → prefix_of 0 bytes ≡ Some []
no_prefix bytes = let test : nat_le 0 (length bytes) ≡ true = le-leb 0 (length bytes) (omega arith) in rw test refl

pub count_fits : (n : ℕ) → n ≤ 4000 → FitsSigned w16 (pos n)
count_fits n few = omega (arith, ints)

record_back : (contours : List (List Point)) (rest : List ℕ) → AreContoursWithin contours → record_in (record_bytes contours ++ rest) ≡ Some contours
unfolding header_fields
record_back contours rest within =
    let count : ℕ = length contours in
    let bounds : Bounds = bounds_of (points_in contours) in
    let header : List ℕ = fields_bytes (header_fields (pos count) bounds) in
    let lasts : List ℕ = lasts_from 0 contours in
    let own_lasts : List ℕ = flat_map last_bytes lasts in
    let own_points : List ℕ = point_bytes (points_in contours) ++ rest in
    let after : List ℕ = own_lasts ++ (field_bytes (Uint16 0) ++ own_points) in
    let bytes : List ℕ = header ++ after in
    let regrouped : record_bytes contours ++ rest ≡ bytes =
    append_assoc header (own_lasts ++ (field_bytes (Uint16 0) ++ point_bytes (points_in contours))) rest
    ∙ ap (λ (t : List ℕ). header ++ t) (append_assoc own_lasts (field_bytes (Uint16 0) ++ point_bytes (points_in contours)) rest) in
    let few : count ≤ 4000 = omega (arith, few_contours contours within.each, within.points) in
    let each_last = each_last_back 0 contours (omega (arith, within.points)) in
    let counted : length lasts ≡ count = lasts_count 0 contours in
    let size : length own_lasts ≡ 2 * count = records_size last_bytes uint16 2 lasts each_last ∙ ap (λ (n : ℕ). 2 * n) counted in
    let after_lasts : drop (10 + 2 * count) bytes ≡ field_bytes (Uint16 0) ++ own_points = sym (drop-drop (2 * count) 10 bytes) ∙ drop_at own_lasts (field_bytes (Uint16 0) ++ own_points) (2 * count) size in
    let two : 12 + 2 * count ≡ 10 + 2 * count + 2 = omega arith in
    let after_size : drop (12 + 2 * count) bytes ≡ own_points = ap (λ (n : ℕ). drop n bytes) two ∙ sym (drop-drop 2 (10 + 2 * count) bytes) ∙ ap (drop 2) after_lasts in
    let none : 12 + 2 * count + 0 ≡ 12 + 2 * count = omega arith in
    ap record_in regrouped
    ∙ read_record bytes count 0 bounds lasts [] contours
    (int16-field (pos count) (fields_bytes (Int16 bounds.x_min ∷ Int16 bounds.y_min ∷ Int16 bounds.x_max ∷ Int16 bounds.y_max ∷ []) ++ after) (count_fits count few))
    (bounds_back bounds after (bounds_fit (points_in contours) (points_within contours within.each)))
    (ap (λ (n : ℕ). records uint16 2 n after) (sym counted) ∙ records_back last_bytes uint16 2 lasts (field_bytes (Uint16 0) ++ own_points) each_last)
    (ap uint16 after_lasts)
    (ap (prefix_of 0) after_size ∙ no_prefix own_points)
    (ap (λ (n : ℕ). shape_in lasts (drop n bytes)) none ∙ ap (shape_in lasts) after_size ∙ shape_back contours rest within.each)
    (same_as_itself bounds)

pub glyph_back : (contours : List (List Point)) → AreContoursWithin contours → glyph_in (glyph_bytes contours) ≡ Some contours
unfolding header_fields
glyph_back [] within = refl
glyph_back (own ∷ contours) within = record_back (own ∷ contours) (replicate ((4 - length (record_bytes (own ∷ contours)) % 4) % 4) 0) within
