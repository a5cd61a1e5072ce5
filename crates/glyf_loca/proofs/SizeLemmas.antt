-- How many bytes a glyph has.
use Rattle.std.proofs.Common.{◌≡◌, ℕ, ℤ, pos, ◌+◌, ◌-◌, ◌*◌, ◌%◌, ◌≤◌, List, [], ◌∷◌, ◌++◌, length, replicate, refl, ap, ◌∙◌, arith, length-append}
use Rattle.std.proofs.lemmas.List.{length-map, length-replicate}
use Rattle.std.proofs.lemmas.List.Elements.{All-head, All-tail}
use Rattle.std.specs.Prelude.{All}
use Rattle.std.specs.List.{flat_map}
use Rattle.be_bytes.specs.Fields.{field_bytes}
use Rattle.be_bytes.specs.Reading.{uint16}
use Rattle.be_bytes.specs.declared.field.Field.TheVariants.{Uint16}
use Rattle.be_bytes.proofs.RecordLemmas.{records_size}
use Rattle.glif.specs.declared.shape.Outline.{Outline}
use Rattle.glif.specs.declared.shape.Point.{Point}
use Rattle.glif.specs.Limits.{IsWithinLimits}
use Rattle.glyf_loca.specs.Bounds.{points_in, xs_of, ys_of}
use Rattle.glyf_loca.specs.Layout.{contours_of, filled, flag_bytes, glyf_bytes, glyph_bytes, header_fields, last_bytes, lasts_from, point_bytes, record_bytes, steps_from}
use Rattle.glyf_loca.specs.Limits.{AreContoursWithin}
use Rattle.glyf_loca.proofs.PointLemmas.{few_contours, lasts_count, points_count}
use Rattle.glyf_loca.proofs.RecordReading.{each_last_back}

flags_size : (points : List Point) → length (flat_map flag_bytes points) ≡ length points
flags_size [] = refl
flags_size (point ∷ points) = omega (arith, flags_size points)

steps_size : (at : ℤ) (zs : List ℤ) → length (steps_from at zs) ≡ 2 * length zs
steps_size at [] = refl
steps_size at (z ∷ zs) = omega (arith, steps_size z zs)

points_size : (points : List Point) → length (point_bytes points) ≡ 5 * length points
points_size points =
    omega (arith, length-append (flat_map flag_bytes points) (steps_from (pos 0) (xs_of points) ++ steps_from (pos 0) (ys_of points)), length-append (steps_from (pos 0) (xs_of points)) (steps_from (pos 0) (ys_of points)), flags_size points, steps_size (pos 0) (xs_of points), steps_size (pos 0) (ys_of points), length-map points (λ (point : Point). point.x), length-map points (λ (point : Point). point.y))

record_size : (contours : List (List Point)) → AreContoursWithin contours → length (record_bytes contours) ≡ 12 + 2 * length contours + 5 * length (points_in contours)
unfolding header_fields
record_size contours within =
    let own_lasts : List ℕ = flat_map last_bytes (lasts_from 0 contours) in
    let own_points : List ℕ = point_bytes (points_in contours) in
    let lasts_size : length own_lasts ≡ 2 * length contours =
    records_size last_bytes uint16 2 (lasts_from 0 contours) (each_last_back 0 contours (omega (arith, within.points))) ∙ ap (λ (n : ℕ). 2 * n) (lasts_count 0 contours) in
    omega (arith, length-append own_lasts (field_bytes (Uint16 0) ++ own_points), lasts_size, points_size (points_in contours))

filled_size : (bytes : List ℕ) → length (filled bytes) ≡ length bytes + (4 - length bytes % 4) % 4
filled_size bytes =
    let zeros : ℕ = (4 - length bytes % 4) % 4 in
    omega (arith, length-append bytes (replicate zeros 0), length-replicate {A = ℕ} zeros 0)

-- a glyph fills whole words
pub glyph_aligned : (contours : List (List Point)) → length (glyph_bytes contours) % 4 ≡ 0
glyph_aligned [] = refl
glyph_aligned (own ∷ contours) = omega (arith, filled_size (record_bytes (own ∷ contours)))

-- 12 bytes, two for each of at most 4,000 contours, five for each of at most 4,000 points, and the filling
pub glyph_small : (contours : List (List Point)) → AreContoursWithin contours → length (glyph_bytes contours) ≤ 28016
glyph_small [] within = omega arith
glyph_small (own ∷ contours) within =
    omega (arith, filled_size (record_bytes (own ∷ contours)), record_size (own ∷ contours) within, few_contours (own ∷ contours) within.each, within.points, points_count (own ∷ contours))

pub contours_within : (outline : Outline) → IsWithinLimits outline → AreContoursWithin outline.contours
contours_within outline own = record { each = own.contours_within; points = own.points }

pub glyf_small : (outlines : List Outline) → All IsWithinLimits outlines → length (glyf_bytes (contours_of outlines)) ≤ 28016 * length outlines
glyf_small [] each = omega arith
glyf_small (outline ∷ outlines) each =
    omega (arith, length-append (glyph_bytes outline.contours) (glyf_bytes (contours_of outlines)), glyph_small outline.contours (contours_within outline (All-head IsWithinLimits outline outlines each)), glyf_small outlines (All-tail IsWithinLimits outline outlines each))

pub glyf_aligned : (glyphs : List (List (List Point))) → length (glyf_bytes glyphs) % 4 ≡ 0
glyf_aligned [] = refl
glyf_aligned (own ∷ glyphs) = omega (arith, length-append (glyph_bytes own) (glyf_bytes glyphs), glyph_aligned own, glyf_aligned glyphs)
