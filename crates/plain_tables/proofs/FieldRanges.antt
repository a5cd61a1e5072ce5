-- The fields of each table have the widths of their types.
use Rattle.std.proofs.Common.{◌≡◌, ℕ, ◌+◌, ◌*◌, ◌^◌, ◌<◌, ◌≤◌, min, ℤ, pos, negsuc, neg_ℤ, ◌+ℤ◌, ◌*ℤ◌, ◌≤ℤ◌, Bool, true, false, List, [], ◌∷◌, length, take, drop, Option, Some, None, FitsSigned, refl, sym, ap, ◌∙◌, arith, lit<}
use Rattle.std.proofs.Math.Nat.{lt_of_mul-lt-mul_right}
use Rattle.std.proofs.lemmas.Bool.Decides.{nat_tests}
use Rattle.std.proofs.lemmas.Int.{clamps, ints}
use Rattle.std.specs.Prelude.{◌≢◌, IfSome, if◌then◌else◌, nat_eq}
use Rattle.std.specs.Int.{w16, w32}
use Rattle.std.specs.Int.RustNames.{unsigned_abs}
use Rattle.std.specs.List.{AllByRecursion}
use borrow.Author.Differences.{up, down}
use Rattle.fixpoint.specs.Rounding.{round_up}
use Rattle.fixpoint.proofs.RoundingLemmas.{nearest_parts, round_up_at_least, round_up_bounds}
use Rattle.fontinfo.specs.FontInfo.{AreNumbersWithin}
use Rattle.fontinfo.specs.Ranges.{IsWithin, height, metric}
use Rattle.fontinfo.specs.declared.info.Info.{Info}
use Rattle.glyf_loca.specs.declared.extent.Bounds.{Bounds}
use Rattle.plain_tables.specs.Conditions.{AreWidthsWithin, IsAdvanceWithin}
use Rattle.plain_tables.specs.FixedFields.{table_bytes}
use Rattle.plain_tables.specs.FontHeader.{head_fields, maxp_fields, revision_of}
use Rattle.plain_tables.specs.GlyphMeasures.{average_of}
use Rattle.plain_tables.specs.GlyphNames.{post_fields}
use Rattle.plain_tables.specs.HorizontalMetrics.{hhea_fields}
use Rattle.plain_tables.specs.StyleMetrics.{class_fields, clipped, hundredths, line_fields, os2_fields, thousandths}
use Rattle.plain_tables.specs.declared.measures.Counts.{Counts}
use Rattle.plain_tables.specs.declared.measures.Extent.{Extent}
use Rattle.plain_tables.specs.declared.measures.Widths.{Widths}
use Rattle.plain_tables.proofs.ExtentRanges.{FitsBounds, FitsCounts, FitsExtent}
use Rattle.plain_tables.proofs.FieldReading.{Fits, follow, span}

-- ---- values

metric_fits : {z : ℤ} → IsWithin metric z → FitsSigned w16 z
metric_fits own = omega (arith, ints, own.low, own.high)

word_fits : (z : ℤ) → pos 0 ≤ℤ z → z ≤ℤ pos 65535 → unsigned_abs z < 2 ^ 16
word_fits (pos n) low high = omega (arith, ints)
word_fits (negsuc n) low high = absurd (omega (arith, ints))

pub hundredth_fits : (n : ℤ) → negsuc 3276699 ≤ℤ n → n ≤ℤ pos 3276700 → FitsSigned w16 (round_up n 100)
hundredth_fits n low high =
    let near = nearest_parts n 100 (round_up n 100) (round_up_bounds n 100 (omega arith)) in
    omega (arith, ints, near)

pub thousandth_fits : (n : ℤ) → negsuc 32766999 ≤ℤ n → n ≤ℤ pos 32767000 → FitsSigned w16 (round_up n 1000)
thousandth_fits n low high =
    let near = nearest_parts n 1000 (round_up n 1000) (round_up_bounds n 1000 (omega arith)) in
    omega (arith, ints, near)

-- a minor number in thousandths of 65536
pub minor_bounds : (minor : ℤ) → pos 0 ≤ℤ minor → minor ≤ℤ pos 999 → (pos 0 ≤ℤ round_up (minor *ℤ pos 65536) 1000) × (round_up (minor *ℤ pos 65536) 1000 ≤ℤ pos 65471)
minor_bounds minor low high =
    let n : ℤ = minor *ℤ pos 65536 in
    let near = nearest_parts n 1000 (round_up n 1000) (round_up_bounds n 1000 (omega arith)) in
    (omega (arith, ints, near), omega (arith, ints, near))

revision_fits : (info : Info) → AreNumbersWithin info → FitsSigned w32 (revision_of info)
unfolding revision_of
revision_fits info own =
    omega (arith, ints, own.major_within.low, own.major_within.high, minor_bounds info.minor own.minor_within.low own.minor_within.high)

flag_fits : (b : Bool) → FitsSigned w16 (if b then pos 1 else pos 0)
flag_fits true = omega (arith, ints)
flag_fits false = omega (arith, ints)

context_fits : (b : Bool) → (if b then 1 else 0) < 2 ^ 16
context_fits true = omega arith
context_fits false = omega arith

clip_fits : (told : Option ℤ) (reach : ℤ) → IfSome told (IsWithin height) → reach ≤ℤ pos 65535 → unsigned_abs (clipped told reach) < 2 ^ 16
clip_fits (Some z) reach own most = word_fits z (omega (arith, ints, own.low)) (omega (arith, ints, own.high))
clip_fits None reach own most = word_fits (clipped None reach) (omega (arith, ints, clamps)) (omega (arith, ints, clamps))

-- a rounded average isn't above the greatest number
average_at_most : (n : ℤ) (d : ℕ) → 0 < d → n ≤ℤ pos (16383 * d) → round_up n d ≤ℤ pos 16383
average_at_most n d some high =
    let r : ℤ = round_up n d in
    let near = nearest_parts n d r (round_up_bounds n d some) in
    let next : up r * d < (down r + 16384) * d = omega (arith, ints, near) in
    let less : up r < down r + 16384 = lt_of_mul-lt-mul_right d next in
    omega (arith, ints)

pub quotient_within : (n : ℤ) (d : ℕ) → 0 < d → pos 0 ≤ℤ n → n ≤ℤ pos (16383 * d) → (pos 0 ≤ℤ round_up n d) × (round_up n d ≤ℤ pos 16383)
quotient_within n d some low high = (round_up_at_least n d 0 some (omega (arith, ints)), average_at_most n d some high)

-- ---- tables

pub head_fit : (info : Info) (bounds : Bounds) (long : Bool) → AreNumbersWithin info → FitsBounds bounds → AllByRecursion (λ own. Fits own.1) (head_fields info bounds long)
unfolding head_fields
head_fit info bounds long own fits =
    (lit< tt, (lit< tt, (revision_fits info own, (lit< tt, (lit< tt, (lit< tt, (word_fits info.units (omega (arith, ints, own.units_within.low)) (omega (arith, ints, own.units_within.high)), (omega (arith, ints), (omega (arith, ints), (fits.x_min, (fits.y_min, (fits.x_max, (fits.y_max, (lit< tt, (lit< tt, (omega (arith, ints), (flag_fits long, (omega (arith, ints), tt))))))))))))))))))

pub maxp_fit : (glyphs : ℕ) (counts : Counts) → glyphs < 2 ^ 16 → FitsCounts counts → AllByRecursion (λ own. Fits own.1) (maxp_fields glyphs counts)
unfolding maxp_fields
maxp_fit glyphs counts few fits =
    (lit< tt, (few, (fits.points, (fits.contours, (lit< tt, (lit< tt, (lit< tt, (lit< tt, (lit< tt, (lit< tt, (lit< tt, (lit< tt, (lit< tt, (lit< tt, (lit< tt, tt)))))))))))))))

pub hhea_fit : (info : Info) (extent : Extent) (widest : ℤ) (glyphs : ℕ) → AreNumbersWithin info → FitsExtent extent → IsAdvanceWithin widest → glyphs < 2 ^ 16 → AllByRecursion (λ own. Fits own.1) (hhea_fields info extent widest glyphs)
unfolding hhea_fields
hhea_fit info extent widest glyphs own fits wide few =
    (lit< tt, (lit< tt, (metric_fits own.hhea_ascender_within, (metric_fits own.hhea_descender_within, (metric_fits own.hhea_gap_within, (word_fits widest wide.least (omega (arith, ints, wide.greatest)), (fits.bounds.x_min, (fits.right, (fits.bounds.x_max, (omega (arith, ints), (omega (arith, ints), (omega (arith, ints), (omega (arith, ints), (omega (arith, ints), (omega (arith, ints), (omega (arith, ints), (omega (arith, ints), (few, tt))))))))))))))))))

pub class_fit : (info : Info) (average : ℤ) → AreNumbersWithin info → FitsSigned w16 average → AllByRecursion (λ own. Fits own.1) (class_fields info average)
unfolding class_fields
class_fit info average own fits =
    let low : pos 16 ≤ℤ info.units = own.units_within.low in
    let high : info.units ≤ℤ pos 16384 = own.units_within.high in
    let em_65 : FitsSigned w16 (hundredths 65 info.units) = hundredth_fits (pos 65 *ℤ info.units) (omega (arith, ints)) (omega (arith, ints)) in
    let em_60 : FitsSigned w16 (hundredths 60 info.units) = hundredth_fits (pos 60 *ℤ info.units) (omega (arith, ints)) (omega (arith, ints)) in
    let em_35 : FitsSigned w16 (hundredths 35 info.units) = hundredth_fits (pos 35 *ℤ info.units) (omega (arith, ints)) (omega (arith, ints)) in
    let offset : FitsSigned w16 (thousandths 75 info.units) = thousandth_fits (pos 75 *ℤ info.units) (omega (arith, ints)) (omega (arith, ints)) in
    let least : negsuc 32766 ≤ℤ info.x_height = own.x_height_within.low in
    let greatest : info.x_height ≤ℤ pos 32767 = own.x_height_within.high in
    let strike : FitsSigned w16 (hundredths 60 info.x_height) = hundredth_fits (pos 60 *ℤ info.x_height) (omega (arith, ints)) (omega (arith, ints)) in
    (lit< tt, (fits, (word_fits info.weight (omega (arith, ints, own.weight_within.low)) (omega (arith, ints, own.weight_within.high)), (word_fits info.width (omega (arith, ints, own.width_within.low)) (omega (arith, ints, own.width_within.high)), (lit< tt, (em_65, (em_60, (omega (arith, ints), (offset, (em_65, (em_60, (omega (arith, ints), (em_35, (metric_fits own.underline_size_within, (strike, (omega (arith, ints), (tt, (tt, (tt, (tt, (tt, (tt, (tt, (tt, (tt, (tt, tt))))))))))))))))))))))))))

pub line_fit : (info : Info) (bounds : Bounds) (codes : List (ℕ × ℕ)) (substitutes : Bool) → AreNumbersWithin info → FitsBounds bounds → length info.vendor ≡ 4 → AllByRecursion (λ own. Fits own.1) (line_fields info bounds codes substitutes)
unfolding line_fields
line_fit info bounds codes substitutes own fits vendor =
    (lit< tt, (lit< tt, (lit< tt, (lit< tt, (vendor, (lit< tt, (omega arith, (omega arith, (metric_fits own.typo_ascender_within, (metric_fits own.typo_descender_within, (metric_fits own.typo_gap_within, (clip_fits info.win_ascent bounds.y_max own.win_ascent_within (omega (arith, ints, fits.y_max)), (clip_fits info.win_descent (neg_ℤ bounds.y_min) own.win_descent_within (omega (arith, ints, fits.y_min)), (lit< tt, (lit< tt, (metric_fits own.x_height_within, (metric_fits own.cap_height_within, (lit< tt, (lit< tt, (context_fits substitutes, tt))))))))))))))))))))

pub post_fit : (info : Info) (glyphs : ℕ) → AreNumbersWithin info → FitsSigned w32 info.italic → glyphs < 2 ^ 16 → AllByRecursion (λ own. Fits own.1) (post_fields info glyphs)
unfolding post_fields
post_fit info glyphs own italic few =
    (lit< tt, (italic, (metric_fits own.underline_at_within, (metric_fits own.underline_size_within, (lit< tt, (lit< tt, (lit< tt, (lit< tt, (lit< tt, (few, tt))))))))))

pub head_follow : (info : Info) (bounds : Bounds) (long : Bool) → follow 0 (head_fields info bounds long) ≡ true
unfolding head_fields
head_follow info bounds long = refl

pub head_span : (info : Info) (bounds : Bounds) (long : Bool) → span (head_fields info bounds long) ≡ 54
unfolding head_fields
head_span info bounds long = refl

pub maxp_follow : (glyphs : ℕ) (counts : Counts) → follow 0 (maxp_fields glyphs counts) ≡ true
unfolding maxp_fields
maxp_follow glyphs counts = refl

pub maxp_span : (glyphs : ℕ) (counts : Counts) → span (maxp_fields glyphs counts) ≡ 32
unfolding maxp_fields
maxp_span glyphs counts = refl

pub hhea_follow : (info : Info) (extent : Extent) (widest : ℤ) (glyphs : ℕ) → follow 0 (hhea_fields info extent widest glyphs) ≡ true
unfolding hhea_fields
hhea_follow info extent widest glyphs = refl

pub hhea_span : (info : Info) (extent : Extent) (widest : ℤ) (glyphs : ℕ) → span (hhea_fields info extent widest glyphs) ≡ 36
unfolding hhea_fields
hhea_span info extent widest glyphs = refl

pub post_follow : (info : Info) (glyphs : ℕ) → follow 0 (post_fields info glyphs) ≡ true
unfolding post_fields
post_follow info glyphs = refl

pub os2_follow : (info : Info) (average : ℤ) (bounds : Bounds) (codes : List (ℕ × ℕ)) (substitutes : Bool) → follow 0 (os2_fields info average bounds codes substitutes) ≡ true
unfolding class_fields line_fields
os2_follow info average bounds codes substitutes = refl

pub os2_span : (info : Info) (average : ℤ) (bounds : Bounds) (codes : List (ℕ × ℕ)) (substitutes : Bool) → span (os2_fields info average bounds codes substitutes) ≡ 96
unfolding class_fields line_fields
os2_span info average bounds codes substitutes = refl

-- checksumAdjustment
pub head_adjustment : (info : Info) (bounds : Bounds) (long : Bool) → take 4 (drop 8 (table_bytes (head_fields info bounds long))) ≡ 0 ∷ 0 ∷ 0 ∷ 0 ∷ []
unfolding head_fields
head_adjustment info bounds long = refl

-- an average that is worked out
average_is : (widths : Widths) → widths.count ≢ 0 → average_of widths ≡ round_up widths.sum widths.count
unfolding average_of
average_is widths some =
    let no : nat_eq widths.count 0 ≡ false = grind (arith, nat_tests) in
    rw no refl

pub rounded_average : (widths : Widths) (r : ℤ) → AreWidthsWithin widths → widths.count ≢ 0 → r ≡ round_up widths.sum widths.count → (r ≡ average_of widths) × (pos 0 ≤ℤ r) × (r ≤ℤ pos 16383)
rounded_average widths r own some is =
    let within = quotient_within widths.sum widths.count (omega arith) own.least own.greatest in
    (is ∙ sym (average_is widths some), omega (arith, ints, within.0, is), omega (arith, ints, within.1, is))

pub no_average : (widths : Widths) → widths.count ≡ 0 → pos 0 ≡ average_of widths
unfolding average_of
no_average widths none = sym (ap (λ (n : ℕ). if nat_eq n 0 then pos 0 else round_up widths.sum n) none)
