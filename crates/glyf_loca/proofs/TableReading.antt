-- The tables are read back as they were written: the offsets, the bytes of each glyph, and its contours.
use Rattle.std.proofs.Common.{◌≡◌, ℕ, suc, ◌+◌, ◌-◌, ◌*◌, ◌/◌, ◌%◌, ◌^◌, ◌<◌, ◌≤◌, Bool, true, false, List, [], ◌∷◌, ◌++◌, length, drop, map, Some, refl, sym, ap, subst, ◌∙◌, arith, length-append, append_assoc}
use Rattle.std.proofs.lemmas.Bool.{le-leb, ltb-false}
use Rattle.std.proofs.lemmas.List.{append-nil, drop_at, length-map}
use Rattle.std.proofs.lemmas.List.Elements.{All-from_recursion, All-head, All-tail}
use Rattle.std.specs.Prelude.{All, nat_le, nat_lt}
use Rattle.std.specs.List.{AllByRecursion}
use Rattle.basics.specs.Optional.{each}
use Rattle.be_bytes.specs.Reading.{prefix_of, records, uint16}
use Rattle.be_bytes.proofs.FieldLemmas.{uint16-field, uint32-field}
use Rattle.be_bytes.proofs.RecordLemmas.{ComesBack, each_of, prefix_at, records_back}
use Rattle.glif.specs.declared.shape.Outline.{Outline}
use Rattle.glif.specs.declared.shape.Point.{Point}
use Rattle.glif.specs.Limits.{IsWithinLimits}
use Rattle.glyf_loca.specs.Layout.{AreWritten, contours_of, ends_from, glyf_bytes, glyph_bytes, loca_bytes, offset_bytes}
use Rattle.glyf_loca.specs.Limits.{AreFit}
use Rattle.glyf_loca.specs.SimpleGlyphs.{glyph_in}
use Rattle.glyf_loca.specs.Slices.{between, glyphs_in, offset_in, offset_size, offsets_in, slices_from, slices_in}
use Rattle.glyf_loca.proofs.RecordReading.{glyph_back}
use Rattle.glyf_loca.proofs.SizeLemmas.{contours_within, glyf_small, glyph_aligned}

-- ---- offsets

-- an even offset that isn't after the last one
pub record IsOffset (limit offset : ℕ) : Type 0 where
  pub within : offset ≤ limit
  pub even : offset % 4 ≡ 0

pub ends_stand : (limit at : ℕ) (glyphs : List (List (List Point))) → at % 4 ≡ 0 → at + length (glyf_bytes glyphs) ≤ limit → AllByRecursion (IsOffset limit) (ends_from at glyphs)
ends_stand limit at [] aligned within = tt
ends_stand limit at (own ∷ glyphs) aligned within =
    let size = length-append (glyph_bytes own) (glyf_bytes glyphs) in
    let next : (at + length (glyph_bytes own)) % 4 ≡ 0 = omega (arith, aligned, glyph_aligned own) in (
      record { within = omega (arith, size, within); even = next },
      ends_stand limit (at + length (glyph_bytes own)) glyphs next (omega (arith, size, within)),
    )

pub offsets_stand : (glyphs : List (List (List Point))) → AllByRecursion (IsOffset (length (glyf_bytes glyphs))) (0 ∷ ends_from 0 glyphs)
offsets_stand glyphs =
    (record { within = omega arith; even = refl }, ends_stand (length (glyf_bytes glyphs)) 0 glyphs refl (omega arith))

pub ends_count : (at : ℕ) (glyphs : List (List (List Point))) → length (ends_from at glyphs) ≡ length glyphs
ends_count at [] = refl
ends_count at (own ∷ glyphs) = ap suc (ends_count (at + length (glyph_bytes own)) glyphs)

halved : (offset : ℕ) → offset % 4 ≡ 0 → 2 * (offset / 2) ≡ offset
halved offset even = omega (arith, even)

-- the form fits offsets up to this one
abbrev Reaches : Bool → ℕ → Type 0
Reaches true limit = limit < 2 ^ 32
Reaches false limit = limit ≤ 131070

offset_back : (long : Bool) (limit : ℕ) → Reaches long limit → (offset : ℕ) → IsOffset limit offset → ComesBack (offset_bytes long) (offset_in long) (offset_size long) offset
offset_back true limit reaches offset own = record { size_is = refl; back = uint32-field offset [] (omega (arith, reaches, own.within)) }
offset_back false limit reaches offset own =
    record { size_is = refl; back = read_half (offset_bytes false offset) (offset / 2) offset (uint16-field (offset / 2) [] (omega (arith, reaches, own.within))) (halved offset own.even) }
  where
    read_half : (bytes : List ℕ) (half n : ℕ) → uint16 bytes ≡ Some half → 2 * half ≡ n → offset_in false bytes ≡ Some n
    read_half bytes half n read twice = rw read (ap Some twice)

reaches_all : (long : Bool) (limit : ℕ) → limit < 2 ^ 32 → long ≡ nat_lt 131070 limit → Reaches long limit
reaches_all true limit small is = small
reaches_all false limit small is = ltb-false 131070 limit (sym is)

offsets_back : (long : Bool) (glyphs : List (List (List Point))) → Reaches long (length (glyf_bytes glyphs)) → offsets_in long (length glyphs) (loca_bytes long glyphs) ≡ Some (0 ∷ ends_from 0 glyphs)
offsets_back long glyphs reaches =
    let limit : ℕ = length (glyf_bytes glyphs) in
    let offsets : List ℕ = 0 ∷ ends_from 0 glyphs in
    let counted : length glyphs + 1 ≡ length offsets = omega (arith, ends_count 0 glyphs) in
    ap (λ (n : ℕ). records (offset_in long) (offset_size long) n (loca_bytes long glyphs)) counted
    ∙ ap (records (offset_in long) (offset_size long) (length offsets)) (sym (append-nil (loca_bytes long glyphs)))
    ∙ records_back (offset_bytes long) (offset_in long) (offset_size long) offsets [] (each_of (IsOffset limit) (ComesBack (offset_bytes long) (offset_in long) (offset_size long)) (offset_back long limit reaches) offsets (offsets_stand glyphs))

-- ---- slices

one_slice : (glyf own : List ℕ) (from to : ℕ) (offsets : List ℕ) (blocks : List (List ℕ)) → between glyf from to ≡ Some own → slices_from glyf to offsets ≡ Some blocks → slices_from glyf from (to ∷ offsets) ≡ Some (own ∷ blocks)
one_slice glyf own from to offsets blocks a b = rw (a, b) refl

read_between : (glyf own : List ℕ) (from to : ℕ) → from ≤ to → prefix_of (to - from) (drop from glyf) ≡ Some own → between glyf from to ≡ Some own
read_between glyf own from to rises read = let test : nat_le from to ≡ true = le-leb from to rises in rw (test, read) refl

slices_back : (glyf before : List ℕ) (at : ℕ) (glyphs : List (List (List Point))) → glyf ≡ before ++ glyf_bytes glyphs → length before ≡ at → slices_from glyf at (ends_from at glyphs) ≡ Some (map glyph_bytes glyphs)
slices_back glyf before at [] is size = refl
slices_back glyf before at (own ∷ glyphs) is size =
    let block : List ℕ = glyph_bytes own in
    let n : ℕ = length block in
    let here : drop at glyf ≡ block ++ glyf_bytes glyphs = ap (drop at) is ∙ drop_at before (block ++ glyf_bytes glyphs) at size in
    let width : at + n - at ≡ n = omega arith in
    one_slice glyf block at (at + n) (ends_from (at + n) glyphs) (map glyph_bytes glyphs)
    (read_between glyf block at (at + n) (omega arith) (ap (λ (m : ℕ). prefix_of m (drop at glyf)) width ∙ ap (prefix_of n) here ∙ prefix_at block (glyf_bytes glyphs) n refl))
    (slices_back glyf (before ++ block) (at + n) glyphs (is ∙ sym (append_assoc before block (glyf_bytes glyphs))) (length-append before block ∙ ap (λ (m : ℕ). m + n) size))

-- ---- all

read_glyphs : (long : Bool) (count : ℕ) (loca glyf offsets : List ℕ) (slices : List (List ℕ)) (glyphs : List (List (List Point))) → offsets_in long count loca ≡ Some offsets → slices_in glyf offsets ≡ Some slices → each glyph_in slices ≡ Some glyphs → glyphs_in long count loca glyf ≡ Some glyphs
read_glyphs long count loca glyf offsets slices glyphs a b c = rw (a, b, c) refl

one_glyph : (slice : List ℕ) (slices : List (List ℕ)) (own : List (List Point)) (glyphs : List (List (List Point))) → glyph_in slice ≡ Some own → each glyph_in slices ≡ Some glyphs → each glyph_in (slice ∷ slices) ≡ Some (own ∷ glyphs)
one_glyph slice slices own glyphs a b = rw (a, b) refl

each_back : (outlines : List Outline) → All IsWithinLimits outlines → each glyph_in (map glyph_bytes (contours_of outlines)) ≡ Some (contours_of outlines)
each_back [] all = refl
each_back (outline ∷ outlines) all =
    one_glyph (glyph_bytes outline.contours) (map glyph_bytes (contours_of outlines)) outline.contours (contours_of outlines)
    (glyph_back outline.contours (contours_within outline (All-head IsWithinLimits outline outlines all)))
    (each_back outlines (All-tail IsWithinLimits outline outlines all))

written_back : (long : Bool) (outlines : List Outline) → AreFit outlines → long ≡ nat_lt 131070 (length (glyf_bytes (contours_of outlines))) → glyphs_in long (length outlines) (loca_bytes long (contours_of outlines)) (glyf_bytes (contours_of outlines)) ≡ Some (contours_of outlines)
written_back long outlines fit is =
    let glyphs : List (List (List Point)) = contours_of outlines in
    let small : length (glyf_bytes glyphs) < 2 ^ 32 = omega (arith, glyf_small outlines fit.within, fit.few) in
    let counted : length glyphs ≡ length outlines = length-map outlines (λ (outline : Outline). outline.contours) in
    read_glyphs long (length outlines) (loca_bytes long glyphs) (glyf_bytes glyphs) (0 ∷ ends_from 0 glyphs) (map glyph_bytes glyphs) glyphs
    (ap (λ (n : ℕ). offsets_in long n (loca_bytes long glyphs)) (sym counted) ∙ offsets_back long glyphs (reaches_all long (length (glyf_bytes glyphs)) small is))
    (slices_back (glyf_bytes glyphs) [] 0 glyphs refl refl)
    (each_back outlines fit.within)

pub means : (outlines : List Outline) (glyf loca : List ℕ) (long : Bool) → AreFit outlines → AreWritten (contours_of outlines) glyf loca long → glyphs_in long (length outlines) loca glyf ≡ Some (contours_of outlines)
means outlines glyf loca long fit written =
    let is : long ≡ nat_lt 131070 (length (glyf_bytes (contours_of outlines))) = written.long_is ∙ ap (λ (bytes : List ℕ). nat_lt 131070 (length bytes)) written.glyf_is in
    ap (λ (bytes : List ℕ). glyphs_in long (length outlines) bytes glyf) written.loca_is
    ∙ ap (glyphs_in long (length outlines) (loca_bytes long (contours_of outlines))) written.glyf_is
    ∙ written_back long outlines fit is

-- every offset is within the reach of the short form, where that is taken
pub within_reach : (glyphs : List (List (List Point))) (glyf offsets : List ℕ) (long : Bool) → glyf ≡ glyf_bytes glyphs → offsets ≡ 0 ∷ ends_from 0 glyphs → long ≡ nat_lt 131070 (length glyf) → long ≡ false → All (λ offset. offset ≤ 131070) offsets
within_reach glyphs glyf offsets long glyf_is offsets_are long_is short =
    let small : length (glyf_bytes glyphs) ≤ 131070 = omega (arith, ltb-false 131070 (length glyf) (sym long_is ∙ short), ap length glyf_is) in
    let each : AllByRecursion (λ offset. offset ≤ 131070) (0 ∷ ends_from 0 glyphs) =
    each_of (IsOffset (length (glyf_bytes glyphs))) (λ offset. offset ≤ 131070) (λ offset own. omega (arith, own.within, small)) (0 ∷ ends_from 0 glyphs) (offsets_stand glyphs) in
    subst (All (λ offset. offset ≤ 131070)) (sym offsets_are) (All-from_recursion (λ offset. offset ≤ 131070) (0 ∷ ends_from 0 glyphs) each)
