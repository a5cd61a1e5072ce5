-- The code points of drawings are such as a font can be built of.
use Rattle.std.proofs.Common.{◌≡◌, ℕ, ◌+◌, ◌<◌, ◌≤◌, List, [], ◌∷◌, length, All, refl, subst, arith}
use Rattle.std.specs.BTreeMap.{insert_entry}
use Rattle.std.specs.Ordering.{match_ordering, nat_cmp}
use Rattle.std.specs.declared.cmp.Ordering.{Ordering}
use Rattle.std.specs.declared.cmp.Ordering.TheVariants.{Equal, Greater, Less}
use Rattle.std.proofs.lemmas.Cmp.{ranked}
use Rattle.std.proofs.lemmas.List.Elements.{All-cons, All-head, All-nil, All-tail}
use Rattle.glif.specs.Limits.{IsCodePoint}
use Rattle.glif.specs.declared.shape.Drawing.{Drawing}
use Rattle.cmap_name.specs.Codes.{IsCharacter, Rise}
use Rattle.font_model.specs.Fit.{AreGlyphCodes}
use Rattle.font_project.specs.Codes.{HasCodePoints, codes_from, codes_of, with_codes}

-- ---- one more

rise_step : (n k v : ℕ) (own : ℕ × ℕ) (others : List (ℕ × ℕ)) (order : Ordering) → order ≡ nat_cmp k own.0 → n ≤ k → Rise n (own ∷ others) → (own.0 + 1 ≤ k → Rise (own.0 + 1) (insert_entry nat_cmp others k v))
    → Rise n (match_ordering order ((k, v) ∷ own ∷ others) ((own.0, v) ∷ others) (own ∷ insert_entry nat_cmp others k v))
rise_step n k v own others Less is low rise later = let before : k < own.0 = ranked k own.0 Less is in (low, (omega arith, rise.1))
rise_step n k v own others Equal is low rise later = (rise.0, rise.1)
rise_step n k v own others Greater is low rise later = let behind : own.0 < k = ranked k own.0 Greater is in (rise.0, later (omega arith))

rise_insert : (n : ℕ) (entries : List (ℕ × ℕ)) (k v : ℕ) → n ≤ k → Rise n entries → Rise n (insert_entry nat_cmp entries k v)
rise_insert n [] k v low rise = (low, tt)
rise_insert n (own ∷ others) k v low rise =
    rise_step n k v own others (nat_cmp k own.0) refl low rise (λ behind. rise_insert (own.0 + 1) others k v behind rise.1)

all_step : (P : ℕ × ℕ → Type 0) (k v : ℕ) (own : ℕ × ℕ) (others : List (ℕ × ℕ)) (order : Ordering) → order ≡ nat_cmp k own.0 → P (k, v) → All P (own ∷ others) → All P (insert_entry nat_cmp others k v)
    → All P (match_ordering order ((k, v) ∷ own ∷ others) ((own.0, v) ∷ others) (own ∷ insert_entry nat_cmp others k v))
all_step P k v own others Less is new all later = All-cons P (k, v) (own ∷ others) new all
all_step P k v own others Equal is new all later =
    let same : k ≡ own.0 = ranked k own.0 Equal is in
    All-cons P (own.0, v) others (subst (λ (n : ℕ). P (n, v)) same new) (All-tail P own others all)
all_step P k v own others Greater is new all later = All-cons P own (insert_entry nat_cmp others k v) (All-head P own others all) later

all_insert : (P : ℕ × ℕ → Type 0) (entries : List (ℕ × ℕ)) (k v : ℕ) → P (k, v) → All P entries → All P (insert_entry nat_cmp entries k v)
all_insert P [] k v new all = All-cons P (k, v) [] new all
all_insert P (own ∷ others) k v new all = all_step P k v own others (nat_cmp k own.0) refl new all (all_insert P others k v new (All-tail P own others all))

-- ---- all

fit_insert : (glyphs : ℕ) (done : List (ℕ × ℕ)) (code glyph : ℕ) → glyph < glyphs → IsCodePoint code → AreGlyphCodes glyphs done → AreGlyphCodes glyphs (insert_entry nat_cmp done code glyph)
fit_insert glyphs done code glyph below point fit = record {
  characters = record {
    rise = rise_insert 0 done code glyph (omega arith) fit.characters.rise;
    each = all_insert IsCharacter done code glyph (record { unicode = point.greatest; named = point.named }) fit.characters.each;
  };
  there = all_insert (λ own. own.1 < glyphs) done code glyph below fit.there;
}

fit_with : (glyphs : ℕ) (done : List (ℕ × ℕ)) (glyph : ℕ) (own : List ℕ) → glyph < glyphs → All IsCodePoint own → AreGlyphCodes glyphs done → AreGlyphCodes glyphs (with_codes done glyph own)
fit_with glyphs done glyph [] below points fit = fit
fit_with glyphs done glyph (code ∷ own) below points fit =
    fit_with glyphs (insert_entry nat_cmp done code glyph) glyph own below (All-tail IsCodePoint code own points) (fit_insert glyphs done code glyph below (All-head IsCodePoint code own points) fit)

fit_from : (glyphs : ℕ) (done : List (ℕ × ℕ)) (glyph : ℕ) (drawings : List Drawing) → glyph + length drawings ≤ glyphs → All HasCodePoints drawings → AreGlyphCodes glyphs done → AreGlyphCodes glyphs (codes_from done glyph drawings)
fit_from glyphs done glyph [] within points fit = fit
fit_from glyphs done glyph (drawing ∷ drawings) within points fit =
    fit_from glyphs (with_codes done glyph drawing.codes) (glyph + 1) drawings (omega arith) (All-tail HasCodePoints drawing drawings points)
    (fit_with glyphs done glyph drawing.codes (omega arith) (All-head HasCodePoints drawing drawings points) fit)

pub fit_codes : (drawings : List Drawing) → All HasCodePoints drawings → AreGlyphCodes (length drawings) (codes_of drawings)
unfolding codes_of
fit_codes drawings points =
    fit_from (length drawings) [] 0 drawings (omega arith) points (record {
      characters = record { rise = tt; each = All-nil IsCharacter };
      there = All-nil (λ (own : ℕ × ℕ). own.1 < length drawings);
    })
