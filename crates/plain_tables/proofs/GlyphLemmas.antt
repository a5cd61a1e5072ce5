-- The glyphs of a font, one for each name.
use Rattle.std.proofs.Common.{◌≡◌, ℕ, zero, suc, ◌<◌, ℤ, pos, List, [], ◌∷◌, length, get_or, refl, sym, ap, subst, ◌∙◌, arith, to_z, of_z}
use Rattle.std.proofs.lemmas.Int.{ints}
use Rattle.std.proofs.lemmas.List.{get_or_default}
use Rattle.std.proofs.lemmas.List.Elements.{All-get_or, recursion_from_All}
use Rattle.std.specs.Prelude.{All}
use Rattle.std.specs.Int.{w32}
use Rattle.std.specs.List.{AllByRecursion}
use Rattle.glyf_loca.specs.declared.extent.Bounds.{Bounds}
use Rattle.plain_tables.specs.Conditions.{AreBoundsWithin, AreFacts, IsAdvanceWithin, IsGlyphWithin}
use Rattle.plain_tables.specs.GlyphMeasures.{glyphs_from, glyphs_of}
use Rattle.plain_tables.specs.declared.facts.Facts.{Facts}
use Rattle.plain_tables.specs.declared.glyphs.Glyph.{Glyph}

-- ---- their number

counted : (advances : List ℤ) (bounds : List Bounds) (lengths : List (ℕ × ℕ)) → length bounds ≡ length advances → length lengths ≡ length advances → length (glyphs_from advances bounds lengths) ≡ length advances
counted [] bounds lengths p q = refl
counted (advance ∷ advances) [] lengths p q = absurd (omega arith)
counted (advance ∷ advances) (own ∷ bounds) [] p q = absurd (omega arith)
counted (advance ∷ advances) (own ∷ bounds) (pair ∷ lengths) p q = ap suc (counted advances bounds lengths (omega arith) (omega arith))

pub glyphs_count : (facts : Facts) → AreFacts facts → length (glyphs_of facts) ≡ length facts.names
glyphs_count facts own =
    let all = counted facts.advances facts.bounds facts.lengths (omega (arith, own.bounds_each, own.advance_each)) (omega (arith, own.lengths_each, own.advance_each)) in
    omega (arith, all, own.advance_each)

-- ---- one of them

same_glyph : (a p : ℤ) (b q : Bounds) (c r : ℕ × ℕ) → a ≡ p → b ≡ q → c ≡ r → let first : Glyph = record { advance = a; bounds = b; points = c.0; contours = c.1 } in let second : Glyph = record { advance = p; bounds = q; points = r.0; contours = r.1 } in first ≡ second
same_glyph a p b q c r advance bounds pair = cc

pub glyph_there : (advances : List ℤ) (bounds : List Bounds) (lengths : List (ℕ × ℕ)) (i : ℕ) (advance : ℤ) (own : Bounds) (pair : ℕ × ℕ) (d : Glyph) → i < length advances → i < length bounds → i < length lengths → advance ≡ get_or advances i advance → own ≡ get_or bounds i own → pair ≡ get_or lengths i pair
    → (let glyph : Glyph = record { advance = advance; bounds = own; points = pair.0; contours = pair.1 } in glyph ≡ get_or (glyphs_from advances bounds lengths) i d)
glyph_there [] bounds lengths i advance own pair d p q r a b c = absurd (omega arith)
glyph_there (first ∷ advances) [] lengths i advance own pair d p q r a b c = absurd (omega arith)
glyph_there (first ∷ advances) (second ∷ bounds) [] i advance own pair d p q r a b c = absurd (omega arith)
glyph_there (first ∷ advances) (second ∷ bounds) (third ∷ lengths) zero advance own pair d p q r a b c = same_glyph advance first own second pair third a b c
glyph_there (first ∷ advances) (second ∷ bounds) (third ∷ lengths) (suc i) advance own pair d p q r a b c =
    glyph_there advances bounds lengths i advance own pair d (omega arith) (omega arith) (omega arith) a b c

-- the glyph that is read from the lists
pub glyph_read : (facts : Facts) (i : ℕ) (advances : List ℤ) (bounds : List Bounds) (lengths : List (ℕ × ℕ)) (none : Bounds) (d : Glyph) → AreFacts facts → i < length facts.names → advances ≡ facts.advances → bounds ≡ facts.bounds → lengths ≡ facts.lengths
    → (let glyph : Glyph = record { advance = to_z w32 (of_z w32 (get_or advances i (pos 0))); bounds = get_or bounds i none; points = (get_or lengths i (0, 0)).0; contours = (get_or lengths i (0, 0)).1 } in glyph ≡ get_or (glyphs_of facts) i d)
glyph_read facts i advances bounds lengths none d own within advances_are bounds_are lengths_are =
    let in_advances : i < length facts.advances = omega (arith, own.advance_each) in
    let in_bounds : i < length facts.bounds = omega (arith, own.bounds_each) in
    let in_lengths : i < length facts.lengths = omega (arith, own.lengths_each) in
    let advance : ℤ = to_z w32 (of_z w32 (get_or advances i (pos 0))) in
    let box : Bounds = get_or bounds i none in
    let pair : ℕ × ℕ = get_or lengths i (0, 0) in
    let read : get_or advances i (pos 0) ≡ get_or facts.advances i (pos 0) = ap (λ (xs : List ℤ). get_or xs i (pos 0)) advances_are in
    let limits : IsAdvanceWithin (get_or facts.advances i (pos 0)) = All-get_or IsAdvanceWithin facts.advances i (pos 0) in_advances own.advances in
    let plain : to_z w32 (of_z w32 (get_or advances i (pos 0))) ≡ get_or advances i (pos 0) = omega (arith, ints, limits.least, limits.greatest, read) in
    glyph_there facts.advances facts.bounds facts.lengths i advance box pair d in_advances in_bounds in_lengths
    (plain ∙ read ∙ get_or_default facts.advances i (pos 0) advance in_advances)
    (ap (λ (xs : List Bounds). get_or xs i none) bounds_are ∙ get_or_default facts.bounds i none box in_bounds)
    (ap (λ (xs : List (ℕ × ℕ)). get_or xs i (0, 0)) lengths_are ∙ get_or_default facts.lengths i (0, 0) pair in_lengths)

-- what holds of each item holds of the one that is read
pub held : {A : Type 0} (P : A → Type 0) (xs : List A) (i : ℕ) (x : A) → i < length xs → All P xs → x ≡ get_or xs i x → P x
held P xs i x within each is = subst P (sym is) (All-get_or P xs i x within each)

-- ---- all of them

each_within : (advances : List ℤ) (bounds : List Bounds) (lengths : List (ℕ × ℕ)) → AllByRecursion IsAdvanceWithin advances → AllByRecursion AreBoundsWithin bounds → AllByRecursion IsGlyphWithin (glyphs_from advances bounds lengths)
each_within [] bounds lengths p q = tt
each_within (advance ∷ advances) [] lengths p q = tt
each_within (advance ∷ advances) (own ∷ bounds) [] p q = tt
each_within (advance ∷ advances) (own ∷ bounds) (pair ∷ lengths) p q = (record { advance = p.0; bounds = q.0 }, each_within advances bounds lengths p.1 q.1)

pub glyphs_within : (facts : Facts) → AreFacts facts → AllByRecursion IsGlyphWithin (glyphs_of facts)
glyphs_within facts own =
    each_within facts.advances facts.bounds facts.lengths (recursion_from_All IsAdvanceWithin facts.advances own.advances) (recursion_from_All AreBoundsWithin facts.bounds own.bounds)
