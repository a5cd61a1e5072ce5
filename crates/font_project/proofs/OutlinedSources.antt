-- The outlines of the sources, where flattening gave some for each.
use Rattle.std.proofs.Common.{◌≡◌, ◌≢◌, inl, inr, ℕ, zero, suc, ◌+◌, ◌<◌, ◌≤◌, Bool, true, false, cond, List, [], ◌∷◌, length, get_or, All, Option, Some, Ok, refl, sym, ◌∙◌, ap, subst, arith}
use Rattle.std.specs.Prelude.{nat_eq, slice_get}
use Rattle.std.specs.List.{AllZip}
use Rattle.std.proofs.lemmas.Bool.{cases_eq, eqb-true}
use Rattle.std.proofs.lemmas.List.{length-map, get_or-map}
use Rattle.glif.specs.Limits.{IsWithinLimits}
use Rattle.font_project.specs.Flats.{AreFlatSources, IsFlat, IsFlatSource}
use Rattle.font_project.specs.Limits.{AreDrawnWithin, IsDrawnWithin, IsOutlinedWithin}
use Rattle.font_project.specs.Numbers.{default_first, others_from}
use Rattle.font_project.specs.Outlining.{are_flat, flat_or, is_flat, outlined_source, outlined_sources, outlines_in}
use Rattle.font_project.specs.declared.drawn.DrawnSource.{DrawnSource}
use Rattle.font_project.specs.declared.flat.Flat.{Flat}
use Rattle.font_project.specs.declared.flat.Flat.TheVariants.{Outlines, Refused}
use Rattle.font_project.specs.declared.flat.FlatSource.{FlatSource}
use Rattle.font_project.proofs.Flattening.{flattened_within}
use Rattle.font_project.proofs.Passing.{item_at, pass_at}

-- ---- every number stands among those of the sources

others_step : (default count number k : ℕ) (test : Bool) → nat_eq number default ≡ test → number ≤ k → k ≢ default
    → (number + 1 ≤ k → (j : ℕ) × (slice_get (others_from default count (number + 1)) j ≡ Some k))
    → (j : ℕ) × (slice_get (cond test (others_from default count (number + 1)) (number ∷ others_from default count (number + 1))) j ≡ Some k)
others_step default count number k true is low other later =
    let same : number ≡ default = eqb-true number default is in
    later (omega (arith, other, same))
others_step default count number k false is low other later =
    elim (cases_eq k number) [
      | inl same ↦ (0, ap Some (sym same))
      | inr differ ↦ let rest = later (omega (arith, differ)) in (suc rest.0, rest.1)
    ]

others_all : (default count number k : ℕ) → number ≤ k → k < number + count → k ≢ default → (j : ℕ) × (slice_get (others_from default count number) j ≡ Some k)
others_all default zero number k low high other = absurd (omega arith)
others_all default (suc count) number k low high other =
    others_step default count number k (nat_eq number default) refl low other (λ below. others_all default count (number + 1) k below (omega arith) other)

pub numbers_all : (default count k : ℕ) → k < count → (j : ℕ) × (slice_get (default_first default count) j ≡ Some k)
unfolding default_first
numbers_all default count k below =
    elim (cases_eq k default) [
      | inl same ↦ (0, ap Some (sym same))
      | inr other ↦ let rest = others_all default count 0 k (omega arith) (omega arith) other in (suc rest.0, rest.1)
    ]

-- ---- place by place

pub zip_length : {A B : Type 0} (R : A → B → Type 0) (xs : List A) (ys : List B) → AllZip R xs ys → length ys ≡ length xs
zip_length R [] [] all = refl
zip_length R [] (y ∷ ys) all = absurd all
zip_length R (x ∷ xs) [] all = absurd all
zip_length R (x ∷ xs) (y ∷ ys) all = ap suc (zip_length R xs ys all.1)

pub zip_at : {A B : Type 0} (R : A → B → Type 0) (xs : List A) (ys : List B) → AllZip R xs ys → (k : ℕ) (d : A) (e : B) → k < length ys → R (get_or xs k d) (get_or ys k e)
zip_at R [] [] all k d e below = absurd (omega arith)
zip_at R [] (y ∷ ys) all k d e below = absurd all
zip_at R (x ∷ xs) [] all k d e below = absurd all
zip_at R (x ∷ xs) (y ∷ ys) all zero d e below = all.0
zip_at R (x ∷ xs) (y ∷ ys) all (suc k) d e below = zip_at R xs ys all.1 k d e (omega (arith, below))

-- ---- the outlines of a source

flat_within : (glyphs : ℕ) (drawn : DrawnSource) (folder : List ℕ) (flat : Flat) → IsDrawnWithin glyphs drawn → IsFlat drawn.drawings flat → flat_or folder flat ≡ Ok tt
    → (length (outlines_in flat) ≡ glyphs) × All IsWithinLimits (outlines_in flat)
flat_within glyphs drawn folder (Outlines outlines) within flat passes =
    let both = flattened_within drawn.drawings outlines within.fit flat in
    (both.0 ∙ within.one_each, both.1)
flat_within glyphs drawn folder (Refused spot) within flat passes = cc

source_within : (glyphs : ℕ) (drawn : DrawnSource) (source : FlatSource) → IsDrawnWithin glyphs drawn → IsFlatSource drawn source → is_flat (Some source) ≡ Ok tt → IsOutlinedWithin glyphs (outlined_source source)
source_within glyphs drawn source within flat passes =
    let both = flat_within glyphs drawn source.folder source.flat within flat.flat passes in
    record { one_each = both.0; within = both.1 }

-- ---- all sources

pub outlined_count : (glyphs sources default : ℕ) (drawn : List DrawnSource) (flats : List FlatSource) → AreDrawnWithin glyphs sources default drawn → AreFlatSources drawn flats → length (outlined_sources flats) ≡ sources
outlined_count glyphs sources default drawn flats within flat =
    length-map flats outlined_source ∙ (zip_length IsFlatSource drawn flats flat ∙ within.one_each)

pub all_outlined : (glyphs sources default : ℕ) (drawn : List DrawnSource) (flats : List FlatSource) → AreDrawnWithin glyphs sources default drawn → AreFlatSources drawn flats
    → are_flat flats (default_first default (length drawn)) ≡ Ok tt → All (IsOutlinedWithin glyphs) (outlined_sources flats)
all_outlined glyphs sources default drawn flats within flat passes = λ k d below.
    let inside : k < length flats = omega (arith, below, length-map flats outlined_source) in
    let none : FlatSource = record { folder = []; flat = Outlines [] } in
    let nothing : DrawnSource = record { folder = []; drawings = [] } in
    let source : FlatSource = get_or flats k none in
    let before : k < length drawn = omega (arith, inside, zip_length IsFlatSource drawn flats flat) in
    let number = numbers_all default (length drawn) k before in
    let here : is_flat (slice_get flats k) ≡ Ok tt = pass_at (λ _ number. is_flat (slice_get flats number)) 0 (default_first default (length drawn)) passes number.0 k number.1 in
    let passed : is_flat (Some source) ≡ Ok tt = subst (λ (found : Option FlatSource). is_flat found ≡ Ok tt) (item_at flats k none inside) here in
    subst (IsOutlinedWithin glyphs) (sym (get_or-map outlined_source flats k none d inside))
    (source_within glyphs (get_or drawn k nothing) source (within.each k nothing before) (zip_at IsFlatSource drawn flats flat k nothing none inside) passed)
