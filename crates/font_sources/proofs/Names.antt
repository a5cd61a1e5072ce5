-- Names in glyph order, and where they are found.
use Rattle.std.proofs.Common.{◌≡◌, ◌<◌, ◌≤◌, ◌≢◌, ℕ, ◌+◌, Bool, true, false, cond, if◌then◌else◌, List, [], ◌∷◌, ◌++◌, length, map, take, drop, get_or, get_or-set_other, Option, Some, None, refl, sym, ◌∙◌, ap, arith}
use Rattle.std.specs.List.{filter, position_from}
use Rattle.std.specs.Map.{update}
use Rattle.std.specs.Str.{bytes_eq}
use Rattle.std.specs.Prelude.{IfSome}
use Rattle.std.proofs.lemmas.Slice.Eq.{bytes_eq-Decides}
use Rattle.std.proofs.lemmas.List.{at_drop_more, get_or_default, map_more}
use Rattle.std.proofs.Math.ListN.{length-set}
use Rattle.glif.specs.Limits.{AreDistinct}
use Rattle.glif.specs.declared.shape.Drawing.{Drawing}
use Rattle.font_sources.specs.GlyphOrder.{glyph_at, glyphs_named, notdef, with_name, with_names, without}
use Rattle.font_sources.specs.Naming.{position_of}
use Rattle.font_sources.proofs.Order.{place_of}

-- the position of one name more
pub named_more : (names : List (List ℕ)) (i next : ℕ) (d bytes : List ℕ) → i + 1 ≡ next → i < length names → bytes ≡ get_or names i d
    → (old new : List ℕ → Option ℕ) (name : List ℕ) → new name ≡ update bytes_eq old bytes (Some i) name
    → old name ≡ position_from (λ other. bytes_eq other name) next (drop next names)
    → new name ≡ position_from (λ other. bytes_eq other name) i (drop i names)
named_more names i next d bytes follows less named old new name updated before =
    updated
    ∙ ap (λ o. cond (bytes_eq bytes name) (Some i) o) (before ∙ ap (λ n. position_from (λ other. bytes_eq other name) n (drop n names)) (sym follows))
    ∙ ap (λ b. cond (bytes_eq b name) (Some i) (position_from (λ other. bytes_eq other name) (i + 1) (drop (i + 1) names))) named
    ∙ sym (at_drop_more (position_from (λ other. bytes_eq other name) i) names i d less)

-- one listed name more
listed_if : (p : List ℕ → Bool) (done : List (List ℕ)) (name : List ℕ) (names : List (List ℕ)) (among : Bool) → p name ≡ among
    → with_names (if among then with_name done name else done) (filter p names) ≡ with_names done (filter p (name ∷ names))
listed_if p done name names true is = rw is refl
listed_if p done name names false is = rw is refl

listed_more : (p : List ℕ → Bool) (done new : List (List ℕ)) (name : List ℕ) (names : List (List ℕ)) → new ≡ (if p name then with_name done name else done)
    → with_names new (filter p names) ≡ with_names done (filter p (name ∷ names))
listed_more p done new name names is = ap (λ all. with_names all (filter p names)) is ∙ listed_if p done name names (p name) refl

pub listed_first : (p : List ℕ → Bool) (none new order : List (List ℕ)) → none ≡ [] → new ≡ (if p notdef then with_name none notdef else none)
    → with_names new (filter p order) ≡ with_names [] (filter p (notdef ∷ order))
listed_first p none new order empty is = listed_more p none new notdef order is ∙ ap (λ done. with_names done (filter p (notdef ∷ order))) empty

pub listed_step : (p : List ℕ → Bool) (done new order : List (List ℕ)) (i : ℕ) (item name : List ℕ) → i < length order → item ≡ get_or order i item → name ≡ item
    → new ≡ (if p name then with_name done name else done) → with_names new (filter p (drop (i + 1) order)) ≡ with_names done (filter p (drop i order))
listed_step p done new order i item name less at same is =
    listed_more p done new name (drop (i + 1) order) is
    ∙ ap (λ n. with_names done (filter p (n ∷ drop (i + 1) order))) (same ∙ at)
    ∙ sym (at_drop_more (λ rest. with_names done (filter p rest)) order i item less)

-- ---- glyphs that are taken out of their list

pub position_below : (names : List (List ℕ)) (name : List ℕ) (position : Option ℕ) → position ≡ position_of names name → IfSome position (λ i. i < length names)
position_below names name None is = tt
position_below names name (Some i) is = let place = place_of (λ other. bytes_eq other name) 0 names i (sym is) in omega (arith, place.is, place.below)

pub length-without : (glyphs : List (Option Drawing)) (position : Option ℕ) → length (without glyphs position) ≡ length glyphs
length-without glyphs None = refl
length-without glyphs (Some i) = length-set glyphs i None

apart_at : (names : List (List ℕ)) (glyphs : List (Option Drawing)) (a b : List ℕ) (i j : Option ℕ) → position_of names a ≡ i → position_of names b ≡ j → a ≢ b → glyph_at (without glyphs i) j ≡ glyph_at glyphs j
apart_at names glyphs a b None j first second other = refl
apart_at names glyphs a b (Some i) None first second other = refl
apart_at names glyphs a b (Some i) (Some j) first second other =
    let here = place_of (λ name. bytes_eq name a) 0 names i first in
    let there = place_of (λ name. bytes_eq name b) 0 names j second in
    let ne : j ≢ i = λ same.
    other (sym ((bytes_eq-Decides (get_or names here.at []) a).0 (here.passes []))
    ∙ (ap (λ n. get_or names n []) (omega (arith, here.is, there.is, same))
    ∙ (bytes_eq-Decides (get_or names there.at []) b).0 (there.passes []))) in
    rw get_or-set_other refl

pub glyph_kept : (names : List (List ℕ)) (glyphs : List (Option Drawing)) (a b : List ℕ) → a ≢ b → glyph_at (without glyphs (position_of names a)) (position_of names b) ≡ glyph_at glyphs (position_of names b)
glyph_kept names glyphs a b other = apart_at names glyphs a b (position_of names a) (position_of names b) refl refl other

-- the glyphs of the first of the wanted names were found, and those of the later ones are left
pub record IsTaken (names : List (List ℕ)) (glyphs : List (Option Drawing)) (wanted : List (List ℕ)) (taken left : List (Option Drawing)) (i : ℕ) : Type 0 where
  pub found : taken ≡ glyphs_named names glyphs (take i wanted)
  pub one_each : length left ≡ length names
  pub still : (k : ℕ) → i ≤ k → k < length wanted → glyph_at left (position_of names (get_or wanted k [])) ≡ glyph_at glyphs (position_of names (get_or wanted k []))

pub one_taken : (names : List (List ℕ)) (glyphs : List (Option Drawing)) (wanted : List (List ℕ)) (taken left new_taken new_left : List (Option Drawing)) (i : ℕ) (item name : List ℕ) (position : Option ℕ) (glyph : Option Drawing)
    → AreDistinct wanted → i < length wanted → item ≡ get_or wanted i item → name ≡ item → position ≡ position_of names name → glyph ≡ glyph_at left position → new_left ≡ without left position → new_taken ≡ taken ++ glyph ∷ []
    → IsTaken names glyphs wanted taken left i → IsTaken names glyphs wanted new_taken new_left (i + 1)
one_taken names glyphs wanted taken left new_taken new_left i item name position glyph once less at same place is rest grown so =
    let here : position ≡ position_of names (get_or wanted i []) = place ∙ ap (position_of names) (same ∙ (at ∙ get_or_default wanted i item [] less)) in
    let found : glyph ≡ glyph_at glyphs (position_of names (get_or wanted i [])) = is ∙ (ap (glyph_at left) here ∙ so.still i (omega arith) less) in
    record {
      found = grown ∙ (ap (λ some. some ++ glyph ∷ []) so.found ∙ (ap (λ one. glyphs_named names glyphs (take i wanted) ++ one ∷ []) found
          ∙ sym (map_more (λ other. glyph_at glyphs (position_of names other)) wanted i [] less)));
      one_each = ap length rest ∙ (length-without left position ∙ so.one_each);
      still = λ k above below.
          ap (λ some. glyph_at some (position_of names (get_or wanted k []))) (rest ∙ ap (without left) here)
          ∙ (glyph_kept names left (get_or wanted i []) (get_or wanted k []) (once i k [] (omega arith) below) ∙ so.still k (omega arith) below);
    }
