-- What a glyph more makes of the measures.
use Rattle.std.proofs.Common.{◌≡◌, ℕ, zero, suc, ◌+◌, ◌<◌, max, ℤ, pos, ◌+ℤ◌, ◌≤ℤ◌, Bool, true, false, not, cond, List, [], ◌∷◌, ◌++◌, length, get_or, take, fold, map, filter, refl, sym, ap, subst, ◌∙◌, arith}
use Rattle.std.proofs.lemmas.Bool.Decides.{nat_tests}
use Rattle.std.proofs.lemmas.Int.{clamps, ints}
use Rattle.std.proofs.lemmas.List.{append-nil, length_push, map_push, take_more}
use Rattle.std.proofs.lemmas.List.Elements.{filter-append}
use Rattle.std.proofs.lemmas.List.Sums.{fold_push}
use Rattle.std.specs.Prelude.{◌≢◌, int_lt, nat_eq}
use Rattle.std.specs.Int.{int_max, int_min}
use Rattle.glyf_loca.specs.Bounds.{greatest, least}
use Rattle.glyf_loca.specs.declared.extent.Bounds.{Bounds}
use Rattle.plain_tables.specs.GlyphMeasures.{above_zero, are_some, bounds_from, counts_of, drawn, extent_from, extent_of, is_drawn, measures_of, most, right_bearing, total, widths_from}
use Rattle.plain_tables.specs.declared.glyphs.Glyph.{Glyph}
use Rattle.plain_tables.specs.declared.measures.Counts.{Counts}
use Rattle.plain_tables.specs.declared.measures.Extent.{Extent}
use Rattle.plain_tables.specs.declared.measures.Measures.{Measures}
use Rattle.plain_tables.specs.declared.measures.Widths.{Widths}

-- ---- the glyphs that have contours

undrawn : (n : ℕ) → n ≡ 0 → not (nat_eq n 0) ≡ false
undrawn n is = ap (λ (k : ℕ). not (nat_eq k 0)) is

does_draw : (n : ℕ) → n ≢ 0 → not (nat_eq n 0) ≡ true
does_draw n is = grind (arith, nat_tests)

drawn_kept : (glyphs : List Glyph) (own : Glyph) → own.contours ≡ 0 → drawn (glyphs ++ own ∷ []) ≡ drawn glyphs
drawn_kept glyphs own is =
    filter-append is_drawn glyphs (own ∷ [])
    ∙ ap (λ (b : Bool). drawn glyphs ++ cond b (own ∷ []) []) (undrawn own.contours is)
    ∙ append-nil (drawn glyphs)

drawn_more : (glyphs : List Glyph) (own : Glyph) → own.contours ≢ 0 → drawn (glyphs ++ own ∷ []) ≡ drawn glyphs ++ own ∷ []
drawn_more glyphs own is =
    filter-append is_drawn glyphs (own ∷ []) ∙ ap (λ (b : Bool). drawn glyphs ++ cond b (own ∷ []) []) (does_draw own.contours is)

-- ---- their extent

pub extent_kept : (glyphs : List Glyph) (own : Glyph) (extent : Extent) → own.contours ≡ 0 → extent ≡ extent_of glyphs → extent ≡ extent_of (glyphs ++ own ∷ [])
unfolding extent_of
extent_kept glyphs own extent is before = before ∙ sym (ap extent_from (drawn_kept glyphs own is))

are_none : (glyphs : List Glyph) → are_some glyphs ≡ false → glyphs ≡ []
are_none [] none = refl
are_none (glyph ∷ glyphs) none = absurd (cc)

same_extent : (s t : Bool) (a b : Bounds) (p q : ℤ) → s ≡ t → a ≡ b → p ≡ q → let first : Extent = record { some = s; bounds = a; right = p } in let second : Extent = record { some = t; bounds = b; right = q } in first ≡ second
same_extent s t a b p q some bounds right = cc

pub extent_first : (glyphs : List Glyph) (own : Glyph) (extent : Extent) (right : ℤ) → own.contours ≢ 0 → extent.some ≡ false → right ≡ right_bearing own → extent ≡ extent_of glyphs
    → (let result : Extent = record { some = true; bounds = own.bounds; right = right } in result ≡ extent_of (glyphs ++ own ∷ []))
unfolding extent_of
extent_first glyphs own extent right is none bearing before =
    let empty : drawn glyphs ≡ [] = are_none (drawn glyphs) (sym (ap (λ (e : Extent). e.some) before) ∙ none) in
    same_extent true true own.bounds own.bounds right (right_bearing own) refl refl bearing
    ∙ sym (ap extent_from (drawn_more glyphs own is ∙ ap (λ (gs : List Glyph). gs ++ own ∷ []) empty))

least_more : (f : Glyph → ℤ) (glyph : Glyph) (glyphs : List Glyph) (own : Glyph) → least (map f ((glyph ∷ glyphs) ++ own ∷ [])) ≡ int_min (least (map f (glyph ∷ glyphs))) (f own)
least_more f glyph glyphs own = ap (fold int_min (f glyph)) (map_push f glyphs own) ∙ fold_push int_min (f glyph) (map f glyphs) (f own)

greatest_more : (f : Glyph → ℤ) (glyph : Glyph) (glyphs : List Glyph) (own : Glyph) → greatest (map f ((glyph ∷ glyphs) ++ own ∷ [])) ≡ int_max (greatest (map f (glyph ∷ glyphs))) (f own)
greatest_more f glyph glyphs own = ap (fold int_max (f glyph)) (map_push f glyphs own) ∙ fold_push int_max (f glyph) (map f glyphs) (f own)

-- the box round two boxes
pub record IsRoundBoth (first second result : Bounds) : Type 0 where
  pub x_min : result.x_min ≡ int_min first.x_min second.x_min
  pub y_min : result.y_min ≡ int_min first.y_min second.y_min
  pub x_max : result.x_max ≡ int_max first.x_max second.x_max
  pub y_max : result.y_max ≡ int_max first.y_max second.y_max

same_bounds : (a b c d p q r s : ℤ) → a ≡ p → b ≡ q → c ≡ r → d ≡ s → let first : Bounds = record { x_min = a; y_min = b; x_max = c; y_max = d } in let second : Bounds = record { x_min = p; y_min = q; x_max = r; y_max = s } in first ≡ second
same_bounds a b c d p q r s x_min y_min x_max y_max = cc

extent_joined : (glyphs : List Glyph) (own : Glyph) (bounds : Bounds) (right : ℤ) → are_some glyphs ≡ true → IsRoundBoth (bounds_from glyphs) own.bounds bounds → right ≡ int_min (least (map right_bearing glyphs)) (right_bearing own)
    → (let result : Extent = record { some = true; bounds = bounds; right = right } in result ≡ extent_from (glyphs ++ own ∷ []))
extent_joined [] own bounds right some is bearing = absurd (cc)
extent_joined (glyph ∷ glyphs) own bounds right some is bearing =
    let all : List Glyph = (glyph ∷ glyphs) ++ own ∷ [] in
    same_extent true true bounds (bounds_from all) right (least (map right_bearing all)) refl
    (same_bounds bounds.x_min bounds.y_min bounds.x_max bounds.y_max (bounds_from all).x_min (bounds_from all).y_min (bounds_from all).x_max (bounds_from all).y_max
    (is.x_min ∙ sym (least_more (λ g. g.bounds.x_min) glyph glyphs own))
    (is.y_min ∙ sym (least_more (λ g. g.bounds.y_min) glyph glyphs own))
    (is.x_max ∙ sym (greatest_more (λ g. g.bounds.x_max) glyph glyphs own))
    (is.y_max ∙ sym (greatest_more (λ g. g.bounds.y_max) glyph glyphs own)))
    (bearing ∙ sym (least_more right_bearing glyph glyphs own))

pub extent_more : (glyphs : List Glyph) (own : Glyph) (extent : Extent) (bounds : Bounds) (right : ℤ) → own.contours ≢ 0 → extent.some ≡ true → IsRoundBoth extent.bounds own.bounds bounds → right ≡ int_min extent.right (right_bearing own) → extent ≡ extent_of glyphs
    → (let result : Extent = record { some = true; bounds = bounds; right = right } in result ≡ extent_of (glyphs ++ own ∷ []))
unfolding extent_of
extent_more glyphs own extent bounds right is some joined bearing before =
    extent_joined (drawn glyphs) own bounds right (sym (ap (λ (e : Extent). e.some) before) ∙ some)
    (subst (λ (e : Extent). IsRoundBoth e.bounds own.bounds bounds) before joined)
    (bearing ∙ ap (λ (e : Extent). int_min e.right (right_bearing own)) before)
    ∙ sym (ap extent_from (drawn_more glyphs own is))

-- ---- advance widths

widest_more : (zs : List ℤ) (z : ℤ) → pos 0 ≤ℤ z → greatest (zs ++ z ∷ []) ≡ int_max (greatest zs) z
widest_more [] z least = omega (arith, ints, clamps)
widest_more (y ∷ ys) z least = fold_push int_max y ys z

above_more : (zs : List ℤ) (z : ℤ) → int_lt (pos 0) z ≡ true → above_zero (zs ++ z ∷ []) ≡ above_zero zs ++ z ∷ []
above_more zs z is =
    filter-append (λ (n : ℤ). int_lt (pos 0) n) zs (z ∷ []) ∙ ap (λ (b : Bool). above_zero zs ++ cond b (z ∷ []) []) is

above_kept : (zs : List ℤ) (z : ℤ) → int_lt (pos 0) z ≡ false → above_zero (zs ++ z ∷ []) ≡ above_zero zs
above_kept zs z is =
    filter-append (λ (n : ℤ). int_lt (pos 0) n) zs (z ∷ [])
    ∙ ap (λ (b : Bool). above_zero zs ++ cond b (z ∷ []) []) is
    ∙ append-nil (above_zero zs)

same_widths : (a p : ℤ) (m n : ℕ) (b q : ℤ) → a ≡ p → m ≡ n → b ≡ q → let first : Widths = record { widest = a; count = m; sum = b } in let second : Widths = record { widest = p; count = n; sum = q } in first ≡ second
same_widths a p m n b q widest count sum = cc

pub widths_more : (zs : List ℤ) (z : ℤ) (before : Widths) (widest : ℤ) (count : ℕ) (sum : ℤ) → pos 0 ≤ℤ z → int_lt (pos 0) z ≡ true → widest ≡ int_max before.widest z → count ≡ before.count + 1 → sum ≡ before.sum +ℤ z → before ≡ widths_from zs
    → (let after : Widths = record { widest = widest; count = count; sum = sum } in after ≡ widths_from (zs ++ z ∷ []))
unfolding widths_from
widths_more zs z before widest count sum least is widest_is count_is sum_is was =
    let more : above_zero (zs ++ z ∷ []) ≡ above_zero zs ++ z ∷ [] = above_more zs z is in
    same_widths widest (greatest (zs ++ z ∷ [])) count (length (above_zero (zs ++ z ∷ []))) sum (total (above_zero (zs ++ z ∷ [])))
    (widest_is ∙ ap (λ (w : Widths). int_max w.widest z) was ∙ sym (widest_more zs z least))
    (count_is ∙ ap (λ (w : Widths). w.count + 1) was ∙ sym (ap length more ∙ length_push (above_zero zs) z))
    (sum_is ∙ ap (λ (w : Widths). w.sum +ℤ z) was ∙ sym (ap total more ∙ fold_push ◌+ℤ◌ (pos 0) (above_zero zs) z))

pub widths_kept : (zs : List ℤ) (z : ℤ) (before : Widths) (widest : ℤ) (count : ℕ) (sum : ℤ) → pos 0 ≤ℤ z → int_lt (pos 0) z ≡ false → widest ≡ int_max before.widest z → count ≡ before.count → sum ≡ before.sum → before ≡ widths_from zs
    → (let after : Widths = record { widest = widest; count = count; sum = sum } in after ≡ widths_from (zs ++ z ∷ []))
unfolding widths_from
widths_kept zs z before widest count sum least is widest_is count_is sum_is was =
    let kept : above_zero (zs ++ z ∷ []) ≡ above_zero zs = above_kept zs z is in
    same_widths widest (greatest (zs ++ z ∷ [])) count (length (above_zero (zs ++ z ∷ []))) sum (total (above_zero (zs ++ z ∷ [])))
    (widest_is ∙ ap (λ (w : Widths). int_max w.widest z) was ∙ sym (widest_more zs z least))
    (count_is ∙ ap (λ (w : Widths). w.count) was ∙ sym (ap length kept))
    (sum_is ∙ ap (λ (w : Widths). w.sum) was ∙ sym (ap total kept))

-- ---- points and contours

most_more : (f : Glyph → ℕ) (glyphs : List Glyph) (own : Glyph) → most (map f (glyphs ++ own ∷ [])) ≡ max (most (map f glyphs)) (f own)
most_more f glyphs own = ap most (map_push f glyphs own) ∙ fold_push max 0 (map f glyphs) (f own)

same_counts : (a b p q : ℕ) → a ≡ p → b ≡ q → let first : Counts = record { points = a; contours = b } in let second : Counts = record { points = p; contours = q } in first ≡ second
same_counts a b p q points contours = cc

pub counts_more : (glyphs : List Glyph) (own : Glyph) (before : Counts) (points contours : ℕ) → points ≡ max before.points own.points → contours ≡ max before.contours own.contours → before ≡ counts_of glyphs
    → (let after : Counts = record { points = points; contours = contours } in after ≡ counts_of (glyphs ++ own ∷ []))
unfolding counts_of
counts_more glyphs own before points contours points_is contours_is was =
    same_counts points contours (most (map (λ g. g.points) (glyphs ++ own ∷ []))) (most (map (λ g. g.contours) (glyphs ++ own ∷ [])))
    (points_is ∙ ap (λ (c : Counts). max c.points own.points) was ∙ sym (most_more (λ g. g.points) glyphs own))
    (contours_is ∙ ap (λ (c : Counts). max c.contours own.contours) was ∙ sym (most_more (λ g. g.contours) glyphs own))

-- ---- all measures

same_measures : (a p : Extent) (b q : Widths) (c r : Counts) → a ≡ p → b ≡ q → c ≡ r → let first : Measures = record { extent = a; widths = b; counts = c } in let second : Measures = record { extent = p; widths = q; counts = r } in first ≡ second
same_measures a p b q c r extent widths counts = cc

pub measures_more : (glyphs : List Glyph) (i : ℕ) (own : Glyph) (before : Measures) (extent : Extent) (widths : Widths) (counts : Counts) → i < length glyphs → own ≡ get_or glyphs i own → before ≡ measures_of (take i glyphs)
    → ((gs : List Glyph) → before.extent ≡ extent_of gs → extent ≡ extent_of (gs ++ own ∷ []))
    → ((zs : List ℤ) → before.widths ≡ widths_from zs → widths ≡ widths_from (zs ++ own.advance ∷ []))
    → ((gs : List Glyph) → before.counts ≡ counts_of gs → counts ≡ counts_of (gs ++ own ∷ []))
    → (let after : Measures = record { extent = extent; widths = widths; counts = counts } in after ≡ measures_of (take (i + 1) glyphs))
measures_more glyphs i own before extent widths counts within is was extent_is widths_is counts_is =
    let done : List Glyph = take i glyphs in
    let all : List Glyph = done ++ own ∷ [] in
    let more : take (i + 1) glyphs ≡ all = take_more glyphs i own within ∙ ap (λ (g : Glyph). done ++ g ∷ []) (sym is) in
    same_measures extent (extent_of all) widths (widths_from (map (λ g. g.advance) all)) counts (counts_of all)
    (extent_is done (ap (λ (m : Measures). m.extent) was))
    (widths_is (map (λ g. g.advance) done) (ap (λ (m : Measures). m.widths) was) ∙ sym (ap widths_from (map_push (λ (g : Glyph). g.advance) done own)))
    (counts_is done (ap (λ (m : Measures). m.counts) was))
    ∙ sym (ap measures_of more)
