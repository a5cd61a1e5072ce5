-- What the tuple variations of the masters after the default add to each point.
use Rattle.std.proofs.Common.{◌≡◌, ◌≢◌, ◌⊎◌, ℕ, ℤ, zero, suc, pos, ◌+◌, ◌+ℤ◌, ◌*ℤ◌, Bool, true, false, ◌&&◌, List, [], ◌∷◌, ◌++◌, length, map, take, get_or, All, Some, if◌then◌else◌, refl, sym, ◌∙◌, ap, subst, inl, inr, ⊎_elim, arith}
use Rattle.std.proofs.Math.Seq.{take-append_seam}
use Rattle.std.proofs.lemmas.Bool.{eq-eqb, ne_eqb, cases_eq}
use Rattle.std.proofs.lemmas.Int.{ints}
use Rattle.std.proofs.lemmas.List.{get_or-append-add}
use Rattle.std.proofs.lemmas.List.Elements.{All-head, All-tail}
use Rattle.std.specs.Bool.{MatchBool}
use Rattle.std.specs.List.{list_all}
use Rattle.std.specs.Option.{unwrap_or}
use Rattle.std.specs.Ordering.{int_eq}
use Rattle.fixpoint.specs.declared.plane.Pair.{Pair}
use Rattle.variation_rules.specs.InferredDelta.{still}
use Rattle.variation_rules.specs.DrawnOutline.{Fills, FillsContours, movement, named_delta, phantom_movement}
use Rattle.variation_rules.specs.Scalar.{scalar_of}
use Rattle.variation_rules.specs.declared.region.Triple.{Triple}
use Rattle.variation_rules.specs.declared.tuple.TupleVariation.{TupleVariation}
use Rattle.variation_rules.proofs.FillingLemmas.{contours_respect}
use Rattle.region_support.proofs.AxisLemmas.{eq_tells}
use Rattle.iup.specs.Arcs.{given_by}
use Rattle.explicit_points.specs.ExplicitPoints.{IsGlyph, is_still}
use Rattle.explicit_points.proofs.LawLemmas.{explicit_once, explicit_fills, explicit_phantoms}
use Rattle.delta_solve.specs.Deltas.{dot, scalars_at}
use Rattle.delta_solve.specs.GlyphModels.{delta_advance}
use Rattle.delta_solve.specs.declared.model.GlyphTuple.{GlyphTuple}
use Rattle.glyph_variations.specs.Variations.{AreMoving, IsVariation, VariationsOnce, all_deltas, is_still_tuple, phantom_deltas, picked}

-- ---- deltas of the points that a variation names

-- it gives each of them its delta
pub picked_by : (named : List ℕ) (deltas : List Pair) (k : ℕ) → named_delta named (picked deltas named) k ≡ given_by named deltas k
picked_by [] deltas k = refl
picked_by (x ∷ named) deltas k =
    ⊎_elim
    (λ (same : x ≡ k). rw (eq-eqb x k same) (ap (λ n. Some (get_or deltas n still)) same))
    (λ (other : x ≡ k → ⊥). rw (ne_eqb x k other) (picked_by named deltas k))
    (cases_eq x k)

-- what it names is what the explicit points give
pub variation_gives : (lengths : List ℕ) (points : List Pair) (region : List Triple) (deltas : List Pair) (own : TupleVariation) (k : ℕ) → IsVariation lengths points region deltas own → named_delta own.points own.deltas k ≡ given_by own.points deltas k
variation_gives lengths points region deltas own k is = ap (λ picks. named_delta own.points picks k) is.deltas_are ∙ picked_by own.points deltas k

-- ---- tuples in which nothing moves

both_true : (x y : Bool) → (x && y) ≡ true → (x ≡ true) × (y ≡ true)
both_true true y both = (refl, both)
both_true false y both = absurd (cc)

still_by : (delta : Pair) → ((int_eq delta.x (pos 0) ≡ true) × (delta.x ≡ pos 0)) ⊎ ((int_eq delta.x (pos 0) ≡ false) × (delta.x ≢ pos 0)) → ((int_eq delta.y (pos 0) ≡ true) × (delta.y ≡ pos 0)) ⊎ ((int_eq delta.y (pos 0) ≡ false) × (delta.y ≢ pos 0)) → is_still delta ≡ true → delta ≡ still
still_by delta (inl x) (inl y) all = let x_is = x.1 in let y_is = y.1 in λ i. record { x = x_is i; y = y_is i }
still_by delta (inl x) (inr moves) all = absurd (let yes = (both_true (int_eq delta.x (pos 0)) (int_eq delta.y (pos 0)) all).1 in let no = moves.0 in cc)
still_by delta (inr moves) other all = absurd (let yes = (both_true (int_eq delta.x (pos 0)) (int_eq delta.y (pos 0)) all).0 in let no = moves.0 in cc)

still_pair : (delta : Pair) → is_still delta ≡ true → delta ≡ still
still_pair delta all = still_by delta (eq_tells delta.x (pos 0)) (eq_tells delta.y (pos 0)) all

still_at : (deltas : List Pair) (k : ℕ) → list_all is_still deltas ≡ true → get_or deltas k still ≡ still
still_at [] k all = refl
still_at (delta ∷ deltas) zero all = still_pair delta (both_true (is_still delta) (list_all is_still deltas) all).0
still_at (delta ∷ deltas) (suc k) all = still_at deltas k (both_true (is_still delta) (list_all is_still deltas) all).1

-- no outline point does
still_point : (deltas : List Pair) (advance : ℤ) (k : ℕ) → list_all is_still (deltas ++ phantom_deltas advance) ≡ true → get_or deltas k still ≡ still
still_point [] advance k all = refl
still_point (delta ∷ deltas) advance zero all = still_pair delta (both_true (is_still delta) (list_all is_still (deltas ++ phantom_deltas advance)) all).0
still_point (delta ∷ deltas) advance (suc k) all = still_point deltas advance k (both_true (is_still delta) (list_all is_still (deltas ++ phantom_deltas advance)) all).1

-- nor the advance
phantom_at : (deltas : List Pair) (advance : ℤ) → get_or (deltas ++ phantom_deltas advance) (length deltas + 1) still ≡ record { x = advance; y = pos 0 }
phantom_at deltas advance = get_or-append-add deltas (phantom_deltas advance) 1 still

still_advance : (deltas : List Pair) (advance : ℤ) → list_all is_still (deltas ++ phantom_deltas advance) ≡ true → advance ≡ pos 0
still_advance deltas advance all =
    ap (λ (pair : Pair). pair.x) (sym (phantom_at deltas advance) ∙ still_at (deltas ++ phantom_deltas advance) (length deltas + 1) all)

-- ---- the deltas that fill the outline

-- those of the masters that move something
abbrev pub moving_fills : List (List Triple) → List GlyphTuple → List (List Pair)
moving_fills (region ∷ regions) (tuple ∷ tuples) = if is_still_tuple tuple then moving_fills regions tuples else tuple.deltas ∷ moving_fills regions tuples
moving_fills _ _ = []

-- a glyph with the deltas of a master
abbrev pub IsGlyphOf : List ℕ → List Pair → GlyphTuple → Type 0
IsGlyphOf lengths points tuple = IsGlyph lengths points (all_deltas tuple) × (length tuple.deltas ≡ length points)

one_filled : (lengths : List ℕ) (points : List Pair) (region : List Triple) (tuple : GlyphTuple) (own : TupleVariation) → IsGlyphOf lengths points tuple → IsVariation lengths points region (all_deltas tuple) own
    → FillsContours lengths points (named_delta own.points own.deltas) tuple.deltas
one_filled lengths points region tuple own glyph is =
    let outline : take (length points) (all_deltas tuple) ≡ tuple.deltas =
    ap (λ (n : ℕ). take n (all_deltas tuple)) (sym glyph.1) ∙ take-append_seam tuple.deltas (phantom_deltas tuple.advance) in
    let fills = explicit_fills lengths points (all_deltas tuple) own.points glyph.0 is.explicit in
    contours_respect lengths points (given_by own.points (all_deltas tuple)) (named_delta own.points own.deltas) tuple.deltas
    (λ k below. sym (variation_gives lengths points region (all_deltas tuple) own k is))
    (subst (FillsContours lengths points (given_by own.points (all_deltas tuple))) outline fills)

either_fills : (still_too : Bool) (lengths : List ℕ) (points : List Pair) (region : List Triple) (tuple : GlyphTuple) (found : List TupleVariation) (fills : List (List Pair)) (Later : List TupleVariation → Type 0)
    → IsGlyphOf lengths points tuple → ((more : List TupleVariation) → Later more → Fills lengths points more fills)
    → MatchBool still_too (Later found) ((own : TupleVariation) × (more : List TupleVariation) × IsVariation lengths points region (all_deltas tuple) own × (found ≡ own ∷ more) × Later more)
    → Fills lengths points found (if still_too then fills else tuple.deltas ∷ fills)
either_fills true lengths points region tuple found fills Later glyph later moving = later found moving
either_fills false lengths points region tuple found fills Later glyph later moving =
    subst (λ variations. Fills lengths points variations (tuple.deltas ∷ fills)) (sym moving.3)
    (one_filled lengths points region tuple moving.0 glyph moving.2, later moving.1 moving.4)

pub moving_filled : (lengths : List ℕ) (points : List Pair) (regions : List (List Triple)) (tuples : List GlyphTuple) (found : List TupleVariation) → All (IsGlyphOf lengths points) tuples → AreMoving lengths points regions tuples found
    → Fills lengths points found (moving_fills regions tuples)
moving_filled lengths points [] tuples found glyphs moving = subst (λ variations. Fills lengths points variations []) (sym moving) tt
moving_filled lengths points (region ∷ regions) [] found glyphs moving = subst (λ variations. Fills lengths points variations []) (sym moving) tt
moving_filled lengths points (region ∷ regions) (tuple ∷ tuples) found glyphs moving =
    either_fills (is_still_tuple tuple) lengths points region tuple found (moving_fills regions tuples) (AreMoving lengths points regions tuples)
    (All-head (IsGlyphOf lengths points) tuple tuples glyphs)
    (λ more later. moving_filled lengths points regions tuples more (All-tail (IsGlyphOf lengths points) tuple tuples glyphs) later)
    moving

-- ---- how far they move a point

-- a tuple that isn't there would add nothing
none_added : (scalar number sum : ℤ) → number ≡ pos 0 → sum ≡ (scalar *ℤ number) +ℤ sum
none_added scalar number sum none =
    let nothing : scalar *ℤ pos 0 ≡ pos 0 = omega (arith, ints) in
    sym (ap (λ z. (scalar *ℤ z) +ℤ sum) none ∙ (ap (λ z. z +ℤ sum) nothing ∙ omega (arith, ints)))

either_moves : (still_too : Bool) (part : Pair → ℤ) (at : List ℤ) (lengths : List ℕ) (points : List Pair) (region : List Triple) (tuple : GlyphTuple) (found : List TupleVariation) (fills : List (List Pair)) (Later : List TupleVariation → Type 0) (point : ℕ) (sum : ℤ)
    → (still_too ≡ true → part (get_or tuple.deltas point still) ≡ pos 0) → ((more : List TupleVariation) → Later more → movement part at more fills point ≡ sum)
    → MatchBool still_too (Later found) ((own : TupleVariation) × (more : List TupleVariation) × IsVariation lengths points region (all_deltas tuple) own × (found ≡ own ∷ more) × Later more)
    → movement part at found (if still_too then fills else tuple.deltas ∷ fills) point ≡ (scalar_of 16 region at *ℤ part (get_or tuple.deltas point still)) +ℤ sum
either_moves true part at lengths points region tuple found fills Later point sum none later moving =
    later found moving ∙ none_added (scalar_of 16 region at) (part (get_or tuple.deltas point still)) sum (none refl)
either_moves false part at lengths points region tuple found fills Later point sum none later moving =
    ap (λ variations. movement part at variations (tuple.deltas ∷ fills) point) moving.3
    ∙ (ap (λ own. (scalar_of 16 own at *ℤ part (get_or tuple.deltas point still)) +ℤ movement part at moving.1 fills point) moving.2.region_is
    ∙ ap (λ z. (scalar_of 16 region at *ℤ part (get_or tuple.deltas point still)) +ℤ z) (later moving.1 moving.4))

pub moving_moves : (part : Pair → ℤ) (lengths : List ℕ) (points : List Pair) (regions : List (List Triple)) (tuples : List GlyphTuple) (found : List TupleVariation) (at : List ℤ) (point : ℕ) → part still ≡ pos 0 → AreMoving lengths points regions tuples found
    → movement part at found (moving_fills regions tuples) point ≡ dot (scalars_at regions at) (map (λ (tuple : GlyphTuple). part (get_or tuple.deltas point still)) tuples)
moving_moves part lengths points [] tuples found at point none moving = ap (λ variations. movement part at variations [] point) moving
moving_moves part lengths points (region ∷ regions) [] found at point none moving = ap (λ variations. movement part at variations [] point) moving
moving_moves part lengths points (region ∷ regions) (tuple ∷ tuples) found at point none moving =
    either_moves (is_still_tuple tuple) part at lengths points region tuple found (moving_fills regions tuples) (AreMoving lengths points regions tuples) point
    (dot (scalars_at regions at) (map (λ (tuple : GlyphTuple). part (get_or tuple.deltas point still)) tuples))
    (λ all. ap part (still_point tuple.deltas tuple.advance point all) ∙ none)
    (λ more later. moving_moves part lengths points regions tuples more at point none later)
    moving

-- ---- how far they move the advance

advance_named : (lengths : List ℕ) (points : List Pair) (region : List Triple) (tuple : GlyphTuple) (own : TupleVariation) → IsGlyphOf lengths points tuple → IsVariation lengths points region (all_deltas tuple) own
    → (unwrap_or (named_delta own.points own.deltas (length points + 1)) still).x ≡ tuple.advance
advance_named lengths points region tuple own glyph is =
    let phantom = explicit_phantoms lengths points (all_deltas tuple) own.points (length points + 1) glyph.0 is.explicit (omega arith) (omega arith) in
    ap (λ delta. (unwrap_or delta still).x) (variation_gives lengths points region (all_deltas tuple) own (length points + 1) is)
    ∙ (ap (λ (pair : Pair). pair.x) phantom
    ∙ (ap (λ (n : ℕ). (get_or (all_deltas tuple) (n + 1) still).x) (sym glyph.1) ∙ ap (λ (pair : Pair). pair.x) (phantom_at tuple.deltas tuple.advance)))

either_phantom : (still_too : Bool) (at : List ℤ) (lengths : List ℕ) (points : List Pair) (region : List Triple) (tuple : GlyphTuple) (found : List TupleVariation) (Later : List TupleVariation → Type 0) (sum : ℤ)
    → IsGlyphOf lengths points tuple → (still_too ≡ true → tuple.advance ≡ pos 0) → ((more : List TupleVariation) → Later more → phantom_movement at more (length points + 1) ≡ sum)
    → MatchBool still_too (Later found) ((own : TupleVariation) × (more : List TupleVariation) × IsVariation lengths points region (all_deltas tuple) own × (found ≡ own ∷ more) × Later more)
    → phantom_movement at found (length points + 1) ≡ (scalar_of 16 region at *ℤ tuple.advance) +ℤ sum
either_phantom true at lengths points region tuple found Later sum glyph none later moving = later found moving ∙ none_added (scalar_of 16 region at) tuple.advance sum (none refl)
either_phantom false at lengths points region tuple found Later sum glyph none later moving =
    ap (λ variations. phantom_movement at variations (length points + 1)) moving.3
    ∙ (ap (λ own. (scalar_of 16 own at *ℤ (unwrap_or (named_delta moving.0.points moving.0.deltas (length points + 1)) still).x) +ℤ phantom_movement at moving.1 (length points + 1)) moving.2.region_is
    ∙ (ap (λ z. (scalar_of 16 region at *ℤ z) +ℤ phantom_movement at moving.1 (length points + 1)) (advance_named lengths points region tuple moving.0 glyph moving.2)
    ∙ ap (λ z. (scalar_of 16 region at *ℤ tuple.advance) +ℤ z) (later moving.1 moving.4)))

pub moving_advance : (lengths : List ℕ) (points : List Pair) (regions : List (List Triple)) (tuples : List GlyphTuple) (found : List TupleVariation) (at : List ℤ) → All (IsGlyphOf lengths points) tuples → AreMoving lengths points regions tuples found
    → phantom_movement at found (length points + 1) ≡ dot (scalars_at regions at) (map delta_advance tuples)
moving_advance lengths points [] tuples found at glyphs moving = ap (λ variations. phantom_movement at variations (length points + 1)) moving
moving_advance lengths points (region ∷ regions) [] found at glyphs moving = ap (λ variations. phantom_movement at variations (length points + 1)) moving
moving_advance lengths points (region ∷ regions) (tuple ∷ tuples) found at glyphs moving =
    either_phantom (is_still_tuple tuple) at lengths points region tuple found (AreMoving lengths points regions tuples)
    (dot (scalars_at regions at) (map delta_advance tuples))
    (All-head (IsGlyphOf lengths points) tuple tuples glyphs)
    (λ all. still_advance tuple.deltas tuple.advance all)
    (λ more later. moving_advance lengths points regions tuples more at (All-tail (IsGlyphOf lengths points) tuple tuples glyphs) later)
    moving

-- ---- there is one list of them

one_variation : (lengths : List ℕ) (points : List Pair) (region : List Triple) (deltas : List Pair) (own other : TupleVariation) → IsVariation lengths points region deltas own → IsVariation lengths points region deltas other → own ≡ other
one_variation lengths points region deltas own other is also =
    let named : own.points ≡ other.points = explicit_once lengths points deltas own.points other.points is.explicit also.explicit in
    let region_same : own.region ≡ other.region = is.region_is ∙ sym also.region_is in
    let deltas_same : own.deltas ≡ other.deltas = is.deltas_are ∙ (ap (picked deltas) named ∙ sym also.deltas_are) in
    λ i. record { region = region_same i; points = named i; deltas = deltas_same i }

either_once : (still_too : Bool) (lengths : List ℕ) (points : List Pair) (region : List Triple) (deltas : List Pair) (found other : List TupleVariation) (Later : List TupleVariation → Type 0)
    → ((more others : List TupleVariation) → Later more → Later others → more ≡ others)
    → MatchBool still_too (Later found) ((own : TupleVariation) × (more : List TupleVariation) × IsVariation lengths points region deltas own × (found ≡ own ∷ more) × Later more)
    → MatchBool still_too (Later other) ((own : TupleVariation) × (more : List TupleVariation) × IsVariation lengths points region deltas own × (other ≡ own ∷ more) × Later more)
    → found ≡ other
either_once true lengths points region deltas found other Later later one two = later found other one two
either_once false lengths points region deltas found other Later later one two =
    let first = one_variation lengths points region deltas one.0 two.0 one.2 two.2 in
    let rest = later one.1 two.1 one.4 two.4 in
    one.3 ∙ ((λ i. first i ∷ rest i) ∙ sym two.3)

pub moving_once : (lengths : List ℕ) (points : List Pair) (regions : List (List Triple)) (tuples : List GlyphTuple) (found other : List TupleVariation) → AreMoving lengths points regions tuples found → AreMoving lengths points regions tuples other → found ≡ other
moving_once lengths points [] tuples found other one two = one ∙ sym two
moving_once lengths points (region ∷ regions) [] found other one two = one ∙ sym two
moving_once lengths points (region ∷ regions) (tuple ∷ tuples) found other one two =
    either_once (is_still_tuple tuple) lengths points region (all_deltas tuple) found other (AreMoving lengths points regions tuples)
    (λ more others first second. moving_once lengths points regions tuples more others first second) one two

pub variations_law : VariationsOnce
variations_law lengths [] tuples found other one two = one ∙ sym two
variations_law lengths (region ∷ regions) [] found other one two = one ∙ sym two
variations_law lengths (region ∷ regions) (default ∷ tuples) found other one two = moving_once lengths default.deltas regions tuples found other one two
