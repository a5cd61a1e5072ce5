-- The loop over the masters after the default.
use Rattle.std.proofs.Common.{◌≡◌, ℕ, ◌+◌, ◌<◌, ◌≤◌, min, Bool, true, false, zero, suc, List, [], ◌∷◌, ◌++◌, length, drop, get_or, All, refl, sym, ◌∙◌, ap, subst, arith}
use Rattle.std.proofs.lemmas.Int.{ints}
use Rattle.std.proofs.lemmas.List.{append-nil, append_assoc, drop_more, get_or-map, length-drop, length-map}
use Rattle.std.proofs.lemmas.List.Elements.{All-cons, All-from_recursion, All-head, All-nil, All-tail, All-weaker}
use Rattle.std.specs.Bool.{MatchBool}
use Rattle.std.specs.List.{AllByRecursion, list_all}
use Rattle.arrayvec.specs.ArrayVec.{ArrayVec, array_vec_len}
use Rattle.fixpoint.specs.declared.plane.Pair.{Pair}
use Rattle.gvar_table.specs.Tuples.{ArePointDeltas, IsDelta, IsRegionAxis, IsTupleOf, variation_of}
use Rattle.gvar_table.specs.declared.tuple.Tuple.{Tuple}
use Rattle.region_support.specs.Coordinates.{regions_in}
use Rattle.region_support.specs.Regions.{IsNoneIfIgnored, IsNormalisedTriple}
use Rattle.variation_rules.specs.FontUnits.{AreFWords}
use Rattle.variation_rules.specs.InferredDelta.{still}
use Rattle.variation_rules.specs.PackedPoints.{RisesWithin}
use Rattle.variation_rules.specs.declared.region.Triple.{Triple}
use Rattle.variation_rules.specs.declared.tuple.TupleVariation.{TupleVariation}
use Rattle.variation_rules.proofs.FontUnitLemmas.{fits_from_fword}
use Rattle.explicit_points.specs.ExplicitPoints.{is_still}
use Rattle.explicit_points.proofs.LawLemmas.{explicit_none, explicit_rise}
use Rattle.delta_solve.specs.declared.model.GlyphTuple.{GlyphTuple}
use Rattle.glyph_variations.specs.Conditions.{AreWritable, default_points}
use Rattle.glyph_variations.specs.Variations.{AreMoving, AreVariations, IsVariation, all_deltas, explicit_in, explicit_points, is_still_tuple, picked}
use Rattle.glyph_variations.proofs.MovingLemmas.{IsGlyphOf}

-- ---- what is left of the masters

-- begins with this one
moving_next : (lengths : List ℕ) (points : List Pair) (supports : List (ArrayVec Triple)) (masters : List GlyphTuple) (k : ℕ) (support : ArrayVec Triple) (master : GlyphTuple) (found : List TupleVariation) → k < length supports → k < length masters → support ≡ get_or supports k support → master ≡ get_or masters k master
    → AreMoving lengths points (support.items ∷ regions_in (drop (k + 1) supports)) (master ∷ drop (k + 1) masters) found → AreMoving lengths points (regions_in (drop k supports)) (drop k masters) found
moving_next lengths points supports masters k support master found inside also support_is master_is moving =
    let next : drop k supports ≡ support ∷ drop (k + 1) supports = rw (drop_more supports k support inside, ← support_is) in
    let next_master : drop k masters ≡ master ∷ drop (k + 1) masters = rw (drop_more masters k master also, ← master_is) in
    subst (λ (rest : List (ArrayVec Triple)). AreMoving lengths points (regions_in rest) (drop k masters) found) (sym next)
    (subst (λ (rest : List GlyphTuple). AreMoving lengths points (support.items ∷ regions_in (drop (k + 1) supports)) rest found) (sym next_master) moving)

-- the variations of the masters that are left complete those found
abbrev pub IsSoFar : List ℕ → List (ArrayVec Triple) → List GlyphTuple → ℕ → List TupleVariation → Type 0
IsSoFar lengths supports masters master found =
    (more : List TupleVariation) → AreMoving lengths (default_points masters) (regions_in (drop master supports)) (drop master masters) more
    → AreVariations lengths (regions_in supports) masters (found ++ more)

-- a master that moves nothing has no tuple
pub passed_over : (lengths : List ℕ) (supports : List (ArrayVec Triple)) (masters : List GlyphTuple) (k : ℕ) (support : ArrayVec Triple) (master : GlyphTuple) (found : List TupleVariation) → k < length supports → k < length masters → support ≡ get_or supports k support → master ≡ get_or masters k master → is_still_tuple master ≡ true
    → IsSoFar lengths supports masters k found → IsSoFar lengths supports masters (k + 1) found
passed_over lengths supports masters k support master found inside also support_is master_is still_is so_far more later =
    let points = default_points masters in
    let Later = AreMoving lengths points (regions_in (drop (k + 1) supports)) (drop (k + 1) masters) in
    let Own = (own : TupleVariation) × (others : List TupleVariation) × IsVariation lengths points support.items (all_deltas master) own × (more ≡ own ∷ others) × Later others in
    so_far more (moving_next lengths points supports masters k support master more inside also support_is master_is (subst (λ (b : Bool). MatchBool b (Later more) Own) (sym still_is) later))

-- any other has its own
pub one_found : (lengths : List ℕ) (supports : List (ArrayVec Triple)) (masters : List GlyphTuple) (k : ℕ) (support : ArrayVec Triple) (master : GlyphTuple) (own : TupleVariation) (found : List TupleVariation) → k < length supports → k < length masters → support ≡ get_or supports k support → master ≡ get_or masters k master → is_still_tuple master ≡ false
    → IsVariation lengths (default_points masters) support.items (all_deltas master) own
    → IsSoFar lengths supports masters k found → IsSoFar lengths supports masters (k + 1) (found ++ own ∷ [])
one_found lengths supports masters k support master own found inside also support_is master_is moves own_is so_far more later =
    let points = default_points masters in
    let Later = AreMoving lengths points (regions_in (drop (k + 1) supports)) (drop (k + 1) masters) in
    let Own = (first : TupleVariation) × (others : List TupleVariation) × IsVariation lengths points support.items (all_deltas master) first × (own ∷ more ≡ first ∷ others) × Later others in
    let here = moving_next lengths points supports masters k support master (own ∷ more) inside also support_is master_is (subst (λ (b : Bool). MatchBool b (Later (own ∷ more)) Own) (sym moves) (own, more, own_is, refl, later)) in
    subst (AreVariations lengths (regions_in supports) masters) (sym (append_assoc found (own ∷ []) more)) (so_far (own ∷ more) here)

-- with the default after, none is found
no_masters : (lengths : List ℕ) (points : List Pair) (regions : List (List Triple)) (found : List TupleVariation) → AreMoving lengths points regions [] found → found ≡ []
no_masters lengths points [] found moving = moving
no_masters lengths points (region ∷ regions) found moving = moving

pub none_so_far : (lengths : List ℕ) (supports : List (ArrayVec Triple)) (masters : List GlyphTuple) → IsSoFar lengths supports masters 1 []
none_so_far lengths [] masters more moving = moving
none_so_far lengths (support ∷ supports) [] more moving = no_masters lengths [] (regions_in supports) more moving
none_so_far lengths (support ∷ supports) (default ∷ masters) more moving = moving

-- at the end all are found
none_moving : (lengths : List ℕ) (points : List Pair) (regions : List (List Triple)) (masters : List GlyphTuple) → min (length regions) (length masters) ≤ 0 → AreMoving lengths points regions masters []
none_moving lengths points [] masters ended = refl
none_moving lengths points (region ∷ regions) [] ended = refl
none_moving lengths points (region ∷ regions) (master ∷ masters) ended = absurd (omega arith)

pub all_found : (lengths : List ℕ) (supports : List (ArrayVec Triple)) (masters : List GlyphTuple) (k : ℕ) (found : List TupleVariation) → min (length masters) (length supports) ≤ k → IsSoFar lengths supports masters k found → AreVariations lengths (regions_in supports) masters found
all_found lengths supports masters k found ended so_far =
    let none = none_moving lengths (default_points masters) (regions_in (drop k supports)) (drop k masters)
    (omega (arith, length-map (drop k supports) (λ (s : ArrayVec Triple). s.items), length-drop k supports, length-drop k masters)) in
    subst (AreVariations lengths (regions_in supports) masters) (append-nil found) (so_far [] none)

-- ---- the count of explicit points

pub explicit_more : (outline : ℕ) (tuples : List TupleVariation) (tuple : TupleVariation) → explicit_points outline (tuples ++ tuple ∷ []) ≡ explicit_points outline tuples + explicit_in outline tuple.points
explicit_more outline [] tuple = omega arith
explicit_more outline (first ∷ tuples) tuple = let rest = explicit_more outline tuples tuple in omega arith

-- ---- the tuples can be written

-- rising points are no more than there are numbers
rises_few : (low end : ℕ) (points : List ℕ) → low ≤ end → RisesWithin low end points → low + length points ≤ end
rises_few low end [] within rises = omega arith
rises_few low end (point ∷ points) within rises =
    let rest = rises_few (point + 1) end points (omega (arith, rises.1)) rises.2 in omega (arith, rises.0)

-- all still
all_still : (deltas : List Pair) → All (λ delta. delta ≡ still) deltas → list_all is_still deltas ≡ true
all_still [] all = refl
all_still (delta ∷ deltas) all =
    rw (All-head (λ (delta : Pair). delta ≡ still) delta deltas all) (all_still deltas (All-tail (λ (delta : Pair). delta ≡ still) delta deltas all))

some_there : (points : List ℕ) → (points ≡ [] → ⊥) → 0 < length points
some_there [] there = absurd (there refl)
some_there (point ∷ points) there = omega arith

-- where something moves, points are named
some_named : (lengths : List ℕ) (points : List Pair) (region : List Triple) (master : GlyphTuple) (own : TupleVariation) → IsGlyphOf lengths points master → IsVariation lengths points region (all_deltas master) own → is_still_tuple master ≡ false → 0 < length own.points
some_named lengths points region master own glyph is moves =
    some_there own.points
    (λ none. absurd (let all = all_still (all_deltas master) ((explicit_none lengths points (all_deltas master) own.points glyph.0 is.explicit).0 none) in cc))

-- and they rise
named_rise : (lengths : List ℕ) (points : List Pair) (region : List Triple) (master : GlyphTuple) (own : TupleVariation) → IsGlyphOf lengths points master → IsVariation lengths points region (all_deltas master) own → RisesWithin 0 (length points + 4) own.points
named_rise lengths points region master own glyph is =
    subst (λ (count : ℕ). RisesWithin 0 count own.points) glyph.0.phantom_points (explicit_rise lengths points (all_deltas master) own.points glyph.0 is.explicit)

pub points_named : (lengths : List ℕ) (points : List Pair) (region : List Triple) (master : GlyphTuple) (own : TupleVariation) → IsGlyphOf lengths points master → IsVariation lengths points region (all_deltas master) own → length own.points ≤ length points + 4
points_named lengths points region master own glyph is =
    omega (arith, rises_few 0 (length points + 4) own.points (omega arith) (named_rise lengths points region master own glyph is))

-- deltas of 16 bits
still_fits : IsDelta still
still_fits = record { x = omega (arith, ints); y = omega (arith, ints) }

delta_fits : (deltas : List Pair) (k : ℕ) → All IsDelta deltas → IsDelta (get_or deltas k still)
delta_fits [] k all = still_fits
delta_fits (delta ∷ deltas) zero all = All-head IsDelta delta deltas all
delta_fits (delta ∷ deltas) (suc k) all = delta_fits deltas k (All-tail IsDelta delta deltas all)

picked_fit : (deltas : List Pair) (points : List ℕ) → All IsDelta deltas → All IsDelta (picked deltas points)
picked_fit deltas [] all = All-nil IsDelta
picked_fit deltas (point ∷ points) all = All-cons IsDelta (get_or deltas point still) (picked deltas points) (delta_fits deltas point all) (picked_fit deltas points all)

deltas_fit : (deltas : List Pair) → All AreFWords deltas → All IsDelta deltas
deltas_fit deltas words = All-weaker AreFWords IsDelta (λ delta words. record { x = fits_from_fword delta.x words.x; y = fits_from_fword delta.y words.y }) deltas words

-- the region of a master
region_axis : (triple : Triple) → IsNormalisedTriple triple → IsNoneIfIgnored triple → IsRegionAxis triple
region_axis triple normal none = record {
  start = record { low = normal.0.0; high = normal.0.1 };
  peak = record { low = normal.1.0; high = normal.1.1 };
  end = record { low = normal.2.0; high = normal.2.1 };
  ignored = none;
}

each_of : (P : List Triple → Type 0) (supports : List (ArrayVec Triple)) (k : ℕ) (support : ArrayVec Triple) → AllByRecursion P (regions_in supports) → k < length supports → support ≡ get_or supports k support → P support.items
each_of P supports k support all inside is =
    let here = All-from_recursion P (regions_in supports) all k [] (omega (arith, length-map supports (λ (s : ArrayVec Triple). s.items))) in
    subst P (get_or-map (λ (s : ArrayVec Triple). s.items) supports k support [] inside ∙ ap (λ (s : ArrayVec Triple). s.items) (sym is)) here

region_of : (axes : ℕ) (supports : List (ArrayVec Triple)) (k : ℕ) (support : ArrayVec Triple) → AreWritable axes supports → k < length supports → support ≡ get_or supports k support → All IsRegionAxis support.items
region_of axes supports k support writable inside is =
    let normal = All-from_recursion IsNormalisedTriple support.items (each_of (AllByRecursion IsNormalisedTriple) supports k support writable.normalised inside is) in
    let none = All-from_recursion IsNoneIfIgnored support.items (each_of (AllByRecursion IsNoneIfIgnored) supports k support writable.none_if_ignored inside is) in
    λ i d below. region_axis (get_or support.items i d) (normal i d below) (none i d below)

-- the explicit points of the master's tuple, and their deltas
explicit_deltas : (lengths : List ℕ) (points : List Pair) (region : List Triple) (master : GlyphTuple) (own : TupleVariation) → IsGlyphOf lengths points master → IsVariation lengths points region (all_deltas master) own → is_still_tuple master ≡ false → ArePointDeltas (length points + 4) own.points own.deltas
explicit_deltas lengths points region master own glyph is moves = record {
  some = some_named lengths points region master own glyph is moves;
  rise = named_rise lengths points region master own glyph is;
  one_each = ap length is.deltas_are ∙ length-map own.points (λ point. get_or (all_deltas master) point still);
  words = subst (All IsDelta) (sym is.deltas_are) (picked_fit (all_deltas master) own.points (deltas_fit (all_deltas master) glyph.0.deltas_fit));
}

pub can_be_written : (axes : ℕ) (lengths : List ℕ) (points : List Pair) (supports : List (ArrayVec Triple)) (k : ℕ) (support : ArrayVec Triple) (master : GlyphTuple) (tuple : Tuple) → AreWritable axes supports → k < length supports → support ≡ get_or supports k support
    → IsGlyphOf lengths points master → IsVariation lengths points support.items (all_deltas master) (variation_of tuple) → is_still_tuple master ≡ false → IsTupleOf axes (length points + 4) tuple
can_be_written axes lengths points supports k support master tuple writable inside is glyph own moves =
    let length_is : array_vec_len (get_or supports k support) ≡ axes = writable.axis_each k support inside in record {
      axis_each = ap length own.region_is ∙ (ap (λ (s : ArrayVec Triple). length s.items) is ∙ length_is);
      region = subst (All IsRegionAxis) (sym own.region_is) (region_of axes supports k support writable inside is);
      moves = explicit_deltas lengths points support.items master (variation_of tuple) glyph own moves;
    }
