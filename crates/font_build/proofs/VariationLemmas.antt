-- The tuples of glyphs: how many they are, and their table.
use Rattle.std.proofs.Common.{◌≡◌, ℕ, suc, ◌+◌, ◌*◌, ◌<◌, ◌≤◌, Bool, true, false, cond, MatchBool, List, [], ◌∷◌, ◌++◌, All, length, get_or, map, take, nat_lt, sum_by, refl, sym, ap, subst, ◌∙◌, arith}
use Rattle.std.proofs.lemmas.Bool.{le-ltb, ltb-false, ltb-true}
use Rattle.std.proofs.Math.Nat.{mul-le-mul_left}
use Rattle.std.proofs.lemmas.List.{length-map, map_push}
use Rattle.std.proofs.lemmas.List.Elements.{All-head, All-tail}
use Rattle.std.proofs.lemmas.List.Sums.{sum_by-append, sum_by-cons, sum_by_more_le}
use Rattle.std.specs.Prelude.{slice_index}
use Rattle.std.specs.List.{AllZip}
use Rattle.delta_solve.specs.declared.model.GlyphModel.{GlyphModel}
use Rattle.delta_solve.specs.declared.model.GlyphTuple.{GlyphTuple}
use Rattle.fixpoint.specs.declared.plane.Pair.{Pair}
use Rattle.font_build.proofs.ListLemmas.{get_is, get_map, get_within, partner, taken, zip_first, zip_length, zip_push, zip_second}
use Rattle.font_build.specs.Counts.{AreOf, total}
use Rattle.font_build.specs.TableSteps.{AreFound, AreOfModel, AreTotals, IsVaried, all_points, variations_of}
use Rattle.font_model.specs.Fit.{points_in}
use Rattle.glyph_variations.specs.Conditions.{point_count}
use Rattle.glyph_variations.specs.Variations.{AreMoving, AreVariations, IsVariation, all_deltas, explicit_in, explicit_points, is_still_tuple, outline_points}
use Rattle.gvar_table.specs.Table.{AreGlyphsOf, points_in_tuples}
use Rattle.gvar_table.specs.Tuples.{AreTuplesOf, IsTupleOf, variation_of}
use Rattle.gvar_table.specs.declared.tuple.Tuple.{Tuple}
use Rattle.variation_rules.specs.PackedPoints.{RisesWithin}
use Rattle.variation_rules.specs.TupleVariations.{MeansTuples, PacksTuples}
use Rattle.variation_rules.specs.VariationsTable.{IsVariationsTable, glyph_slice}
use Rattle.variation_rules.specs.declared.region.Triple.{Triple}
use Rattle.variation_rules.specs.declared.tuple.TupleVariation.{TupleVariation}

-- ---- a tuple at most for each master

either_few : (still : Bool) (lengths : List ℕ) (points : List Pair) (region : List Triple) (deltas : List Pair) (found : List TupleVariation) (Later : List TupleVariation → Type 0) (n : ℕ)
    → ((more : List TupleVariation) → Later more → length more ≤ n)
    → MatchBool still (Later found) ((own : TupleVariation) × (more : List TupleVariation) × IsVariation lengths points region deltas own × (found ≡ own ∷ more) × Later more)
    → length found ≤ suc n
either_few true lengths points region deltas found Later n later moving = let more = later found moving in omega arith
either_few false lengths points region deltas found Later n later moving = let more = later moving.1 moving.4 in omega (arith, ap length moving.3)

few_moving : (lengths : List ℕ) (points : List Pair) (regions : List (List Triple)) (tuples : List GlyphTuple) (found : List TupleVariation) → AreMoving lengths points regions tuples found → length found ≤ length tuples
few_moving lengths points [] tuples found are = omega (arith, ap length are)
few_moving lengths points (region ∷ regions) [] found are = omega (arith, ap length are)
few_moving lengths points (region ∷ regions) (tuple ∷ tuples) found are =
    either_few (is_still_tuple tuple) lengths points region (all_deltas tuple) found (AreMoving lengths points regions tuples) (length tuples)
    (λ more later. few_moving lengths points regions tuples more later) are

pub few_found : (lengths : List ℕ) (regions : List (List Triple)) (tuples : List GlyphTuple) (found : List TupleVariation) → AreVariations lengths regions tuples found → length found ≤ length tuples
few_found lengths [] tuples found are = omega (arith, ap length are)
few_found lengths (region ∷ regions) [] found are = omega (arith, ap length are)
few_found lengths (region ∷ regions) (default ∷ tuples) found are = let more = few_moving lengths default.deltas regions tuples found are in omega arith

-- ---- a point at most once

none_named : (n low end : ℕ) (points : List ℕ) → n ≤ low → RisesWithin low end points → explicit_in n points ≡ 0
none_named n low end [] above rise = refl
none_named n low end (point ∷ points) above rise =
    let later = none_named n (point + 1) end points (omega (arith, rise.0)) rise.2 in
    let here : nat_lt point n ≡ false = le-ltb point n (omega (arith, rise.0)) in
    sum_by-cons (λ p. cond (nat_lt p n) 1 0) point points ∙ ap (λ b. cond b 1 0 + explicit_in n points) here ∙ ap (λ k. 0 + k) later

either_named : (before : Bool) (n low point count whole : ℕ) → (before ≡ true → point < n) → (before ≡ false → count ≡ 0) → (before ≡ true → count + (point + 1) ≤ n) → low ≤ point → low ≤ n → whole ≡ cond before 1 0 + count → whole + low ≤ n
either_named true n low point count whole below none more above low_too is = let room = more refl in omega arith
either_named false n low point count whole below none more above low_too is = let no = none refl in omega arith

few_named : (n low end : ℕ) (points : List ℕ) → low ≤ n → RisesWithin low end points → explicit_in n points + low ≤ n
few_named n low end [] low_too rise = omega arith
few_named n low end (point ∷ points) low_too rise =
    either_named (nat_lt point n) n low point (explicit_in n points) (explicit_in n (point ∷ points)) (ltb-true point n)
    (λ past. none_named n (point + 1) end points (omega (arith, ltb-false point n past)) rise.2)
    (λ below. few_named n (point + 1) end points (omega (arith, ltb-true point n below)) rise.2)
    rise.0 low_too (sum_by-cons (λ p. cond (nat_lt p n) 1 0) point points)

pub few_explicit : (axes n : ℕ) (tuples : List Tuple) → All (IsTupleOf axes (n + 4)) tuples → explicit_points n (map variation_of tuples) ≤ n * length tuples
few_explicit axes n [] each = omega arith
few_explicit axes n (tuple ∷ tuples) each =
    let more = few_explicit axes n tuples (All-tail (IsTupleOf axes (n + 4)) tuple tuples each) in
    let own = All-head (IsTupleOf axes (n + 4)) tuple tuples each in
    let here = few_named n 0 (n + 4) tuple.points (omega arith) own.moves.rise in
    let product : n * suc (length tuples) ≡ n + n * length tuples = omega arith in
    omega arith

-- ---- one glyph more

pub total_push : (count : GlyphModel → List TupleVariation → ℕ) (models : List GlyphModel) (glyphs : List (List TupleVariation)) (model : GlyphModel) (own : List TupleVariation) → length models ≡ length glyphs
    → total count (models ++ model ∷ []) (glyphs ++ own ∷ []) ≡ total count models glyphs + count model own
total_push count [] [] model own same = omega arith
total_push count [] (g ∷ glyphs) model own same = absurd (omega arith)
total_push count (m ∷ models) [] model own same = absurd (omega arith)
total_push count (m ∷ models) (g ∷ glyphs) model own same = let more = total_push count models glyphs model own (omega arith) in omega arith

-- three totals, each with what the glyph adds
totals_push : (models : List GlyphModel) (glyphs : List (List TupleVariation)) (model : GlyphModel) (own : List TupleVariation) (tuples explicit points : ℕ) → length models ≡ length glyphs → AreTotals models glyphs tuples explicit points
    → AreTotals (models ++ model ∷ []) (glyphs ++ own ∷ []) (tuples + length own) (explicit + explicit_points (point_count model.tuples) own) (points + outline_points (point_count model.tuples) own)
totals_push models glyphs model own tuples explicit points same totals = record {
  tuples_are = ap (λ n. n + length own) totals.tuples_are ∙ sym (total_push (λ m o. length o) models glyphs model own same);
  explicit_are = ap (λ n. n + explicit_points (point_count model.tuples) own) totals.explicit_are ∙ sym (total_push (λ m o. explicit_points (point_count m.tuples) o) models glyphs model own same);
  points_are = ap (λ n. n + outline_points (point_count model.tuples) own) totals.points_are ∙ sym (total_push (λ m o. outline_points (point_count m.tuples) o) models glyphs model own same);
}

pub one_more : (axes : ℕ) (regions : List (List Triple)) (models : List GlyphModel) (i : ℕ) (model : GlyphModel) (old new : List (List Tuple)) (own : List Tuple) (tuples explicit points all_tuples all_explicit all_points_named : ℕ) → i < length models → model ≡ get_or models i model → new ≡ old ++ own ∷ []
    → all_tuples ≡ tuples + length own → all_explicit ≡ explicit + explicit_points (point_count model.tuples) (map variation_of own) → all_points_named ≡ points + outline_points (point_count model.tuples) (map variation_of own)
    → AreOfModel axes regions model own → AreFound axes regions (take i models) old tuples explicit points → AreFound axes regions (take (i + 1) models) new all_tuples all_explicit all_points_named
one_more axes regions models i model old new own tuples explicit points all_tuples all_explicit all_points_named here is push tuples_is explicit_is points_is holds found =
    let before = take i models in
    let same : length before ≡ length (variations_of old) = zip_length (AreOfModel axes regions) before old found.each ∙ sym (length-map old (λ (t : List Tuple). map variation_of t)) in
    let totals = totals_push before (variations_of old) model (map variation_of own) tuples explicit points same found.totals in
    let pushed : AreFound axes regions (before ++ model ∷ []) (old ++ own ∷ []) all_tuples all_explicit all_points_named = record {
      each = zip_push (AreOfModel axes regions) before old model own found.each holds;
      totals = record {
        tuples_are = tuples_is ∙ ap (λ n. tuples + n) (sym (length-map own variation_of)) ∙ totals.tuples_are ∙ ap (total (λ m o. length o) (before ++ model ∷ [])) (sym (map_push (λ (t : List Tuple). map variation_of t) old own));
        explicit_are = explicit_is ∙ totals.explicit_are ∙ ap (total (λ m o. explicit_points (point_count m.tuples) o) (before ++ model ∷ [])) (sym (map_push (λ (t : List Tuple). map variation_of t) old own));
        points_are = points_is ∙ totals.points_are ∙ ap (total (λ m o. outline_points (point_count m.tuples) o) (before ++ model ∷ [])) (sym (map_push (λ (t : List Tuple). map variation_of t) old own));
      };
    } in
    subst (λ ms. AreFound axes regions ms new all_tuples all_explicit all_points_named) (sym (taken models i model here is))
    (subst (λ g. AreFound axes regions (before ++ model ∷ []) g all_tuples all_explicit all_points_named) (sym push) pushed)

-- ---- how much one glyph adds

pub record AddsFew (model : GlyphModel) (own : List Tuple) : Type 0 where
  pub tuples : length own ≤ points_in model
  pub explicit : explicit_points (point_count model.tuples) (map variation_of own) ≤ points_in model
  pub points : outline_points (point_count model.tuples) (map variation_of own) ≤ points_in model
  pub whole : all_points model * length own ≤ points_in model

products : (n own masters : ℕ) → own ≤ masters → (own ≤ (n + 4) * masters) × (n * own ≤ (n + 4) * masters) × ((n + 4) * own ≤ (n + 4) * masters)
products n own masters few =
    let all = mul-le-mul_left (n + 4) few in
    let first : (n + 4) * own ≡ n * own + 4 * own = omega arith in
    (omega arith, omega arith, all)

pub adds_few : (axes : ℕ) (regions : List (List Triple)) (model : GlyphModel) (own : List Tuple) → AreOfModel axes regions model own → AddsFew model own
adds_few axes regions model own holds =
    let n = point_count model.tuples in
    let count : length (map variation_of own) ≡ length own = length-map own variation_of in
    let few : length own ≤ length model.tuples = omega (arith, few_found model.lengths regions model.tuples (map variation_of own) holds.are, count) in
    let most = products n (length own) (length model.tuples) few in
    let named = few_explicit axes n own holds.fit.each in
    record {
      tuples = most.0;
      explicit = omega (arith, named, most.1);
      points = subst (λ k. n * k ≤ points_in model) (sym count) most.1;
      whole = most.2;
    }

-- ---- the table

few_points : (axes : ℕ) (regions : List (List Triple)) (models : List GlyphModel) (glyphs : List (List Tuple)) → AllZip (AreOfModel axes regions) models glyphs → points_in_tuples (map all_points models) glyphs ≤ sum_by points_in models
few_points axes regions [] [] each = omega arith
few_points axes regions [] (g ∷ glyphs) each = absurd each
few_points axes regions (m ∷ models) [] each = absurd each
few_points axes regions (m ∷ models) (g ∷ glyphs) each =
    let more = few_points axes regions models glyphs each.1 in
    let here = adds_few axes regions m g each.0 in
    omega (arith, sum_by-cons points_in m models, here.whole)

pub are_glyphs : (axes : ℕ) (regions : List (List Triple)) (models : List GlyphModel) (glyphs : List (List Tuple)) → 0 < axes → axes ≤ 8 → length models ≤ 32510 → sum_by points_in models ≤ 16777216 → AllZip (AreOfModel axes regions) models glyphs → AreGlyphsOf axes (map all_points models) glyphs
are_glyphs axes regions models glyphs some few_axes few small each = record {
  some_axes = some;
  few_axes = few_axes;
  few = omega (arith, zip_length (AreOfModel axes regions) models glyphs each);
  each = zip_first (AreOfModel axes regions) (AreTuplesOf axes) all_points (λ m g own. own.fit) models glyphs each;
  small = omega (arith, few_points axes regions models glyphs each);
}

-- what the table means of each glyph
pub is_varied : (axes : ℕ) (regions : List (List Triple)) (models : List GlyphModel) (glyphs : List (List Tuple)) (gvar : List ℕ) (tuples explicit points : ℕ) → AreFound axes regions models glyphs tuples explicit points
    → IsVariationsTable axes (length glyphs) [] gvar
    → ((glyph : ℕ) → glyph < length glyphs → MeansTuples axes (slice_index (map all_points models) glyph) [] (glyph_slice gvar glyph) (map variation_of (get_or glyphs glyph [])))
    → ((glyph : ℕ) → glyph < length glyphs → PacksTuples axes (slice_index (map all_points models) glyph) [] (glyph_slice gvar glyph) (map variation_of (get_or glyphs glyph [])))
    → IsVaried axes regions models gvar tuples explicit points
is_varied axes regions models glyphs gvar tuples explicit points found table means packs =
    let same = zip_length (AreOfModel axes regions) models glyphs found.each in
    record {
      glyphs = variations_of glyphs;
      are = zip_second (AreOfModel axes regions) (AreOf regions) (λ (t : List Tuple). map variation_of t) (λ m g own. own.are) models glyphs found.each;
      totals = found.totals;
      means = λ glyph model own there own_there.
          let below = get_within models glyph model there in
          let inside : glyph < length glyphs = omega arith in
          let count : slice_index (map all_points models) glyph ≡ all_points model = get_is (map all_points models) glyph (all_points model) 0 (get_map all_points models glyph model there) in
          let pair = partner (AreOfModel axes regions) models glyphs glyph model found.each there in
          let mapped = get_map (λ (t : List Tuple). map variation_of t) glyphs glyph pair.0 pair.1 in
          let is : map variation_of (get_or glyphs glyph []) ≡ own =
          ap (map variation_of) (get_is glyphs glyph pair.0 [] pair.1) ∙ cc (mapped, own_there) in
          record {
            table = subst (λ n. IsVariationsTable axes n [] gvar) (sym same) table;
            means = subst (λ n. MeansTuples axes n [] (glyph_slice gvar glyph) own) count (subst (λ o. MeansTuples axes (slice_index (map all_points models) glyph) [] (glyph_slice gvar glyph) o) is (means glyph inside));
            packs = subst (λ n. PacksTuples axes n [] (glyph_slice gvar glyph) own) count (subst (λ o. PacksTuples axes (slice_index (map all_points models) glyph) [] (glyph_slice gvar glyph) o) is (packs glyph inside));
          };
    }

-- ---- the limit of all points

pub sum_taken : (models : List GlyphModel) (i : ℕ) (model : GlyphModel) → i < length models → model ≡ get_or models i model → sum_by points_in (take (i + 1) models) ≡ sum_by points_in (take i models) + points_in model
sum_taken models i model here is =
    let last = sum_by-cons points_in model [] in
    let both = sum_by-append points_in (take i models) (model ∷ []) in
    ap (sum_by points_in) (taken models i model here is) ∙ omega arith

pub within_limit : (models : List GlyphModel) (i : ℕ) (model : GlyphModel) → i < length models → model ≡ get_or models i model → sum_by points_in models ≤ 16777216 → sum_by points_in (take i models) + points_in model ≤ 16777216
within_limit models i model here is small = omega (arith, sum_by_more_le points_in models i model here, ap points_in is)
