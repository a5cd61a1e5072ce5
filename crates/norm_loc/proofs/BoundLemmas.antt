-- What pairs lead to stays small.
use Rattle.std.proofs.Common.{◌≡◌, ℤ, pos, negsuc, neg_ℤ, ◌-ℤ◌, ◌*ℤ◌, ◌≤ℤ◌, ◌<ℤ◌, Bool, true, false, List, [], ◌∷◌, refl, FitsSigned, arith}
use Rattle.std.proofs.lemmas.Int.{ints}
use Rattle.std.specs.Int.{w32}
use Rattle.std.specs.Prelude.{int_lt, if◌then◌else◌}
use Rattle.std.specs.Int.RustNames.{unsigned_abs}
use Rattle.fixpoint.specs.Rounding.{round_up}
use Rattle.norm_loc.specs.declared.follow.Direction.TheVariants.{Forward}
use Rattle.norm_loc.specs.AvarPairs.{avar_pairs, fixed_pairs, is_on_axis, pair_of, with_node, with_nodes, with_pair}
use Rattle.norm_loc.specs.AxisMaps.{Mapping, design_of}
use Rattle.norm_loc.specs.Following.{between, followed, followed_after, moved}
use Rattle.norm_loc.specs.Normalising.{AreRising, Limits, brought, normalised, normalised_within, share}
use Rattle.norm_loc.specs.PairBounds.{IsCoordinate, IsPair}
use Rattle.norm_loc.proofs.Choices.{le_of, lt_of}
use Rattle.norm_loc.proofs.MapLemmas.{brought_within}
use Rattle.norm_loc.proofs.RoundingBounds.{part_falls, part_grows, share_bounds}

share_coordinate : (n d : ℤ) → neg_ℤ d ≤ℤ n → n ≤ℤ d → IsCoordinate (share n d)
unfolding share
share_coordinate n d low high = by (int_lt (pos 0) d) refl
  where
    by : (b : Bool) → int_lt (pos 0) d ≡ b → IsCoordinate (if b then round_up (pos 16384 *ℤ n) (unsigned_abs d) else pos 0)
    by true e = let bounds = share_bounds n d (lt_of (pos 0) d e) low high in record { low = bounds.0; high = bounds.1 }
    by false e = record { low = omega (arith, ints); high = omega (arith, ints) }

within_coordinate : (s : Limits) (v : ℤ) → s.min ≤ℤ v → v ≤ℤ s.max → IsCoordinate (normalised_within s v)
unfolding normalised_within
within_coordinate s v low high = by (int_lt v s.default) refl
  where
    by : (b : Bool) → int_lt v s.default ≡ b → IsCoordinate (if b then share (v -ℤ s.default) (s.default -ℤ s.min) else share (v -ℤ s.default) (s.max -ℤ s.default))
    by true e = share_coordinate (v -ℤ s.default) (s.default -ℤ s.min) (omega (arith, ints)) (omega (arith, ints))
    by false e = share_coordinate (v -ℤ s.default) (s.max -ℤ s.default) (omega (arith, ints)) (omega (arith, ints))

pub normalised_coordinate : (s : Limits) → AreRising s → (v : ℤ) → IsCoordinate (normalised s v)
normalised_coordinate s rise v =
    let within = brought_within s.min s.max v (omega (arith, ints, rise.low, rise.high)) in
    within_coordinate s (brought s.min s.max v) within.0 within.1

abbrev pub ArePairs : List (ℤ × ℤ) → Type 0
ArePairs [] = Unit {0}
ArePairs (p ∷ ps) = IsPair p × ArePairs ps

either : (b : Bool) (xs ys : List (ℤ × ℤ)) → ArePairs xs → ArePairs ys → ArePairs (if b then xs else ys)
either true xs ys first second = first
either false xs ys first second = second

with_pair_pairs : (p : ℤ × ℤ) (pairs : List (ℤ × ℤ)) → IsPair p → ArePairs pairs → ArePairs (with_pair p pairs)
with_pair_pairs p [] own all = (own, tt)
with_pair_pairs p (q ∷ qs) own all =
    either (int_lt p.0 q.0) (p ∷ q ∷ qs) (if int_lt q.0 p.0 then q ∷ with_pair p qs else q ∷ qs) (own, (all.0, all.1))
    (either (int_lt q.0 p.0) (q ∷ with_pair p qs) (q ∷ qs) (all.0, with_pair_pairs p qs own all.1) all)

with_nodes_pairs : (user design : Limits) → AreRising user → AreRising design → (pairs nodes : List (ℤ × ℤ)) → ArePairs pairs → ArePairs (with_nodes user design pairs nodes)
with_nodes_pairs user design rise fall pairs [] all = all
with_nodes_pairs user design rise fall pairs (node ∷ nodes) all =
    with_nodes_pairs user design rise fall (with_node user design node pairs) nodes
    (either (is_on_axis user node) (with_pair (pair_of user design node) pairs) pairs
    (with_pair_pairs (pair_of user design node) pairs (record { key = normalised_coordinate user rise node.0; value = normalised_coordinate design fall node.1 }) all) all)

fixed : (z : ℤ) → neg_ℤ (pos 16384) ≤ℤ z → z ≤ℤ pos 16384 → IsPair (z, z)
fixed z low high = record { key = record { low = low; high = high }; value = record { low = low; high = high } }

pub avar_pairs_pairs : (m : Mapping) → AreRising m.user → AreRising (design_of m) → ArePairs (avar_pairs m)
avar_pairs_pairs m rise fall =
    with_nodes_pairs m.user (design_of m) rise fall fixed_pairs m.nodes
    (fixed (neg_ℤ (pos 16384)) (omega (arith, ints)) (omega (arith, ints)), (fixed (pos 0) (omega (arith, ints)) (omega (arith, ints)), (fixed (pos 16384) (omega (arith, ints)) (omega (arith, ints)), tt)))

-- a line between two coordinates
step_within : (s a b : ℤ) → pos 0 ≤ℤ a → a ≤ℤ b → pos 0 <ℤ b → neg_ℤ (pos 32768) ≤ℤ s → s ≤ℤ pos 32768
    → (neg_ℤ (pos 32768) ≤ℤ round_up (s *ℤ a) (unsigned_abs b)) × (round_up (s *ℤ a) (unsigned_abs b) ≤ℤ pos 32768)
step_within (pos s) (pos a) (pos b) low high some least greatest =
    let part = part_grows s a b (omega (arith, ints)) (omega (arith, ints)) in
    (omega (arith, ints), omega (arith, ints))
step_within (negsuc s) (pos a) (pos b) low high some least greatest =
    let part = part_falls s a b (omega (arith, ints)) (omega (arith, ints)) in
    (omega (arith, ints), omega (arith, ints))
step_within s (negsuc a) b low high some least greatest = absurd (omega (arith, ints))
step_within s a (negsuc b) low high some least greatest = absurd (omega (arith, ints))

line_fits : (p q : ℤ × ℤ) (v : ℤ) → IsPair p → IsPair q → p.0 ≤ℤ v → v <ℤ q.0 → FitsSigned w32 (between p.0 p.1 q.0 q.1 v)
unfolding between
line_fits p q v first second low high =
    let step = step_within (q.1 -ℤ p.1) (v -ℤ p.0) (q.0 -ℤ p.0) (omega (arith, ints)) (omega (arith, ints)) (omega (arith, ints)) (omega (arith, ints, first.value.low, first.value.high, second.value.low, second.value.high)) (omega (arith, ints, first.value.low, first.value.high, second.value.low, second.value.high)) in
    omega (arith, ints, step, first.value.low, first.value.high)

moved_fits : (p : ℤ × ℤ) (v : ℤ) → IsPair p → IsCoordinate v → FitsSigned w32 (moved p.0 p.1 v)
unfolding moved
moved_fits p v own at = omega (arith, ints, own.key.low, own.key.high, own.value.low, own.value.high, at.low, at.high)

choose_fits : (b : Bool) (x y : ℤ) → (b ≡ true → FitsSigned w32 x) → (b ≡ false → FitsSigned w32 y) → FitsSigned w32 (if b then x else y)
choose_fits true x y first second = first refl
choose_fits false x y first second = second refl

after_fits : (p : ℤ × ℤ) (ps : List (ℤ × ℤ)) (v : ℤ) → IsPair p → ArePairs ps → IsCoordinate v → p.0 ≤ℤ v → FitsSigned w32 (followed_after Forward p ps v)
after_fits p [] v own all at low = moved_fits p v own at
after_fits p (q ∷ qs) v own all at low =
    choose_fits (int_lt v q.0) (between p.0 p.1 q.0 q.1 v) (followed_after Forward q qs v)
    (λ (e : int_lt v q.0 ≡ true). line_fits p q v own all.0 low (lt_of v q.0 e))
    (λ (e : int_lt v q.0 ≡ false). after_fits q qs v all.0 all.1 at (le_of v q.0 e))

pub followed_fits : (ps : List (ℤ × ℤ)) (v : ℤ) → ArePairs ps → IsCoordinate v → FitsSigned w32 (followed Forward ps v)
followed_fits [] v all at = omega (arith, ints, at.low, at.high)
followed_fits (p ∷ ps) v all at =
    choose_fits (int_lt v p.0) (moved p.0 p.1 v) (followed_after Forward p ps v)
    (λ (e : int_lt v p.0 ≡ true). moved_fits p v all.0 at)
    (λ (e : int_lt v p.0 ≡ false). after_fits p ps v all.0 all.1 at (le_of v p.0 e))
