-- The pairs of an axis lead from -1 to 1, are few, and lead to coordinates.
use Rattle.std.proofs.Common.{◌≡◌, ◌≤◌, ℤ, pos, negsuc, ◌+ℤ◌, ◌-ℤ◌, ◌*ℤ◌, ◌≤ℤ◌, ◌<ℤ◌, ◌⊎◌, inl, inr, Bool, true, false, List, [], ◌∷◌, length, refl, sym, subst, ◌∙◌, arith}
use Rattle.std.proofs.lemmas.Int.{ints}
use Rattle.std.proofs.lemmas.List.Elements.{All-from_recursion}
use Rattle.std.specs.Prelude.{int_lt, if◌then◌else◌}
use Rattle.std.specs.Int.RustNames.{unsigned_abs}
use Rattle.std.specs.List.{AllByRecursion}
use Rattle.fixpoint.specs.Rounding.{round_up}
use Rattle.norm_loc.specs.declared.follow.Direction.TheVariants.{Forward}
use Rattle.norm_loc.specs.AvarPairs.{avar_at, avar_pairs, fixed_pairs, is_on_axis, pair_of, with_node, with_nodes, with_pair}
use Rattle.norm_loc.specs.AxisMaps.{Mapping, design_of}
use Rattle.norm_loc.specs.Following.{KeysRise, KeysRiseAfter, between, followed, followed_after, moved}
use Rattle.norm_loc.specs.Normalising.{AreRising, Limits}
use Rattle.norm_loc.specs.PairBounds.{AreSegments, CoverAxis, IsCoordinate, IsPair, last_key}
use Rattle.norm_loc.proofs.BoundLemmas.{ArePairs, avar_pairs_pairs, normalised_coordinate}
use Rattle.norm_loc.proofs.Choices.{le_of, lt_false}
use Rattle.norm_loc.proofs.PairLemmas.{Compared, after_smaller, at_same, avar_pairs_rise, before_greater, compared, greater, less, same}
use Rattle.norm_loc.proofs.RisingLemmas.{moved_at}
use Rattle.norm_loc.proofs.RoundingBounds.{part_falls, part_grows}

-- ---- from -1 to 1

-- a pair that is not greater than the last one leaves it the last
last_by : (n p r : ℤ × ℤ) (rs : List (ℤ × ℤ)) → Compared p r → (r.0 <ℤ p.0 → last_key r (with_pair p rs) ≡ last_key r rs) → last_key n (with_pair p (r ∷ rs)) ≡ last_key n (r ∷ rs)
last_by n p r rs (less h) rest = subst (λ (xs : List (ℤ × ℤ)). last_key n xs ≡ last_key n (r ∷ rs)) (sym (before_greater p r rs h)) refl
last_by n p r rs (same h) rest = subst (λ (xs : List (ℤ × ℤ)). last_key n xs ≡ last_key n (r ∷ rs)) (sym (at_same p r rs h)) refl
last_by n p r rs (greater h) rest = subst (λ (xs : List (ℤ × ℤ)). last_key n xs ≡ last_key n (r ∷ rs)) (sym (after_smaller p r rs h)) (rest h)

last_stays : (n p : ℤ × ℤ) (qs : List (ℤ × ℤ)) → n.0 <ℤ p.0 → p.0 ≤ℤ last_key n qs → last_key n (with_pair p qs) ≡ last_key n qs
last_stays n p [] low high = absurd (omega (arith, ints))
last_stays n p (r ∷ rs) low high = last_by n p r rs (compared p r) (λ (h : r.0 <ℤ p.0). last_stays r p rs h high)

cover_by : (p q : ℤ × ℤ) (qs : List (ℤ × ℤ)) → Compared p q → IsCoordinate p.0 → CoverAxis (q ∷ qs) → CoverAxis (with_pair p (q ∷ qs))
cover_by p q qs (less h) own cover = absurd (omega (arith, ints, own.low, cover.0))
cover_by p q qs (same h) own cover = subst CoverAxis (sym (at_same p q qs h)) cover
cover_by p q qs (greater h) own cover =
    let within : p.0 ≤ℤ last_key q qs = omega (arith, ints, own.high, cover.1) in
    subst CoverAxis (sym (after_smaller p q qs h)) (cover.0, last_stays q p qs h within ∙ cover.1)

with_pair_covers : (p : ℤ × ℤ) (pairs : List (ℤ × ℤ)) → IsCoordinate p.0 → CoverAxis pairs → CoverAxis (with_pair p pairs)
with_pair_covers p [] own cover = absurd cover
with_pair_covers p (q ∷ qs) own cover = cover_by p q qs (compared p q) own cover

with_node_covers : (b : Bool) (p : ℤ × ℤ) (pairs : List (ℤ × ℤ)) → IsCoordinate p.0 → CoverAxis pairs → CoverAxis (if b then with_pair p pairs else pairs)
with_node_covers true p pairs own cover = with_pair_covers p pairs own cover
with_node_covers false p pairs own cover = cover

with_nodes_cover : (user design : Limits) → AreRising user → (pairs nodes : List (ℤ × ℤ)) → CoverAxis pairs → CoverAxis (with_nodes user design pairs nodes)
with_nodes_cover user design rise pairs [] cover = cover
with_nodes_cover user design rise pairs (node ∷ nodes) cover =
    with_nodes_cover user design rise (with_node user design node pairs) nodes
    (with_node_covers (is_on_axis user node) (pair_of user design node) pairs (normalised_coordinate user rise node.0) cover)

avar_pairs_cover : (m : Mapping) → AreRising m.user → CoverAxis (avar_pairs m)
avar_pairs_cover m rise = with_nodes_cover m.user (design_of m) rise fixed_pairs m.nodes (refl, refl)

-- ---- how many there are

-- numbers that rise strictly are at most as many as they rise
count_after : (n : ℤ × ℤ) (qs : List (ℤ × ℤ)) → KeysRiseAfter Forward n qs → (n.0 +ℤ pos (length qs)) ≤ℤ last_key n qs
count_after n [] rise = omega (arith, ints)
count_after n (r ∷ rs) rise =
    let step : n.0 <ℤ r.0 = rise.0 in
    let more = count_after r rs rise.1 in
    omega (arith, ints, step, more)

count_pairs : (pairs : List (ℤ × ℤ)) → KeysRise Forward pairs → CoverAxis pairs → length pairs ≤ 32769
count_pairs [] rise cover = absurd cover
count_pairs (n ∷ qs) rise cover = omega (arith, ints, count_after n qs rise, cover.0, cover.1)

pairs_by_recursion : (pairs : List (ℤ × ℤ)) → ArePairs pairs → AllByRecursion IsPair pairs
pairs_by_recursion [] all = tt
pairs_by_recursion (p ∷ ps) all = (all.0, pairs_by_recursion ps all.1)

pub avar_pairs_segments : (m : Mapping) → AreRising m.user → AreRising (design_of m) → AreSegments (avar_pairs m)
avar_pairs_segments m rise fall =
    let cover = avar_pairs_cover m rise in
    let risen = avar_pairs_rise m in
    record {
      each = All-from_recursion IsPair (avar_pairs m) (pairs_by_recursion (avar_pairs m) (avar_pairs_pairs m rise fall));
      rise = risen;
      cover = cover;
      few = count_pairs (avar_pairs m) risen cover;
    }

-- ---- what coordinates become

-- a step on a line has the sign of the line's rise, and at most its size
abbrev IsStep : ℤ → ℤ → Type 0
IsStep s r = ((pos 0 ≤ℤ r) × (r ≤ℤ s)) ⊎ ((s ≤ℤ r) × (r ≤ℤ pos 0))

step_of : (s a b : ℤ) → pos 0 ≤ℤ a → a ≤ℤ b → pos 0 <ℤ b → IsStep s (round_up (s *ℤ a) (unsigned_abs b))
step_of (pos s) (pos a) (pos b) low high some = inl (part_grows s a b (omega (arith, ints)) (omega (arith, ints)))
step_of (negsuc s) (pos a) (pos b) low high some = inr (part_falls s a b (omega (arith, ints)) (omega (arith, ints)))
step_of s (negsuc a) b low high some = absurd (omega (arith, ints))
step_of s a (negsuc b) low high some = absurd (omega (arith, ints))

line_by : (x y s r : ℤ) → IsCoordinate x → IsCoordinate y → s ≡ y -ℤ x → IsStep s r → IsCoordinate (x +ℤ r)
line_by x y s r first second rise (inl (low, high)) = record { low = omega (arith, ints, first.low); high = omega (arith, ints, second.high) }
line_by x y s r first second rise (inr (low, high)) = record { low = omega (arith, ints, second.low); high = omega (arith, ints, first.high) }

line_coordinate : (p q : ℤ × ℤ) (v : ℤ) → IsPair p → IsPair q → p.0 ≤ℤ v → v <ℤ q.0 → IsCoordinate (between p.0 p.1 q.0 q.1 v)
unfolding between
line_coordinate p q v first second low high =
    line_by p.1 q.1 (q.1 -ℤ p.1) (round_up ((q.1 -ℤ p.1) *ℤ (v -ℤ p.0)) (unsigned_abs (q.0 -ℤ p.0))) first.value second.value refl
    (step_of (q.1 -ℤ p.1) (v -ℤ p.0) (q.0 -ℤ p.0) (omega (arith, ints)) (omega (arith, ints)) (omega (arith, ints)))

choose_coordinate : (b : Bool) (x y : ℤ) → (b ≡ true → IsCoordinate x) → (b ≡ false → IsCoordinate y) → IsCoordinate (if b then x else y)
choose_coordinate true x y first second = first refl
choose_coordinate false x y first second = second refl

after_coordinate : (p : ℤ × ℤ) (qs : List (ℤ × ℤ)) (v : ℤ) → IsPair p → ArePairs qs → p.0 ≤ℤ v → v ≤ℤ last_key p qs → IsCoordinate (followed_after Forward p qs v)
after_coordinate p [] v own all low high =
    let at : v ≡ p.0 = omega (arith, ints) in
    subst (λ (w : ℤ). IsCoordinate (moved p.0 p.1 w)) (sym at) (subst IsCoordinate (sym (moved_at p.0 p.1)) own.value)
after_coordinate p (q ∷ qs) v own all low high =
    choose_coordinate (int_lt v q.0) (between p.0 p.1 q.0 q.1 v) (followed_after Forward q qs v)
    (λ (e : int_lt v q.0 ≡ true). line_coordinate p q v own all.0 low (omega (arith, ints)))
    (λ (e : int_lt v q.0 ≡ false). after_coordinate q qs v all.0 all.1 (le_of v q.0 e) high)

followed_coordinate : (ps : List (ℤ × ℤ)) (v : ℤ) → ArePairs ps → CoverAxis ps → IsCoordinate v → IsCoordinate (followed Forward ps v)
followed_coordinate [] v all cover at = absurd cover
followed_coordinate (p ∷ ps) v all cover at =
    let low : p.0 ≤ℤ v = omega (arith, ints, cover.0, at.low) in
    let high : v ≤ℤ last_key p ps = omega (arith, ints, cover.1, at.high) in
    rw (lt_false v p.0 low) (after_coordinate p ps v all.0 all.1 low high)

pub avar_at_coordinate : (m : Mapping) → AreRising m.user → AreRising (design_of m) → (v : ℤ) → IsCoordinate v → IsCoordinate (avar_at m v)
avar_at_coordinate m rise fall v at = followed_coordinate (avar_pairs m) v (avar_pairs_pairs m rise fall) (avar_pairs_cover m rise) at
