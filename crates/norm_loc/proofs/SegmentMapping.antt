-- What a coordinate becomes by the pairs of a map is what the map makes of it.
use Rattle.std.proofs.Common.{◌≡◌, ℤ, pos, ◌+ℤ◌, ◌-ℤ◌, ◌*ℤ◌, ◌≤ℤ◌, ◌<ℤ◌, Bool, true, false, List, [], ◌∷◌, Some, refl, sym, ap, subst, ◌∙◌, arith}
use Rattle.std.proofs.lemmas.Int.{ints}
use Rattle.std.specs.Prelude.{int_le, int_lt}
use Rattle.std.specs.Int.RustNames.{unsigned_abs}
use Rattle.fixpoint.specs.Rounding.{round_up}
use Rattle.fixpoint.proofs.RoundingLemmas.{scaled_by_one}
use Rattle.norm_loc.specs.declared.follow.Direction.TheVariants.{Forward}
use Rattle.norm_loc.specs.AvarPairs.{avar_at, avar_pairs}
use Rattle.norm_loc.specs.AxisMaps.{Mapping}
use Rattle.norm_loc.specs.Following.{KeysRise, KeysRiseAfter, between, followed, followed_after}
use Rattle.norm_loc.specs.PairBounds.{AreSegments, CoverAxis, IsCoordinate, last_key}
use Rattle.norm_loc.specs.SegmentMap.{mapped, on_line}
use Rattle.norm_loc.proofs.Choices.{lt_false, lt_of, lt_true, no, yes}
use Rattle.norm_loc.proofs.LawLemmas.{at_first}

-- the line ends at its second pair
line_end : (p q : ℤ × ℤ) → p.0 <ℤ q.0 → on_line p q q.0 ≡ q.1
line_end p q rise =
    let run : q.0 -ℤ p.0 ≡ pos (unsigned_abs (q.0 -ℤ p.0)) = omega (arith, ints) in
    let whole : round_up ((q.1 -ℤ p.1) *ℤ (q.0 -ℤ p.0)) (unsigned_abs (q.0 -ℤ p.0)) ≡ q.1 -ℤ p.1 =
    ap (λ (z : ℤ). round_up ((q.1 -ℤ p.1) *ℤ z) (unsigned_abs (q.0 -ℤ p.0))) run ∙ scaled_by_one (q.1 -ℤ p.1) (unsigned_abs (q.0 -ℤ p.0)) (omega (arith, ints)) in
    ap (λ (z : ℤ). p.1 +ℤ z) whole ∙ omega (arith, ints)

line_is : (p q : ℤ × ℤ) (v : ℤ) → on_line p q v ≡ between p.0 p.1 q.0 q.1 v
unfolding between
line_is p q v = refl

le_true : (a b : ℤ) → a ≤ℤ b → int_le a b ≡ true
le_true a b less = yes (int_le a b) (λ (e : int_le a b ≡ false). omega (arith, ints))

le_false : (a b : ℤ) → b <ℤ a → int_le a b ≡ false
le_false a b more = no (int_le a b) (λ (e : int_le a b ≡ true). omega (arith, ints))

-- between the first two pairs, and after the second
here : (p q : ℤ × ℤ) (pairs : List (ℤ × ℤ)) (v : ℤ) → p.0 <ℤ q.0 → p.0 ≤ℤ v → v ≤ℤ q.0 → mapped (p ∷ q ∷ pairs) v ≡ Some (on_line p q v)
here p q pairs v rise low high = rw (lt_true p.0 q.0 rise, le_true p.0 v low, le_true v q.0 high) refl

further : (p q : ℤ × ℤ) (pairs : List (ℤ × ℤ)) (v : ℤ) → p.0 <ℤ q.0 → p.0 ≤ℤ v → q.0 <ℤ v → mapped (p ∷ q ∷ pairs) v ≡ mapped (q ∷ pairs) v
further p q pairs v rise low more = rw (lt_true p.0 q.0 rise, le_true p.0 v low, le_false v q.0 more) refl

-- where a value lies, by the second of two pairs
data Lies (v b : ℤ) : Type 0 where
  before : v <ℤ b → Lies v b
  equal : b ≡ v → Lies v b
  after : b <ℤ v → Lies v b

lies : (v b : ℤ) → Lies v b
lies v b = by (int_lt v b) (int_lt b v) refl refl
  where
    by : (x y : Bool) → int_lt v b ≡ x → int_lt b v ≡ y → Lies v b
    by true y first second = before (lt_of v b first)
    by false true first second = after (lt_of b v second)
    by false false first second = equal (omega (arith, ints))

mapped_by : (p q : ℤ × ℤ) (pairs : List (ℤ × ℤ)) (v : ℤ) → Lies v q.0 → KeysRiseAfter Forward p (q ∷ pairs) → p.0 ≤ℤ v → (q.0 <ℤ v → mapped (q ∷ pairs) v ≡ Some (followed_after Forward q pairs v))
    → mapped (p ∷ q ∷ pairs) v ≡ Some (followed_after Forward p (q ∷ pairs) v)
mapped_by p q pairs v (before h) rise low rest =
    here p q pairs v rise.0 low (omega (arith, ints)) ∙ ap Some (line_is p q v ∙ sym (then_is h))
  where
    then_is : v <ℤ q.0 → followed_after Forward p (q ∷ pairs) v ≡ between p.0 p.1 q.0 q.1 v
    then_is h = rw (lt_true v q.0 h) refl
mapped_by p q pairs v (equal h) rise low rest =
    subst (λ (w : ℤ). mapped (p ∷ q ∷ pairs) w ≡ Some (followed_after Forward p (q ∷ pairs) w)) h
    (here p q pairs q.0 rise.0 (omega (arith, ints, rise.0)) (omega (arith, ints)) ∙ ap Some (line_end p q rise.0 ∙ sym (else_is ∙ at_first q pairs rise.1)))
  where
    else_is : followed_after Forward p (q ∷ pairs) q.0 ≡ followed_after Forward q pairs q.0
    else_is = rw (lt_false q.0 q.0 (omega (arith, ints))) refl
mapped_by p q pairs v (after h) rise low rest =
    further p q pairs v rise.0 low h ∙ (rest h ∙ ap Some (sym else_is))
  where
    else_is : followed_after Forward p (q ∷ pairs) v ≡ followed_after Forward q pairs v
    else_is = rw (lt_false v q.0 (omega (arith, ints))) refl

mapped_after : (p q : ℤ × ℤ) (pairs : List (ℤ × ℤ)) (v : ℤ) → KeysRiseAfter Forward p (q ∷ pairs) → p.0 ≤ℤ v → v ≤ℤ last_key q pairs → mapped (p ∷ q ∷ pairs) v ≡ Some (followed_after Forward p (q ∷ pairs) v)
mapped_after p q [] v rise low high = mapped_by p q [] v (lies v q.0) rise low (λ (h : q.0 <ℤ v). absurd (omega (arith, ints)))
mapped_after p q (r ∷ pairs) v rise low high =
    mapped_by p q (r ∷ pairs) v (lies v q.0) rise low (λ (h : q.0 <ℤ v). mapped_after q r pairs v rise.1 (omega (arith, ints)) high)

mapped_is : (pairs : List (ℤ × ℤ)) (v : ℤ) → KeysRise Forward pairs → CoverAxis pairs → IsCoordinate v → mapped pairs v ≡ Some (followed Forward pairs v)
mapped_is [] v rise cover at = absurd cover
mapped_is (p ∷ []) v rise cover at = absurd (omega (arith, ints, cover.0, cover.1))
mapped_is (p ∷ q ∷ pairs) v rise cover at =
    let low : p.0 ≤ℤ v = omega (arith, ints, cover.0, at.low) in
    let high : v ≤ℤ last_key q pairs = omega (arith, ints, cover.1, at.high) in
    mapped_after p q pairs v rise low high ∙ ap Some (sym (first_is low))
  where
    first_is : p.0 ≤ℤ v → followed Forward (p ∷ q ∷ pairs) v ≡ followed_after Forward p (q ∷ pairs) v
    first_is low = rw (lt_false v p.0 low) refl

pub avar_at_mapped : (m : Mapping) → AreSegments (avar_pairs m) → (v : ℤ) → IsCoordinate v → mapped (avar_pairs m) v ≡ Some (avar_at m v)
avar_at_mapped m own v at = mapped_is (avar_pairs m) v own.rise own.cover at
