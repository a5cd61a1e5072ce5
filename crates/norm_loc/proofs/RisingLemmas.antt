-- Nodes that rise in both numbers make a function that rises weakly.
use Rattle.std.proofs.Common.{◌≡◌, ℕ, ℤ, suc, pos, negsuc, ◌+ℤ◌, ◌-ℤ◌, ◌*ℤ◌, ◌≤ℤ◌, ◌<ℤ◌, ◌*◌, ◌≤◌, ◌+◌, Bool, true, false, List, [], ◌∷◌, None, refl, ap, ◌∙◌, arith}
use Rattle.std.proofs.lemmas.Int.{ints}
use Rattle.std.proofs.Math.Nat.{mul-le-mul_left}
use Rattle.std.specs.Prelude.{int_lt, if◌then◌else◌}
use Rattle.std.specs.Int.RustNames.{unsigned_abs}
use Rattle.fixpoint.specs.Rounding.{round_up}
use Rattle.fixpoint.proofs.RoundingLemmas.{scaled_within, scaled_by_zero}
use Rattle.norm_loc.specs.declared.follow.Direction.{Direction}
use Rattle.norm_loc.specs.declared.follow.Direction.TheVariants.{Forward, Backward}
use Rattle.norm_loc.specs.Following.{KeysRise, KeysRiseAfter, between, followed, followed_after, moved}
use Rattle.norm_loc.specs.MapFaults.{rises, unordered, unordered_after}
use Rattle.norm_loc.proofs.Choices.{both, choose_le, le_of, lt_of, then_none}
use Rattle.norm_loc.proofs.RoundingBounds.{round_up_rises}

-- both numbers rise from node to node
abbrev pub BothRiseAfter : ℤ × ℤ → List (ℤ × ℤ) → Type 0
BothRiseAfter n [] = Unit {0}
BothRiseAfter n (m ∷ ms) = (n.0 <ℤ m.0) × (n.1 <ℤ m.1) × BothRiseAfter m ms

abbrev pub BothRise : List (ℤ × ℤ) → Type 0
BothRise [] = Unit {0}
BothRise (n ∷ ns) = BothRiseAfter n ns

ordered_after : (n : ℤ × ℤ) (k : ℕ) (ns : List (ℤ × ℤ)) → unordered_after n k ns ≡ None → BothRiseAfter n ns
ordered_after n k [] e = tt
ordered_after n k (m ∷ ms) e =
    let parts = then_none (rises n m) (unordered_after m (k + 1) ms) k e in
    let two = both (int_lt n.0 m.0) (int_lt n.1 m.1) parts.0 in
    (lt_of n.0 m.0 two.0, lt_of n.1 m.1 two.1, ordered_after m (k + 1) ms parts.1)

pub ordered : (ns : List (ℤ × ℤ)) → unordered ns ≡ None → BothRise ns
ordered [] e = tt
ordered (n ∷ ns) e = ordered_after n 1 ns e

keys_after : (d : Direction) (n : ℤ × ℤ) (ns : List (ℤ × ℤ)) → BothRiseAfter n ns → KeysRiseAfter d n ns
keys_after d n [] rise = tt
keys_after Forward n (m ∷ ms) rise = (rise.0, keys_after Forward m ms rise.2)
keys_after Backward n (m ∷ ms) rise = (rise.1, keys_after Backward m ms rise.2)

pub keys_rise : (d : Direction) (ns : List (ℤ × ℤ)) → BothRise ns → KeysRise d ns
keys_rise d [] rise = tt
keys_rise d (n ∷ ns) rise = keys_after d n ns rise

-- products by a number that is not negative
product_rises : (s a b : ℤ) → pos 0 ≤ℤ s → a ≤ℤ b → (s *ℤ a) ≤ℤ (s *ℤ b)
product_rises (pos s) (pos a) (pos b) some less =
    let more : s * a ≤ s * b = mul-le-mul_left s (omega (arith, ints)) in omega (arith, ints)
product_rises (pos s) (negsuc a) (pos b) some less = omega (arith, ints)
product_rises (pos s) (negsuc a) (negsuc b) some less =
    let more : s * suc b ≤ s * suc a = mul-le-mul_left s (omega (arith, ints)) in omega (arith, ints)
product_rises (pos s) (pos a) (negsuc b) some less = absurd (omega (arith, ints))
product_rises (negsuc s) a b some less = absurd (omega (arith, ints))

-- a line that rises
line_rises : (x0 y0 x1 y1 v w : ℤ) → x0 <ℤ x1 → y0 <ℤ y1 → v ≤ℤ w → between x0 y0 x1 y1 v ≤ℤ between x0 y0 x1 y1 w
unfolding between
line_rises x0 y0 x1 y1 v w run rise less =
    let more : ((y1 -ℤ y0) *ℤ (v -ℤ x0)) ≤ℤ ((y1 -ℤ y0) *ℤ (w -ℤ x0)) = product_rises (y1 -ℤ y0) (v -ℤ x0) (w -ℤ x0) (omega (arith, ints)) (omega (arith, ints)) in
    let rounded = round_up_rises ((y1 -ℤ y0) *ℤ (v -ℤ x0)) ((y1 -ℤ y0) *ℤ (w -ℤ x0)) (unsigned_abs (x1 -ℤ x0)) (omega (arith, ints)) more in
    omega (arith, ints, rounded)

-- it stays between its ends
line_within : (x0 y0 x1 y1 v : ℤ) → x0 <ℤ x1 → y0 <ℤ y1 → x0 ≤ℤ v → v ≤ℤ x1 → (y0 ≤ℤ between x0 y0 x1 y1 v) × (between x0 y0 x1 y1 v ≤ℤ y1)
unfolding between
line_within x0 y0 x1 y1 v run rise low high =
    let part = scaled_within (y1 -ℤ y0) (v -ℤ x0) (unsigned_abs (x1 -ℤ x0)) (omega (arith, ints)) (omega (arith, ints)) (omega (arith, ints)) (omega (arith, ints)) in
    (omega (arith, ints, part), omega (arith, ints, part))

-- it begins at its first end
pub line_start : (x0 y0 x1 y1 : ℤ) → x0 <ℤ x1 → between x0 y0 x1 y1 x0 ≡ y0
unfolding between
line_start x0 y0 x1 y1 run =
    let none : x0 -ℤ x0 ≡ pos 0 = omega (arith, ints) in
    let zeros : round_up ((y1 -ℤ y0) *ℤ (x0 -ℤ x0)) (unsigned_abs (x1 -ℤ x0)) ≡ pos 0 =
    ap (λ (z : ℤ). round_up ((y1 -ℤ y0) *ℤ z) (unsigned_abs (x1 -ℤ x0))) none ∙ scaled_by_zero (y1 -ℤ y0) (unsigned_abs (x1 -ℤ x0)) (omega (arith, ints)) in
    ap (λ (z : ℤ). y0 +ℤ z) zeros ∙ omega (arith, ints)

pub moved_at : (x y : ℤ) → moved x y x ≡ y
unfolding moved
moved_at x y = omega (arith, ints)

moved_above : (x y v : ℤ) → x ≤ℤ v → y ≤ℤ moved x y v
unfolding moved
moved_above x y v more = omega (arith, ints)

moved_below : (x y v : ℤ) → v <ℤ x → moved x y v ≤ℤ y
unfolding moved
moved_below x y v less = omega (arith, ints)

moved_rises : (x y v w : ℤ) → v ≤ℤ w → moved x y v ≤ℤ moved x y w
unfolding moved
moved_rises x y v w less = omega (arith, ints)

trans : (a b c : ℤ) → a ≤ℤ b → b ≤ℤ c → a ≤ℤ c
trans a b c p q = omega (arith, ints)

choose_above : (b : Bool) (y p q : ℤ) → (b ≡ true → y ≤ℤ p) → (b ≡ false → y ≤ℤ q) → y ≤ℤ (if b then p else q)
choose_above true y p q first second = first refl
choose_above false y p q first second = second refl

after_above : (n : ℤ × ℤ) (ns : List (ℤ × ℤ)) (v : ℤ) → BothRiseAfter n ns → n.0 ≤ℤ v → n.1 ≤ℤ followed_after Forward n ns v
after_above n [] v rise low = moved_above n.0 n.1 v low
after_above n (m ∷ ms) v rise low =
    choose_above (int_lt v m.0) n.1 (between n.0 n.1 m.0 m.1 v) (followed_after Forward m ms v)
    (λ (less : int_lt v m.0 ≡ true). (line_within n.0 n.1 m.0 m.1 v rise.0 rise.1 low (omega (arith, ints))).0)
    (λ (more : int_lt v m.0 ≡ false). trans n.1 m.1 (followed_after Forward m ms v) (omega (arith, ints)) (after_above m ms v rise.2 (le_of v m.0 more)))

after_rises : (n : ℤ × ℤ) (ns : List (ℤ × ℤ)) (v w : ℤ) → BothRiseAfter n ns → n.0 ≤ℤ v → v ≤ℤ w → followed_after Forward n ns v ≤ℤ followed_after Forward n ns w
after_rises n [] v w rise low less = moved_rises n.0 n.1 v w less
after_rises n (m ∷ ms) v w rise low less =
    choose_le (int_lt v m.0) (int_lt w m.0) (between n.0 n.1 m.0 m.1 v) (followed_after Forward m ms v) (between n.0 n.1 m.0 m.1 w) (followed_after Forward m ms w)
    (λ (a : int_lt v m.0 ≡ true) (b : int_lt w m.0 ≡ true). line_rises n.0 n.1 m.0 m.1 v w rise.0 rise.1 less)
    (λ (a : int_lt v m.0 ≡ true) (b : int_lt w m.0 ≡ false). trans (between n.0 n.1 m.0 m.1 v) m.1 (followed_after Forward m ms w) (line_within n.0 n.1 m.0 m.1 v rise.0 rise.1 low (omega (arith, ints))).1 (after_above m ms w rise.2 (le_of w m.0 b)))
    (λ (a : int_lt v m.0 ≡ false) (b : int_lt w m.0 ≡ true). absurd (omega (arith, ints)))
    (λ (a : int_lt v m.0 ≡ false) (b : int_lt w m.0 ≡ false). after_rises m ms v w rise.2 (le_of v m.0 a) less)

pub followed_rises : (ns : List (ℤ × ℤ)) (v w : ℤ) → BothRise ns → v ≤ℤ w → followed Forward ns v ≤ℤ followed Forward ns w
followed_rises [] v w rise less = less
followed_rises (n ∷ ns) v w rise less =
    choose_le (int_lt v n.0) (int_lt w n.0) (moved n.0 n.1 v) (followed_after Forward n ns v) (moved n.0 n.1 w) (followed_after Forward n ns w)
    (λ (a : int_lt v n.0 ≡ true) (b : int_lt w n.0 ≡ true). moved_rises n.0 n.1 v w less)
    (λ (a : int_lt v n.0 ≡ true) (b : int_lt w n.0 ≡ false). trans (moved n.0 n.1 v) n.1 (followed_after Forward n ns w) (moved_below n.0 n.1 v (lt_of v n.0 a)) (after_above n ns w rise (le_of w n.0 b)))
    (λ (a : int_lt v n.0 ≡ false) (b : int_lt w n.0 ≡ true). absurd (omega (arith, ints)))
    (λ (a : int_lt v n.0 ≡ false) (b : int_lt w n.0 ≡ false). after_rises n ns v w rise (le_of v n.0 a) less)
