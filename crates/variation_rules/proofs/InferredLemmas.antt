-- The inferred delta of one number: there is at most one, it lies between the references' deltas, and the
-- order of the references doesn't count.
-- `omega` reads a signed number z as `up z - down z`.
use Rattle.std.proofs.Common.{◌≡◌, subst, ◌≢◌, ◌⊎◌, inl, inr, ℕ, ℤ, zero, suc, pos, negsuc, neg_ℤ, ◌+◌, ◌*◌, ◌<◌, ◌≤◌, ◌+ℤ◌, ◌-ℤ◌, ◌*ℤ◌, ◌<ℤ◌, ◌≤ℤ◌, Option, Some, None, MatchOption, refl, sym, ◌∙◌, ap, arith}
use Rattle.std.proofs.lemmas.Int.{ints, by_lt_z, quot-rem, rem_below}
use Rattle.std.proofs.Math.Nat.{mul-le-mul_right, eq_of_mul-eq-mul_right, lt_of_mul-lt-mul_right}
use Rattle.std.specs.Int.RustNames.{int_div, int_rem, unsigned_abs}
use borrow.Author.Differences.{up, down, same_in, at_most_in}
use Rattle.variation_rules.specs.FontUnits.{IsFWord}
use Rattle.variation_rules.specs.InferredDelta.{OnLine, Between}

-- a product by a number that is not negative, in parts, and by one that is not positive
times_pos : (z : ℤ) (k : ℕ) → (up (z *ℤ pos k) ≡ up z * k) × (down (z *ℤ pos k) ≡ down z * k)
times_pos (pos a) k = omega (arith, ints)
times_pos (negsuc a) k = omega (arith, ints)

pos_times : (z : ℤ) (k : ℕ) → (up (pos k *ℤ z) ≡ up z * k) × (down (pos k *ℤ z) ≡ down z * k)
pos_times (pos a) k = omega (arith, ints)
pos_times (negsuc a) k = omega (arith, ints)

times_neg : (z : ℤ) (k : ℕ) → (up (z *ℤ neg_ℤ (pos k)) ≡ down z * k) × (down (z *ℤ neg_ℤ (pos k)) ≡ up z * k)
times_neg (pos a) zero = omega (arith, ints)
times_neg (negsuc a) zero = omega (arith, ints)
times_neg (pos a) (suc k) = omega (arith, ints)
times_neg (negsuc a) (suc k) = omega (arith, ints)

neg_times : (z : ℤ) (k : ℕ) → (up (neg_ℤ (pos k) *ℤ z) ≡ down z * k) × (down (neg_ℤ (pos k) *ℤ z) ≡ up z * k)
neg_times (pos a) zero = omega (arith, ints)
neg_times (negsuc a) zero = omega (arith, ints)
neg_times (pos a) (suc k) = omega (arith, ints)
neg_times (negsuc a) (suc k) = omega (arith, ints)

-- a part of a difference
part_of : (x y : ℤ) (k : ℕ) → up (x -ℤ y) * k + down x * k + up y * k ≡ down (x -ℤ y) * k + up x * k + down y * k
part_of x y k =
    let apart : up (x -ℤ y) + down x + up y ≡ down (x -ℤ y) + up x + down y = omega (arith, ints) in
    omega (arith, ap (λ n. n * k) apart)

-- d is the mean of d1 and d2 at the distances a from the first and b from the second
abbrev IsMean : ℕ → ℕ → ℤ → ℤ → ℤ → Type 0
IsMean a b d1 d2 d = up d * (a + b) + down d1 * b + down d2 * a ≡ down d * (a + b) + up d1 * b + up d2 * a

mean_from_rising : (a b : ℕ) (c1 d1 c2 d2 c d : ℤ) → c -ℤ c1 ≡ pos a → c2 -ℤ c1 ≡ pos (a + b) → OnLine c1 d1 c2 d2 c d → IsMean a b d1 d2 d
mean_from_rising a b c1 d1 c2 d2 c d left wide line =
    let straight : (d *ℤ pos (a + b)) ≡ ((d1 *ℤ pos (a + b)) +ℤ (pos a *ℤ (d2 -ℤ d1))) = rw (← left, ← wide) line in
    omega (arith, ints, times_pos d (a + b), times_pos d1 (a + b), pos_times (d2 -ℤ d1) a, part_of d2 d1 a)

rising_from_mean : (a b : ℕ) (c1 d1 c2 d2 c d : ℤ) → c -ℤ c1 ≡ pos a → c2 -ℤ c1 ≡ pos (a + b) → IsMean a b d1 d2 d → OnLine c1 d1 c2 d2 c d
rising_from_mean a b c1 d1 c2 d2 c d left wide mean =
    rw (left, wide)
    (omega (arith, ints, times_pos d (a + b), times_pos d1 (a + b), pos_times (d2 -ℤ d1) a, part_of d2 d1 a))

mean_from_falling : (a b : ℕ) (c1 d1 c2 d2 c d : ℤ) → c -ℤ c1 ≡ neg_ℤ (pos b) → c2 -ℤ c1 ≡ neg_ℤ (pos (a + b)) → OnLine c1 d1 c2 d2 c d → IsMean a b d2 d1 d
mean_from_falling a b c1 d1 c2 d2 c d left wide line =
    let straight : (d *ℤ neg_ℤ (pos (a + b))) ≡ ((d1 *ℤ neg_ℤ (pos (a + b))) +ℤ (neg_ℤ (pos b) *ℤ (d2 -ℤ d1))) = rw (← left, ← wide) line in
    omega (arith, ints, times_neg d (a + b), times_neg d1 (a + b), neg_times (d2 -ℤ d1) b, part_of d2 d1 b)

falling_from_mean : (a b : ℕ) (c1 d1 c2 d2 c d : ℤ) → c -ℤ c1 ≡ neg_ℤ (pos b) → c2 -ℤ c1 ≡ neg_ℤ (pos (a + b)) → IsMean a b d2 d1 d → OnLine c1 d1 c2 d2 c d
falling_from_mean a b c1 d1 c2 d2 c d left wide mean =
    rw (left, wide)
    (omega (arith, ints, times_neg d (a + b), times_neg d1 (a + b), neg_times (d2 -ℤ d1) b, part_of d2 d1 b))

-- there is one mean
mean_is_one : (a b : ℕ) (d1 d2 d e : ℤ) → 0 < a + b → IsMean a b d1 d2 d → IsMean a b d1 d2 e → d ≡ e
mean_is_one a b d1 d2 d e some mean other =
    let level : (up d + down e) * (a + b) ≡ (up e + down d) * (a + b) = omega arith in
    let same : up d + down e ≡ up e + down d = eq_of_mul-eq-mul_right (a + b) some (up d + down e) (up e + down d) level in
    same_in d e same

-- it isn't below a bound of both
mean_at_least : (a b : ℕ) (d1 d2 d low : ℤ) → low ≤ℤ d1 → low ≤ℤ d2 → 0 < a + b → IsMean a b d1 d2 d → low ≤ℤ d
mean_at_least a b d1 d2 d low first second some mean =
    let one : (up low + down d1) * b ≤ (up d1 + down low) * b = mul-le-mul_right b (omega (arith, ints)) in
    let other : (up low + down d2) * a ≤ (up d2 + down low) * a = mul-le-mul_right a (omega (arith, ints)) in
    let level : (up low + down d) * (a + b) < (up d + down low + 1) * (a + b) = omega arith in
    let step : up low + down d < up d + down low + 1 = lt_of_mul-lt-mul_right (a + b) level in
    at_most_in low d (omega arith)

-- and isn't above one
mean_at_most : (a b : ℕ) (d1 d2 d high : ℤ) → d1 ≤ℤ high → d2 ≤ℤ high → 0 < a + b → IsMean a b d1 d2 d → d ≤ℤ high
mean_at_most a b d1 d2 d high first second some mean =
    let one : (up d1 + down high) * b ≤ (up high + down d1) * b = mul-le-mul_right b (omega (arith, ints)) in
    let other : (up d2 + down high) * a ≤ (up high + down d2) * a = mul-le-mul_right a (omega (arith, ints)) in
    let level : (up d + down high) * (a + b) < (up high + down d + 1) * (a + b) = omega arith in
    let step : up d + down high < up high + down d + 1 = lt_of_mul-lt-mul_right (a + b) level in
    at_most_in d high (omega arith)

-- the distances of a coordinate from the references around it
pub record Distances (low high c : ℤ) : Type 0 where
  pub below : ℕ
  pub above : ℕ
  pub some : 0 < below + above
  pub from_low : c -ℤ low ≡ pos below
  pub whole : high -ℤ low ≡ pos (below + above)
  pub from_high : c -ℤ high ≡ neg_ℤ (pos above)
  pub turned : low -ℤ high ≡ neg_ℤ (pos (below + above))

positive_is : (z : ℤ) → pos 0 <ℤ z → z ≡ pos (up z)
positive_is (pos n) some = refl
positive_is (negsuc n) some = absurd (omega (arith, ints))

distances : (low high c : ℤ) → low <ℤ c → c <ℤ high → Distances low high c
distances low high c left right =
    let below = positive_is (c -ℤ low) (omega (arith, ints)) in
    let above = positive_is (high -ℤ c) (omega (arith, ints)) in
    record {
      below = up (c -ℤ low);
      above = up (high -ℤ c);
      some = omega (arith, ints);
      from_low = below;
      whole = omega (arith, ints);
      from_high = omega (arith, ints);
      turned = omega (arith, ints);
    }

-- a line through the references, as a mean, whichever of them is named first
mean_from_line : (c1 d1 c2 d2 c d : ℤ) (p : Distances c1 c2 c) → OnLine c1 d1 c2 d2 c d → IsMean p.below p.above d1 d2 d
mean_from_line c1 d1 c2 d2 c d p line = mean_from_rising p.below p.above c1 d1 c2 d2 c d p.from_low p.whole line

line_from_mean : (c1 d1 c2 d2 c d : ℤ) (p : Distances c1 c2 c) → IsMean p.below p.above d1 d2 d → OnLine c1 d1 c2 d2 c d
line_from_mean c1 d1 c2 d2 c d p mean = rising_from_mean p.below p.above c1 d1 c2 d2 c d p.from_low p.whole mean

-- the references of a line in the other order
line_turned_up : (c1 d1 c2 d2 c d : ℤ) → c1 <ℤ c → c <ℤ c2 → OnLine c2 d2 c1 d1 c d → OnLine c1 d1 c2 d2 c d
line_turned_up c1 d1 c2 d2 c d left right line =
    let p = distances c1 c2 c left right in
    line_from_mean c1 d1 c2 d2 c d p (mean_from_falling p.below p.above c2 d2 c1 d1 c d p.from_high p.turned line)

line_turned_down : (c1 d1 c2 d2 c d : ℤ) → c2 <ℤ c → c <ℤ c1 → OnLine c2 d2 c1 d1 c d → OnLine c1 d1 c2 d2 c d
line_turned_down c1 d1 c2 d2 c d left right line =
    let p = distances c2 c1 c left right in
    falling_from_mean p.below p.above c1 d1 c2 d2 c d p.from_high p.turned (mean_from_line c2 d2 c1 d1 c d p line)

-- the order of the references doesn't count
pub between_turned : (c1 d1 c2 d2 c d : ℤ) → Between c2 d2 c1 d1 c d → Between c1 d1 c2 d2 c d
between_turned c1 d1 c2 d2 c d between = record {
  agree = λ same level. between.agree (sym same) (sym level) ∙ sym level;
  differ = λ same apart. between.differ (sym same) (λ level. apart (sym level));
  below_first = between.below_second;
  above_second = between.above_first;
  below_second = between.below_first;
  above_first = between.above_second;
  rising = λ left right. line_turned_up c1 d1 c2 d2 c d left right (between.falling left right);
  falling = λ left right. line_turned_down c1 d1 c2 d2 c d left right (between.rising left right);
}

-- the cases in which a delta is the one between
pub between_agree : (c1 d1 c2 d2 c : ℤ) → c1 ≡ c2 → d1 ≡ d2 → Between c1 d1 c2 d2 c d1
between_agree c1 d1 c2 d2 c same level = record {
  agree = λ _ _. refl;
  differ = λ _ apart. absurd (apart level);
  below_first = λ less _. absurd (omega (arith, ints));
  above_second = λ less _. absurd (omega (arith, ints));
  below_second = λ less _. absurd (omega (arith, ints));
  above_first = λ less _. absurd (omega (arith, ints));
  rising = λ left right. absurd (omega (arith, ints));
  falling = λ left right. absurd (omega (arith, ints));
}

pub between_differ : (c1 d1 c2 d2 c : ℤ) → c1 ≡ c2 → d1 ≢ d2 → Between c1 d1 c2 d2 c (pos 0)
between_differ c1 d1 c2 d2 c same apart = record {
  agree = λ _ level. absurd (apart level);
  differ = λ _ _. refl;
  below_first = λ less _. absurd (omega (arith, ints));
  above_second = λ less _. absurd (omega (arith, ints));
  below_second = λ less _. absurd (omega (arith, ints));
  above_first = λ less _. absurd (omega (arith, ints));
  rising = λ left right. absurd (omega (arith, ints));
  falling = λ left right. absurd (omega (arith, ints));
}

pub between_below : (c1 d1 c2 d2 c : ℤ) → c1 <ℤ c2 → c ≤ℤ c1 → Between c1 d1 c2 d2 c d1
between_below c1 d1 c2 d2 c less low = record {
  agree = λ _ _. refl;
  differ = λ same _. absurd (omega (arith, ints));
  below_first = λ _ _. refl;
  above_second = λ _ high. absurd (omega (arith, ints));
  below_second = λ more _. absurd (omega (arith, ints));
  above_first = λ _ _. refl;
  rising = λ left right. absurd (omega (arith, ints));
  falling = λ left right. absurd (omega (arith, ints));
}

pub between_above : (c1 d1 c2 d2 c : ℤ) → c1 <ℤ c2 → c2 ≤ℤ c → Between c1 d1 c2 d2 c d2
between_above c1 d1 c2 d2 c less high = record {
  agree = λ same _. absurd (omega (arith, ints));
  differ = λ same _. absurd (omega (arith, ints));
  below_first = λ _ low. absurd (omega (arith, ints));
  above_second = λ _ _. refl;
  below_second = λ _ _. refl;
  above_first = λ more _. absurd (omega (arith, ints));
  rising = λ left right. absurd (omega (arith, ints));
  falling = λ left right. absurd (omega (arith, ints));
}

pub between_inside : (c1 d1 c2 d2 c d : ℤ) → c1 <ℤ c → c <ℤ c2 → OnLine c1 d1 c2 d2 c d → Between c1 d1 c2 d2 c d
between_inside c1 d1 c2 d2 c d left right line = record {
  agree = λ same _. absurd (omega (arith, ints));
  differ = λ same _. absurd (omega (arith, ints));
  below_first = λ _ low. absurd (omega (arith, ints));
  above_second = λ _ high. absurd (omega (arith, ints));
  below_second = λ more _. absurd (omega (arith, ints));
  above_first = λ more _. absurd (omega (arith, ints));
  rising = λ _ _. line;
  falling = λ more _. absurd (omega (arith, ints));
}

same_or_apart : (x y : ℤ) → (x ≡ y) ⊎ (x ≢ y)
same_or_apart x y =
    by_lt_z x y
    (λ less. inr (λ same. absurd (omega (arith, ints))))
    (λ not_less. by_lt_z y x
    (λ more. inr (λ same. absurd (omega (arith, ints))))
    (λ not_more. inl (omega (arith, ints))))

-- what holds of the delta of a point at a place that is none of these cases, holds of it: there are no others
up_is_one : (c1 d1 c2 d2 c d e : ℤ) → c1 <ℤ c2 → Between c1 d1 c2 d2 c d → Between c1 d1 c2 d2 c e → d ≡ e
up_is_one c1 d1 c2 d2 c d e less first second =
    by_lt_z c1 c
    (λ left. by_lt_z c c2
    (λ right.
    let p = distances c1 c2 c left right in
    mean_is_one p.below p.above d1 d2 d e p.some
    (mean_from_line c1 d1 c2 d2 c d p (first.rising left right))
    (mean_from_line c1 d1 c2 d2 c e p (second.rising left right)))
    (λ high. first.above_second less high ∙ sym (second.above_second less high)))
    (λ low. first.below_first less low ∙ sym (second.below_first less low))

level_is_one : (c1 d1 c2 d2 c d e : ℤ) → c1 ≡ c2 → (d1 ≡ d2) ⊎ (d1 ≢ d2) → Between c1 d1 c2 d2 c d → Between c1 d1 c2 d2 c e → d ≡ e
level_is_one c1 d1 c2 d2 c d e same (inl level) first second = first.agree same level ∙ sym (second.agree same level)
level_is_one c1 d1 c2 d2 c d e same (inr apart) first second = first.differ same apart ∙ sym (second.differ same apart)

-- two references leave one delta at most
pub between_is_one : (c1 d1 c2 d2 c d e : ℤ) → Between c1 d1 c2 d2 c d → Between c1 d1 c2 d2 c e → d ≡ e
between_is_one c1 d1 c2 d2 c d e first second =
    by_lt_z c1 c2
    (λ less. up_is_one c1 d1 c2 d2 c d e less first second)
    (λ not_less. by_lt_z c2 c1
    (λ more. up_is_one c2 d2 c1 d1 c d e more (between_turned c2 d2 c1 d1 c d first) (between_turned c2 d2 c1 d1 c e second))
    (λ not_more. level_is_one c1 d1 c2 d2 c d e (omega (arith, ints)) (same_or_apart d1 d2) first second))

-- a step from the first delta, in proportion to the distance from the first reference, leads to the line
pub line_from_step : (c1 d1 c2 d2 c q : ℤ) → c1 <ℤ c → c <ℤ c2 → q *ℤ (c2 -ℤ c1) ≡ (c -ℤ c1) *ℤ (d2 -ℤ d1) → OnLine c1 d1 c2 d2 c (d1 +ℤ q)
line_from_step c1 d1 c2 d2 c q left right step =
    let p = distances c1 c2 c left right in
    let straight : (q *ℤ pos (p.below + p.above)) ≡ (pos p.below *ℤ (d2 -ℤ d1)) = rw (← p.from_low, ← p.whole) step in
    let sum : up (d1 +ℤ q) + down d1 + down q ≡ down (d1 +ℤ q) + up d1 + up q = omega (arith, ints) in
    line_from_mean c1 d1 c2 d2 c (d1 +ℤ q) p
    (omega (arith, ints, ap (λ n. n * (p.below + p.above)) sum, times_pos q (p.below + p.above), pos_times (d2 -ℤ d1) p.below, part_of d2 d1 p.below))

-- equal products put a delta on the line
pub line_from_products : (c1 d1 c2 d2 c d : ℤ) → c1 <ℤ c → c <ℤ c2 → (d -ℤ d1) *ℤ (c2 -ℤ c1) ≡ (c -ℤ c1) *ℤ (d2 -ℤ d1) → OnLine c1 d1 c2 d2 c d
line_from_products c1 d1 c2 d2 c d left right same =
    let back : d1 +ℤ (d -ℤ d1) ≡ d = omega (arith, ints) in
    subst (λ z. OnLine c1 d1 c2 d2 c z) back (line_from_step c1 d1 c2 d2 c (d -ℤ d1) left right same)

-- and each delta on the line is such a step away
pub step_from_line : (c1 d1 c2 d2 c d : ℤ) → c1 <ℤ c → c <ℤ c2 → OnLine c1 d1 c2 d2 c d → (d -ℤ d1) *ℤ (c2 -ℤ c1) ≡ (c -ℤ c1) *ℤ (d2 -ℤ d1)
step_from_line c1 d1 c2 d2 c d left right line =
    let p = distances c1 c2 c left right in
    let mean = mean_from_line c1 d1 c2 d2 c d p line in
    rw (p.from_low, p.whole)
    (omega (arith, ints, times_pos (d -ℤ d1) (p.below + p.above), part_of d d1 (p.below + p.above), pos_times (d2 -ℤ d1) p.below, part_of d2 d1 p.below))

-- a delta on the line lies between those of the references
pub line_is_fword : (c1 d1 c2 d2 c d : ℤ) → c1 <ℤ c → c <ℤ c2 → IsFWord d1 → IsFWord d2 → OnLine c1 d1 c2 d2 c d → IsFWord d
line_is_fword c1 d1 c2 d2 c d left right first second line =
    let p = distances c1 c2 c left right in
    let mean = mean_from_line c1 d1 c2 d2 c d p line in
    record {
      low = mean_at_least p.below p.above d1 d2 d (negsuc 32767) first.low second.low p.some mean;
      high = mean_at_most p.below p.above d1 d2 d (pos 32767) first.high second.high p.some mean;
    }

size_parts : (z : ℤ) → up z + down z ≡ unsigned_abs z
size_parts (pos n) = omega arith
size_parts (negsuc n) = omega arith

-- of two multiples less than one factor apart both are the same
small_rest : (q t r : ℤ) (k : ℕ) → unsigned_abs r < k → t *ℤ pos k +ℤ r ≡ q *ℤ pos k → r ≡ pos 0
small_rest q t r k small whole =
    let parts : up t * k + down q * k + up r ≡ down t * k + up q * k + down r = omega (arith, ints, times_pos t k, times_pos q k) in
    let below : (up t + down q) * k < (down t + up q + 1) * k = omega (arith, size_parts r) in
    let above : (down t + up q) * k < (up t + down q + 1) * k = omega (arith, size_parts r) in
    let level : up t + down q ≡ down t + up q =
    omega (arith, lt_of_mul-lt-mul_right k below, lt_of_mul-lt-mul_right k above) in
    same_in r (pos 0) (omega (arith, ap (λ n. n * k) level))

-- a multiple of a factor leaves no remainder
pub rest_of_multiple : (n f q : ℤ) → pos 0 <ℤ f → q *ℤ f ≡ n → int_rem n f ≡ pos 0
rest_of_multiple n (pos k) q some multiple =
    let small : unsigned_abs (int_rem n (pos k)) < k = rem_below n (pos k) (omega (arith, ints)) in
    small_rest q (int_div n (pos k)) (int_rem n (pos k)) k small (quot-rem n (pos k) ∙ sym multiple)
rest_of_multiple n (negsuc k) q some multiple = absurd (omega (arith, ints))

-- an answer on the line is the answer between, and the order of the references doesn't count for it either
pub answer_inside : (c1 d1 c2 d2 c : ℤ) (answer : Option ℤ) → c1 <ℤ c → c <ℤ c2 → MatchOption answer ((d : ℤ) → OnLine c1 d1 c2 d2 c d → ⊥) (OnLine c1 d1 c2 d2 c) → MatchOption answer ((d : ℤ) → Between c1 d1 c2 d2 c d → ⊥) (Between c1 d1 c2 d2 c)
answer_inside c1 d1 c2 d2 c None left right none = λ d between. none d (between.rising left right)
answer_inside c1 d1 c2 d2 c (Some d) left right line = between_inside c1 d1 c2 d2 c d left right line

pub answer_turned : (c1 d1 c2 d2 c : ℤ) (answer : Option ℤ) → MatchOption answer ((d : ℤ) → Between c2 d2 c1 d1 c d → ⊥) (Between c2 d2 c1 d1 c) → MatchOption answer ((d : ℤ) → Between c1 d1 c2 d2 c d → ⊥) (Between c1 d1 c2 d2 c)
answer_turned c1 d1 c2 d2 c None none = λ d between. none d (between_turned c2 d2 c1 d1 c d between)
answer_turned c1 d1 c2 d2 c (Some d) between = between_turned c1 d1 c2 d2 c d between
