-- The intervals that cuts make of an axis, and what a cut at an end of a set's interval parts them into.
use Rattle.std.proofs.Common.{◌≡◌, refl, sym, ◌∙◌, ap, inl, inr, ℕ, zero, suc, ◌+◌, ◌≤◌, ℤ, pos, neg_ℤ, ◌+ℤ◌, ◌-ℤ◌, ◌≤ℤ◌, ◌<ℤ◌, ◌⊎◌, Bool, true, false, cond, Option, Some, None, arith, zero-add}
use Rattle.std.specs.Prelude.{int_lt, unsigned_abs}
use Rattle.std.specs.Int.{int_min, int_max}
use Rattle.std.proofs.lemmas.Int.{ints}
use Rattle.std.proofs.lemmas.Bool.{cases_Bool}
use Rattle.rule_boxes.specs.declared.area.Interval.{Interval}
use Rattle.rule_boxes.specs.Areas.{shared, below, above}
use Rattle.rule_boxes.specs.Grid.{cuts_after}
use Rattle.rule_boxes.specs.Merging.{IsFine}
use Rattle.rule_boxes.proofs.IntervalLemmas.{Share}

-- how many values there are after the low end
abbrev pub size_of : Interval → ℕ
size_of interval = unsigned_abs (interval.high -ℤ interval.low)

-- the intervals that cuts make of this one
pub share : (ℤ → Bool) → Interval → ℕ
share test interval = suc (cuts_after test interval.low (size_of interval))

abbrev pub share_part : (ℤ → Bool) → Option Interval → ℕ
share_part test None = 0
share_part test (Some interval) = share test interval

pub share_some : (test : ℤ → Bool) (interval : Interval) → 1 ≤ share test interval
unfolding share
share_some test interval = omega arith

pub share_is : (test : ℤ → Bool) (interval : Interval) → share test interval ≡ suc (cuts_after test interval.low (size_of interval))
unfolding share
share_is test interval = refl

pub cuts_none : (test : ℤ → Bool) (from : ℤ) (count : ℕ) → ((value : ℤ) → test value ≡ false) → cuts_after test from count ≡ 0
unfolding cuts_after
cuts_none test from zero none = refl
cuts_none test from (suc count) none =
    (λ k. cond (none (from +ℤ pos 1) k) 1 0 + cuts_none test (from +ℤ pos 1) count none k)

cuts_zero : (test : ℤ → Bool) (from : ℤ) → cuts_after test from 0 ≡ 0
unfolding cuts_after
cuts_zero test from = refl

cuts_suc : (test : ℤ → Bool) (from : ℤ) (count : ℕ) → cuts_after test from (suc count) ≡ cond (test (from +ℤ pos 1)) 1 0 + cuts_after test (from +ℤ pos 1) count
unfolding cuts_after
cuts_suc test from count = refl

-- a cut among the values
cut_add : (test : ℤ → Bool) (from c : ℤ) (total n m : ℕ) → total ≡ n + suc m → c ≡ from +ℤ pos (n + 1) → test c ≡ true → cuts_after test from total ≡ cuts_after test from n + suc (cuts_after test c m)
cut_add test from c zero n m count at cut = absurd (omega arith)
cut_add test from c (suc total) zero m count at cut =
    let here : from +ℤ pos 1 ≡ c = omega (arith, ints) in
    let left : total ≡ m = omega arith in
    let one : Bool → ℕ = λ b. cond b 1 0 in
    let now : one (test (from +ℤ pos 1)) ≡ 1 = ap (λ (v : ℤ). one (test v)) here ∙ ap one cut in
    let rest : cuts_after test (from +ℤ pos 1) total ≡ cuts_after test c m = λ k. cuts_after test (here k) (left k) in
    omega (arith, cuts_suc test from total, cuts_zero test from, now, rest)
cut_add test from c (suc total) (suc n) m count at cut =
    let rest = cut_add test (from +ℤ pos 1) c total n m (omega arith) (omega (arith, ints)) cut in
    omega (arith, cuts_suc test from total, cuts_suc test from n, rest)

-- an interval cut in two
share_split : (test : ℤ → Bool) (low c high : ℤ) → low <ℤ c → c ≤ℤ high → test c ≡ true
    → share test (record { low = low; high = c -ℤ pos 1 }) + share test (record { low = c; high = high }) ≡ share test (record { low = low; high = high })
unfolding share
share_split test low c high above within cut =
    let n = unsigned_abs ((c -ℤ pos 1) -ℤ low) in
    let m = unsigned_abs (high -ℤ c) in
    let count : unsigned_abs (high -ℤ low) ≡ n + suc m = omega (arith, ints) in
    let at : c ≡ low +ℤ pos (n + 1) = omega (arith, ints) in
    omega (arith, cut_add test low c (unsigned_abs (high -ℤ low)) n m count at cut)

-- Each end of the interval is an end of the axis, or cut.
pub record IsAligned (test : ℤ → Bool) (set : Interval) : Type 0 where
  pub low : (set.low ≡ neg_ℤ (pos 16384)) ⊎ (test set.low ≡ true)
  pub high : (set.high ≡ pos 16384) ⊎ (test (set.high +ℤ pos 1) ≡ true)

cut_low : (test : ℤ → Bool) (set : Interval) (value : ℤ) → IsAligned test set → neg_ℤ (pos 16384) ≤ℤ value → value <ℤ set.low → test set.low ≡ true
cut_low test set value aligned low out = elim aligned.low [ inl end ↦ absurd (omega (arith, ints)) | inr cut ↦ cut ]

cut_high : (test : ℤ → Bool) (set : Interval) (value : ℤ) → IsAligned test set → value ≤ℤ pos 16384 → set.high <ℤ value → test (set.high +ℤ pos 1) ≡ true
cut_high test set value aligned high out = elim aligned.high [ inl end ↦ absurd (omega (arith, ints)) | inr cut ↦ cut ]

-- the values from the set's low end on
abbrev from_low : Interval → Interval → Interval
from_low set interval = record { low = int_max set.low interval.low; high = interval.high }

shares_low : (test : ℤ → Bool) (s b : Interval) → IsAligned test s → IsFine b → Share s b → share_part test (below s b) + share test (from_low s b) ≡ share test b
shares_low test s b aligned fine shared_some = elim (cases_Bool (int_lt b.low s.low)) [
  | inl is ↦
      let low = fine.low in
      let some = shared_some.some in
      let out : b.low <ℤ s.low = grind (arith, ints) in
      let within : s.low ≤ℤ b.high = grind (arith, ints) in
      rw is (share_split test b.low s.low b.high out within (cut_low test s b.low aligned low out))
  | inr isnt ↦ rw isnt (omega arith)
]

shares_high : (test : ℤ → Bool) (s b : Interval) → IsAligned test s → IsFine b → Share s b → share_part test (above s b) + share test (shared s b) ≡ share test (from_low s b)
shares_high test s b aligned fine shared_some = elim (cases_Bool (int_lt s.high b.high)) [
  | inl is ↦
      let high = fine.high in
      let some = shared_some.some in
      let low = int_max s.low b.low in
      let out : s.high <ℤ b.high = grind (arith, ints) in
      let above_low : low <ℤ (s.high +ℤ pos 1) = grind (arith, ints) in
      let within : (s.high +ℤ pos 1) ≤ℤ b.high = omega (arith, ints) in
      let least : int_min s.high b.high ≡ s.high = grind (arith, ints) in
      let back : (s.high +ℤ pos 1) -ℤ pos 1 ≡ s.high = omega (arith, ints) in
      let parts = share_split test low (s.high +ℤ pos 1) b.high above_low within (cut_high test s b.high aligned high out) in
      let first : share test (record { low = low; high = (s.high +ℤ pos 1) -ℤ pos 1 }) ≡ share test (shared s b) = ap (λ (h : ℤ). share test (record { low = low; high = h })) (back ∙ sym least) in
      rw is (omega (arith, parts, first))
  | inr isnt ↦
      let least : int_min s.high b.high ≡ b.high = grind (arith, ints) in
      rw isnt (zero-add (share test (shared s b)) ∙ ap (λ (h : ℤ). share test (record { low = int_max s.low b.low; high = h })) least)
]

-- the parts of an interval have as many intervals as it has
pub shares : (test : ℤ → Bool) (s b : Interval) → IsAligned test s → IsFine b → Share s b
    → share_part test (below s b) + (share_part test (above s b) + share test (shared s b)) ≡ share test b
shares test s b aligned fine shared_some =
    omega (arith, shares_low test s b aligned fine shared_some, shares_high test s b aligned fine shared_some)
