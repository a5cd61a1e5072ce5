-- One axis: what a set's interval makes of an interval that it shares values with.
use Rattle.std.proofs.Common.{◌≡◌, refl, ℤ, ◌≤ℤ◌, ◌<ℤ◌, Bool, true, false, ◌⊎◌, inl, inr, List, [], ◌++◌, Option, Some, None, arith}
use Rattle.std.specs.Prelude.{int_le, ◌&&◌, not}
use Rattle.std.proofs.lemmas.Int.{ints}
use Rattle.rule_boxes.specs.declared.area.Interval.{Interval}
use Rattle.rule_boxes.specs.Areas.{in_interval, shared, below, above}
use Rattle.rule_boxes.specs.Merging.{given, IsFine}

pub le_tells : (a b : ℤ) → ((int_le a b ≡ true) × (a ≤ℤ b)) ⊎ ((int_le a b ≡ false) × (b <ℤ a))
le_tells a b = grind (arith, ints)

-- whether the interval, where there is one, has the value
abbrev pub in_part : Option Interval → ℤ → Bool
in_part None value = false
in_part (Some interval) value = in_interval interval value

-- A value in an interval: whether it is in the set's, in the parts below and above that, and in what they share.
pub record Tells (whole set low high within : Bool) : Type 0 where
  pub parts : ((whole ≡ false) × (low ≡ false) × (high ≡ false) × (within ≡ false))
      ⊎ (((whole ≡ true) × (set ≡ true) × (low ≡ false) × (high ≡ false) × (within ≡ true))
      ⊎ (((whole ≡ true) × (set ≡ false) × (low ≡ true) × (high ≡ false) × (within ≡ false))
      ⊎ ((whole ≡ true) × (set ≡ false) × (low ≡ false) × (high ≡ true) × (within ≡ false))))

-- the two intervals have a value in common
pub record Share (set interval : Interval) : Type 0 where
  pub some : int_le (shared set interval).low (shared set interval).high ≡ true

in_true : (interval : Interval) (value : ℤ) → interval.low ≤ℤ value → value ≤ℤ interval.high → in_interval interval value ≡ true
in_true interval value low high = grind (arith, ints)

in_false_low : (interval : Interval) (value : ℤ) → value <ℤ interval.low → in_interval interval value ≡ false
in_false_low interval value low = grind (arith, ints)

in_false_high : (interval : Interval) (value : ℤ) → interval.high <ℤ value → in_interval interval value ≡ false
in_false_high interval value high = grind (arith, ints)

tells_low : (s b : Interval) (v : ℤ) → Share s b → v <ℤ b.low → Tells (in_interval b v) (in_interval s v) (in_part (below s b) v) (in_part (above s b) v) (in_interval (shared s b) v)
tells_low s b v share out = let some = share.some in record { parts = inl (grind (arith, ints), grind (arith, ints), grind (arith, ints), grind (arith, ints)) }

tells_high : (s b : Interval) (v : ℤ) → Share s b → b.high <ℤ v → Tells (in_interval b v) (in_interval s v) (in_part (below s b) v) (in_part (above s b) v) (in_interval (shared s b) v)
tells_high s b v share out = let some = share.some in record { parts = inl (grind (arith, ints), grind (arith, ints), grind (arith, ints), grind (arith, ints)) }

tells_within : (s b : Interval) (v : ℤ) → b.low ≤ℤ v → v ≤ℤ b.high → s.low ≤ℤ v → v ≤ℤ s.high → Tells (in_interval b v) (in_interval s v) (in_part (below s b) v) (in_part (above s b) v) (in_interval (shared s b) v)
tells_within s b v low high from to = record { parts = inr (inl (grind (arith, ints), grind (arith, ints), grind (arith, ints), grind (arith, ints), grind (arith, ints))) }

tells_below : (s b : Interval) (v : ℤ) → Share s b → b.low ≤ℤ v → v ≤ℤ b.high → v <ℤ s.low → Tells (in_interval b v) (in_interval s v) (in_part (below s b) v) (in_part (above s b) v) (in_interval (shared s b) v)
tells_below s b v share low high out = let some = share.some in record { parts = inr (inr (inl (grind (arith, ints), grind (arith, ints), grind (arith, ints), grind (arith, ints), grind (arith, ints)))) }

tells_above : (s b : Interval) (v : ℤ) → Share s b → b.low ≤ℤ v → v ≤ℤ b.high → s.low ≤ℤ v → s.high <ℤ v → Tells (in_interval b v) (in_interval s v) (in_part (below s b) v) (in_part (above s b) v) (in_interval (shared s b) v)
tells_above s b v share low high from out = let some = share.some in record { parts = inr (inr (inr (grind (arith, ints), grind (arith, ints), grind (arith, ints), grind (arith, ints), grind (arith, ints)))) }

pub tells : (s b : Interval) (v : ℤ) → Share s b → Tells (in_interval b v) (in_interval s v) (in_part (below s b) v) (in_part (above s b) v) (in_interval (shared s b) v)
tells s b v share = elim (le_tells b.low v) [
  | inr out ↦ tells_low s b v share out.1
  | inl low ↦ elim (le_tells v b.high) [
    | inr out ↦ tells_high s b v share out.1
    | inl high ↦ elim (le_tells s.low v) [
      | inr out ↦ tells_below s b v share low.1 high.1 out.1
      | inl from ↦ elim (le_tells v s.high) [
        | inr out ↦ tells_above s b v share low.1 high.1 from.1 out.1
        | inl to ↦ tells_within s b v low.1 high.1 from.1 to.1
      ]
    ]
  ]
]

-- what two intervals share has the values of both
pub shared_law : (a b : Interval) (v : ℤ) → in_interval (shared a b) v ≡ (in_interval a v && in_interval b v)
shared_law a b v = elim (le_tells a.low v) [
  | inr out ↦ grind (arith, ints, out.1)
  | inl low ↦ elim (le_tells v a.high) [
    | inr out ↦ grind (arith, ints, out.1, low.1)
    | inl high ↦ grind (arith, ints, low.1, high.1)
  ]
]

-- two intervals with a value in common share one
pub share_from : (s b : Interval) (v : ℤ) → in_interval b v ≡ true → in_interval s v ≡ true → Share s b
share_from s b v in_b in_s = record { some = grind (arith, ints) }

last_part : (o : Bool) (rules : List Bool) → given o rules ++ [] ≡ given o rules
last_part true rules = refl
last_part false rules = refl

-- the parts of a zone have, one or another, what the zone has outside the set
pub join : (whole set low high within others rest : Bool) (rules : List Bool) → Tells whole set low high within
    → (given (low && others) rules ++ given (high && others) rules) ++ given ((within && others) && not rest) rules ≡ given ((whole && others) && not (set && rest)) rules
join whole set low high within others rest rules told = elim told.parts [
  | inl e ↦ simp (e.0, e.1, e.2, e.3)
  | inr (inl e) ↦ simp (e.0, e.1, e.2, e.3, e.4)
  | inr (inr (inl e)) ↦ simp (e.0, e.1, e.2, e.3, e.4) (kept others rules)
  | inr (inr (inr e)) ↦ simp (e.0, e.1, e.2, e.3, e.4) (kept_high others rules)
] where
  kept : (o : Bool) (rules : List Bool) → (given o rules ++ []) ++ [] ≡ given (o && true) rules
  kept true rules = refl
  kept false rules = refl

  kept_high : (o : Bool) (rules : List Bool) → given o rules ++ [] ≡ given (o && true) rules
  kept_high true rules = refl
  kept_high false rules = refl

-- what is within has what the zone and the set have
pub within_both : (whole set low high within others rest : Bool) → Tells whole set low high within → ((within && others) && rest) ≡ ((whole && others) && (set && rest))
within_both whole set low high within others rest told = elim told.parts [
  | inl e ↦ simp (e.0, e.1, e.2, e.3)
  | inr (inl e) ↦ simp (e.0, e.1, e.2, e.3, e.4)
  | inr (inr (inl e)) ↦ simp (e.0, e.1, e.2, e.3, e.4) (none others)
  | inr (inr (inr e)) ↦ simp (e.0, e.1, e.2, e.3, e.4) (none others)
] where
  none : (o : Bool) → false ≡ (o && false)
  none true = refl
  none false = refl

-- parts of a fine interval are fine
pub fine_shared : (s b : Interval) → Share s b → IsFine b → IsFine (shared s b)
fine_shared s b share fine = let some = share.some in let record { low = l; some = m; high = h } = fine in record { low = grind (arith, ints); some = grind (arith, ints); high = grind (arith, ints) }
