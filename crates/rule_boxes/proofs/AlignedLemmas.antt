-- The ends of the area of a set stand where its conditions cut the axes.
use Rattle.std.proofs.Common.{◌≡◌, refl, sym, subst, inl, inr, ℕ, zero, suc, ◌+◌, ◌<◌, ℤ, pos, ◌+ℤ◌, ◌≤ℤ◌, Bool, true, List, [], ◌∷◌, length, get_or, set, take, replicate, arith, eq-eqb}
use Rattle.std.specs.Prelude.{int_le, int_lt, nat_eq, ◌&&◌, ◌||◌}
use Rattle.std.specs.List.{AllByRecursion, flat_map}
use Rattle.std.specs.Ordering.{int_eq}
use Rattle.std.proofs.lemmas.Int.{ints}
use Rattle.std.proofs.lemmas.Bool.{cases_Bool, and_from, or_left, or_right}
use Rattle.std.proofs.lemmas.Bool.Decides.{Decides-int_eq}
use Rattle.rule_boxes.specs.declared.area.Interval.{Interval}
use Rattle.rule_boxes.specs.declared.condition.Condition.{Condition}
use Rattle.rule_boxes.specs.Areas.{whole_axis, whole, no_interval, shared, interval_of, with_condition, with_conditions}
use Rattle.rule_boxes.specs.Grid.{conditions_of, turns_at, is_cut}
use Rattle.rule_boxes.proofs.AreaLemmas.{length_conditions}
use Rattle.rule_boxes.proofs.MergeLemmas.{each_front, each_back}
use Rattle.rule_boxes.proofs.WeightLemmas.{AlignedIf, AlignedFrom, SetAligned}

-- the axis of the condition is cut where the condition begins to hold and where it ceases to
pub record IsCutBy (test : ℕ → ℤ → Bool) (condition : Condition) : Type 0 where
  pub low : condition.low ≤ℤ condition.high → test condition.axis condition.low ≡ true
  pub high : condition.low ≤ℤ condition.high → test condition.axis (condition.high +ℤ pos 1) ≡ true

turns_low : (condition : Condition) → condition.low ≤ℤ condition.high → turns_at condition.axis condition.low condition ≡ true
turns_low condition some =
    and_from (nat_eq condition.axis condition.axis && int_le condition.low condition.high) (int_eq condition.low condition.low || int_eq condition.low (condition.high +ℤ pos 1))
    (and_from (nat_eq condition.axis condition.axis) (int_le condition.low condition.high) (eq-eqb condition.axis condition.axis refl) (grind (arith, ints)))
    (or_left (int_eq condition.low condition.low) (int_eq condition.low (condition.high +ℤ pos 1)) ((Decides-int_eq condition.low condition.low).1 refl))

turns_high : (condition : Condition) → condition.low ≤ℤ condition.high → turns_at condition.axis (condition.high +ℤ pos 1) condition ≡ true
turns_high condition some =
    let after = condition.high +ℤ pos 1 in
    and_from (nat_eq condition.axis condition.axis && int_le condition.low condition.high) (int_eq after condition.low || int_eq after after)
    (and_from (nat_eq condition.axis condition.axis) (int_le condition.low condition.high) (eq-eqb condition.axis condition.axis refl) (grind (arith, ints)))
    (or_right (int_eq after condition.low) (int_eq after after) ((Decides-int_eq after after).1 refl))

cut_later : (c : Condition) (cs conditions : List Condition) → AllByRecursion (IsCutBy (is_cut cs)) conditions → AllByRecursion (IsCutBy (is_cut (c ∷ cs))) conditions
cut_later c cs [] cut = tt
cut_later c cs (d ∷ conditions) cut = (
  record {
    low = λ some. or_right (turns_at d.axis d.low c) (is_cut cs d.axis d.low) (cut.0.low some);
    high = λ some. or_right (turns_at d.axis (d.high +ℤ pos 1) c) (is_cut cs d.axis (d.high +ℤ pos 1)) (cut.0.high some);
  },
  cut_later c cs conditions cut.1,
)

-- the conditions cut their axes
pub all_cut : (conditions : List Condition) → AllByRecursion (IsCutBy (is_cut conditions)) conditions
all_cut [] = tt
all_cut (c ∷ cs) = (
  record {
    low = λ some. or_left (turns_at c.axis c.low c) (is_cut cs c.axis c.low) (turns_low c some);
    high = λ some. or_left (turns_at c.axis (c.high +ℤ pos 1) c) (is_cut cs c.axis (c.high +ℤ pos 1)) (turns_high c some);
  },
  cut_later c cs cs (all_cut cs),
)

aligned_set : (test : ℕ → ℤ → Bool) (from axis number : ℕ) (area : List Interval) (interval : Interval) → number ≡ from + axis → AlignedFrom test from area → AlignedIf (test number) interval → AlignedFrom test from (set area axis interval)
aligned_set test from axis number [] interval is each here = tt
aligned_set test from zero number (i ∷ area) interval is each here =
    let same : number ≡ from = omega arith in
    (subst (λ (n : ℕ). AlignedIf (test n) interval) same here, each.1)
aligned_set test from (suc axis) number (i ∷ area) interval is each here = (each.0, aligned_set test (from + 1) axis number area interval (omega arith) each.1 here)

aligned_get : (test : ℕ → ℤ → Bool) (from axis number : ℕ) (area : List Interval) → axis < length area → number ≡ from + axis → AlignedFrom test from area → AlignedIf (test number) (get_or area axis no_interval)
aligned_get test from axis number [] here is each = absurd (omega arith)
aligned_get test from zero number (i ∷ area) here is each =
    let same : from ≡ number = omega arith in
    subst (λ (n : ℕ). AlignedIf (test n) i) same each.0
aligned_get test from (suc axis) number (i ∷ area) here is each = aligned_get test (from + 1) axis number area (omega arith) (omega arith) each.1

aligned_take : (test : ℕ → ℤ → Bool) (from axes : ℕ) (area : List Interval) → AlignedFrom test from area → AlignedFrom test from (take axes area)
aligned_take test from zero area each = tt
aligned_take test from (suc axes) [] each = tt
aligned_take test from (suc axes) (i ∷ area) each = (each.0, aligned_take test (from + 1) axes area each.1)

aligned_wholes : (test : ℕ → ℤ → Bool) (from axes : ℕ) → AlignedFrom test from (replicate axes whole_axis)
aligned_wholes test from zero = tt
aligned_wholes test from (suc axes) = (λ some. record { low = inl refl; high = inl refl }, aligned_wholes test (from + 1) axes)

-- what a condition and an interval share has its ends where one of them has
aligned_shared : (test : ℕ → ℤ → Bool) (condition : Condition) (old : Interval) → IsCutBy test condition → AlignedIf (test condition.axis) old → AlignedIf (test condition.axis) (shared (interval_of condition) old)
aligned_shared test condition old cut aligned some =
    let own_some : condition.low ≤ℤ condition.high = grind (arith, ints) in
    let old_some : old.low ≤ℤ old.high = grind (arith, ints) in
    let old_aligned = aligned old_some in
    record {
      low = elim (cases_Bool (int_lt old.low condition.low)) [ inl is ↦ rw is (inr (cut.low own_some)) | inr isnt ↦ rw isnt old_aligned.low ];
      high = elim (cases_Bool (int_lt old.high condition.high)) [ inl is ↦ rw is old_aligned.high | inr isnt ↦ rw isnt (inr (cut.high own_some)) ];
    }

aligned_conditions : (test : ℕ → ℤ → Bool) (area : List Interval) (set : List Condition) → AllByRecursion (IsCutBy test) set → AllByRecursion (λ condition. condition.axis < length area) set → AlignedFrom test 0 area → AlignedFrom test 0 (with_conditions area set)
aligned_conditions test area [] cut on_axes aligned = aligned
aligned_conditions test area (c ∷ cs) cut on_axes aligned =
    let old = get_or area c.axis no_interval in
    let here = aligned_shared test c old cut.0 (aligned_get test 0 c.axis c.axis area on_axes.0 (omega arith) aligned) in
    let kept : length area ≡ length (with_condition area c) = sym (length_conditions area (c ∷ [])) in
    aligned_conditions test (with_condition area c) cs cut.1 (subst (λ (n : ℕ). AllByRecursion (λ condition. condition.axis < n) cs) kept on_axes.1)
    (aligned_set test 0 c.axis c.axis area (shared (interval_of c) old) (omega arith) aligned here)

-- the area of a set whose conditions cut their axes
pub aligned_area : (test : ℕ → ℤ → Bool) (axes : ℕ) (set : List Condition) → AllByRecursion (IsCutBy test) set → AllByRecursion (λ condition. condition.axis < 8) set → SetAligned test axes set
aligned_area test axes set cut on_axes = aligned_take test 0 axes (with_conditions whole set) (aligned_conditions test whole set cut on_axes (aligned_wholes test 0 8))

aligned_sets : (test : ℕ → ℤ → Bool) (axes : ℕ) (sets : List (List Condition)) → AllByRecursion (IsCutBy test) (flat_map (λ set. set) sets) → AllByRecursion (λ set. AllByRecursion (λ condition. condition.axis < 8) set) sets → AllByRecursion (SetAligned test axes) sets
aligned_sets test axes [] cut on_axes = tt
aligned_sets test axes (set ∷ sets) cut on_axes =
    (aligned_area test axes set (each_front (IsCutBy test) set (flat_map (λ set. set) sets) cut) on_axes.0, aligned_sets test axes sets (each_back (IsCutBy test) set (flat_map (λ set. set) sets) cut) on_axes.1)

-- the areas of all sets of rules
pub aligned_rules : (test : ℕ → ℤ → Bool) (axes : ℕ) (rules : List (List (List Condition))) → AllByRecursion (IsCutBy test) (conditions_of rules) → AllByRecursion (λ sets. AllByRecursion (λ set. AllByRecursion (λ condition. condition.axis < 8) set) sets) rules
    → AllByRecursion (λ sets. AllByRecursion (SetAligned test axes) sets) rules
aligned_rules test axes [] cut on_axes = tt
aligned_rules test axes (sets ∷ rules) cut on_axes =
    let first = flat_map (λ set. set) sets in
    (aligned_sets test axes sets (each_front (IsCutBy test) first (conditions_of rules) cut) on_axes.0, aligned_rules test axes rules (each_back (IsCutBy test) first (conditions_of rules) cut) on_axes.1)
