-- The longest run of one class that begins a list, by the number of first values in that class.
use Rattle.std.proofs.Common.{◌≡◌, ℕ, ◌<◌, ◌≤◌, List, length, take, drop, get_or, All, Bool, true, false, refl, sym, ap, subst, ◌∙◌, inl, inr, arith, length-take, drop-cons}
use Rattle.std.specs.List.{prefix_len}
use Rattle.std.proofs.lemmas.List.{take-append-drop, get_or-take, drop_all}
use Rattle.std.proofs.lemmas.List.Sums.{prefix_len-le-length, prefix_len_passes, prefix_len_stops}
use Rattle.std.proofs.lemmas.Bool.{false≢true, cases_lt}
use Rattle.variation_rules.specs.declared.runs.DeltaClass.{DeltaClass}
use Rattle.variation_rules.specs.declared.runs.DeltaClass.TheVariants as delta
use Rattle.variation_rules.specs.declared.runs.PointClass.{PointClass}
use Rattle.variation_rules.specs.declared.runs.PointClass.TheVariants as point
use Rattle.packed.specs.Classes.{same_delta_class, same_point_class}
use Rattle.packed.specs.FirstRun.{GoesOn, BeginsWithRun}

-- the Bool tells whether two classes are equal
pub record TellsSame {C : Type 0} (same : C → C → Bool) : Type 0 where
  pub true_is : (a b : C) → same a b ≡ true → a ≡ b
  pub itself : (a : C) → same a a ≡ true

same_deltas : (a b : DeltaClass) → same_delta_class a b ≡ true → a ≡ b
same_deltas delta.Zeros delta.Zeros h = refl
same_deltas delta.Zeros delta.Bytes h = cc
same_deltas delta.Zeros delta.Words h = cc
same_deltas delta.Bytes delta.Zeros h = cc
same_deltas delta.Bytes delta.Bytes h = refl
same_deltas delta.Bytes delta.Words h = cc
same_deltas delta.Words delta.Zeros h = cc
same_deltas delta.Words delta.Bytes h = cc
same_deltas delta.Words delta.Words h = refl

delta_itself : (a : DeltaClass) → same_delta_class a a ≡ true
delta_itself delta.Zeros = refl
delta_itself delta.Bytes = refl
delta_itself delta.Words = refl

same_points : (a b : PointClass) → same_point_class a b ≡ true → a ≡ b
same_points point.Bytes point.Bytes h = refl
same_points point.Bytes point.Words h = cc
same_points point.Words point.Bytes h = cc
same_points point.Words point.Words h = refl

point_itself : (a : PointClass) → same_point_class a a ≡ true
point_itself point.Bytes = refl
point_itself point.Words = refl

pub tells_deltas : TellsSame same_delta_class
tells_deltas = record { true_is = same_deltas; itself = delta_itself }

pub tells_points : TellsSame same_point_class
tells_points = record { true_is = same_points; itself = point_itself }

-- each value is of the class
abbrev pub AreOwn : {X C : Type 0} → (X → C) → C → List X → Type 0
AreOwn class_of class values = All (λ value. class_of value ≡ class) values

module _ {X C : Type 0} (class_of : X → C) (same : C → C → Bool) (longest : ℕ) where
  -- whether a value is of the class
  abbrev in_class : C → X → Bool
  in_class class value = same (class_of value) class

  -- as many first values as are of the class, up to a whole run
  abbrev pub count_in : C → List X → ℕ
  count_in class values = prefix_len (in_class class) (take longest values)

  pub count_bounds : (class : C) (values : List X) → (count_in class values ≤ length values) × (count_in class values ≤ longest)
  count_bounds class values =
      let within = prefix_len-le-length (in_class class) (take longest values) in
      (omega (arith, within, length-take longest values), omega (arith, within, length-take longest values))

  -- a counted value is the same in the list, in its first values and in the counted ones
  counted_at : (class : C) (values : List X) (k : ℕ) (d : X) → k < count_in class values → get_or (take longest values) k d ≡ get_or (take (count_in class values) values) k d
  counted_at class values k d before =
      let bounds = count_bounds class values in
      get_or-take longest values k d (omega arith) ∙ sym (get_or-take (count_in class values) values k d before)

  -- the first value is of its own class
  some_in : TellsSame same → 0 < longest → (class : C) (values : List X) (d : X) → 0 < length values → class ≡ class_of (get_or values 0 d) → 0 < count_in class values
  some_in tells room class values d some e =
      let here = get_or-take longest values 0 d room in
      let own : in_class class (get_or values 0 d) ≡ true = subst (λ (k : C). in_class k (get_or values 0 d) ≡ true) (sym e) (tells.itself (class_of (get_or values 0 d))) in
      elim (cases_lt 0 (count_in class values)) [
        | inl is_some ↦ is_some
        | inr none ↦
            let zero_is : count_in class values ≡ 0 = omega arith in
            let fails = prefix_len_stops (in_class class) (take longest values) d (omega (arith, length-take longest values)) in
            let at_zero : in_class class (get_or (take longest values) 0 d) ≡ false = subst (λ (n : ℕ). in_class class (get_or (take longest values) n d) ≡ false) zero_is fails in
            let other : in_class class (get_or values 0 d) ≡ false = subst (λ (value : X). in_class class value ≡ false) here at_zero in
            absurd (false≢true (sym other ∙ own))
      ]

  -- each counted value is of the class
  own_in : TellsSame same → (class : C) (values : List X) → AreOwn class_of class (take (count_in class values) values)
  own_in tells class values k d h =
      let before : k < count_in class values = omega (arith, length-take (count_in class values) values) in
      let passes = prefix_len_passes (in_class class) (take longest values) k d before in
      tells.true_is _ _ (subst (λ (value : X). in_class class value ≡ true) (counted_at class values k d before) passes)

  -- the value after the counted ones, where there is one and the run isn't full, is of another class
  stops : TellsSame same → (class : C) (values : List X) (d : X) → count_in class values < longest → count_in class values < length values → GoesOn class_of class (drop (count_in class values) values) → ⊥
  stops tells class values d below inside goes =
      let next : X = get_or values (count_in class values) d in
      let here = get_or-take longest values (count_in class values) d below in
      let fails = prefix_len_stops (in_class class) (take longest values) d (omega (arith, length-take longest values)) in
      let other : in_class class next ≡ false = subst (λ (value : X). in_class class value ≡ false) here fails in
      let first : class_of next ≡ class = subst (GoesOn class_of class) (drop-cons values (count_in class values) d inside) goes in
      let own : in_class class next ≡ true = subst (λ (k : C). same (class_of next) k ≡ true) first (tells.itself (class_of next)) in
      absurd (false≢true (sym other ∙ own))

  -- where a value of the class follows, the run is full
  full_in : TellsSame same → (class : C) (values : List X) (d : X) → GoesOn class_of class (drop (count_in class values) values) → length (take (count_in class values) values) ≡ longest
  full_in tells class values d goes =
      let bounds = count_bounds class values in
      let taken = length-take (count_in class values) values in
      elim (cases_lt (count_in class values) longest) [
        | inl below ↦
            elim (cases_lt (count_in class values) (length values)) [
              | inl inside ↦ absurd (stops tells class values d below inside goes)
              | inr outside ↦ absurd (subst (GoesOn class_of class) (drop_all (count_in class values) values outside) goes)
            ]
        | inr full ↦ omega arith
      ]

  -- the values counted in the class of the first one are the first run
  counted_run : TellsSame same → 0 < longest → (class : C) (values : List X) (d : X) → 0 < length values → class ≡ class_of (get_or values 0 d) → BeginsWithRun class_of longest class (take (count_in class values) values) (drop (count_in class values) values) values
  counted_run tells room class values d some first =
      let bounds = count_bounds class values in
      let taken = length-take (count_in class values) values in
      record {
        whole = sym (take-append-drop (count_in class values) values);
        some = omega (arith, some_in tells room class values d some first);
        few = omega arith;
        own = own_in tells class values;
        long = full_in tells class values d;
      }

  -- the same of what `split_at` gives at their number
  pub first_run : TellsSame same → 0 < longest → (class : C) (run after values : List X) (n : ℕ) (d : X) → 0 < length values → class ≡ class_of (get_or values 0 d) → n ≡ count_in class values → run ≡ take n values → after ≡ drop n values → BeginsWithRun class_of longest class run after values
  first_run tells room class run after values n d some first count prefix back =
      let prefix_is : take (count_in class values) values ≡ run = sym (prefix ∙ ap (λ k. take k values) count) in
      let back_is : drop (count_in class values) values ≡ after = sym (back ∙ ap (λ k. drop k values) count) in
      let begins = counted_run tells room class values d some first in
      let with_run = subst (λ (r : List X). BeginsWithRun class_of longest class r (drop (count_in class values) values) values) prefix_is begins in
      subst (λ (a : List X). BeginsWithRun class_of longest class run a values) back_is with_run
