-- Two areas that are equal but for one axis, on which they adjoin, are one area together.
use Rattle.std.proofs.Common.{◌≡◌, refl, sym, ◌∙◌, ap, inl, inr, ℕ, zero, suc, ℤ, pos, ◌+ℤ◌, Bool, true, false, List, [], ◌∷◌, length, drop, arith}
use Rattle.std.specs.Prelude.{int_le, ◌&&◌, ◌||◌}
use Rattle.std.specs.List.{AllByRecursion}
use Rattle.std.specs.Ordering.{int_eq}
use Rattle.std.specs.Int.{int_min, int_max}
use Rattle.std.specs.Cmp.Lexicographic.{pointwise, pointwise_decides}
use Rattle.std.specs.Cmp.{booleans_Decides}
use mathlib.Core.Bool.{beq}
use Rattle.std.proofs.lemmas.Int.{ints}
use Rattle.std.proofs.lemmas.Bool.{and_parts, cases_Bool, or_cases, false≢true}
use Rattle.std.proofs.lemmas.Bool.Decides.{Decides-int_eq}
use Rattle.rule_boxes.specs.declared.area.Interval.{Interval}
use Rattle.rule_boxes.specs.declared.area.Zone.{Zone}
use Rattle.rule_boxes.specs.Areas.{whole, in_interval, has}
use Rattle.rule_boxes.specs.Merging.{is_same, adjoins, hull, hulls, are_same, are_joint, can_join, joined, IsFine, IsFineZone, IsWholeAfter}
use Rattle.rule_boxes.proofs.IntervalLemmas.{le_tells}

pub same_flags : (a b : List Bool) → pointwise beq a b ≡ true → a ≡ b
same_flags a b same = (pointwise_decides {E = beq} booleans_Decides a b).0 same

pub same_interval : (a b : Interval) → is_same a b ≡ true → a ≡ b
same_interval a b same =
    let parts = and_parts (int_eq a.low b.low) (int_eq a.high b.high) same in
    let low : a.low ≡ b.low = (Decides-int_eq a.low b.low).0 parts.0 in
    let high : a.high ≡ b.high = (Decides-int_eq a.high b.high).0 parts.1 in
    λ k. record { low = low k; high = high k }

pub same_areas : (a b : List Interval) → length a ≡ length b → are_same a b ≡ true → a ≡ b
same_areas [] [] long same = refl
same_areas [] (j ∷ b) long same = absurd (omega arith)
same_areas (i ∷ a) [] long same = absurd (omega arith)
same_areas (i ∷ a) (j ∷ b) long same =
    let parts = and_parts (is_same i j) (are_same a b) same in
    λ k. same_interval i j parts.0 k ∷ same_areas a b (omega arith) parts.1 k

hull_itself : (i : Interval) → hull i i ≡ i
hull_itself i =
    let low : int_min i.low i.low ≡ i.low = grind (arith, ints) in
    let high : int_max i.high i.high ≡ i.high = grind (arith, ints) in
    λ k. record { low = low k; high = high k }

hulls_itself : (a : List Interval) → hulls a a ≡ a
hulls_itself [] = refl
hulls_itself (i ∷ a) = λ k. hull_itself i k ∷ hulls_itself a k

-- of two intervals of which the second begins right after the first
hull_next : (i j : Interval) (v : ℤ) → IsFine i → IsFine j → adjoins i j ≡ true → in_interval (hull i j) v ≡ (in_interval i v || in_interval j v)
hull_next i j v i_fine j_fine next =
    let i_some = i_fine.some in
    let j_some = j_fine.some in
    let at : i.high +ℤ pos 1 ≡ j.low = (Decides-int_eq (i.high +ℤ pos 1) j.low).0 next in
    let low : int_min i.low j.low ≡ i.low = grind (arith, ints) in
    let high : int_max i.high j.high ≡ j.high = grind (arith, ints) in
    ap (λ (l : ℤ). int_le l v && int_le v (int_max i.high j.high)) low ∙ (ap (λ (h : ℤ). int_le i.low v && int_le v h) high
    ∙ elim (le_tells i.low v) [
      | inr out ↦ grind (arith, ints, out.1)
      | inl from ↦ elim (le_tells v i.high) [
        | inl to ↦ grind (arith, ints, from.1, to.1)
        | inr over ↦ elim (le_tells v j.high) [ inl to ↦ grind (arith, ints, from.1, over.1, to.1) | inr out ↦ grind (arith, ints, from.1, over.1, out.1) ]
      ]
    ])

hull_before : (i j : Interval) (v : ℤ) → IsFine i → IsFine j → adjoins j i ≡ true → in_interval (hull i j) v ≡ (in_interval i v || in_interval j v)
hull_before i j v i_fine j_fine next =
    let i_some = i_fine.some in
    let j_some = j_fine.some in
    let at : j.high +ℤ pos 1 ≡ i.low = (Decides-int_eq (j.high +ℤ pos 1) i.low).0 next in
    let low : int_min i.low j.low ≡ j.low = grind (arith, ints) in
    let high : int_max i.high j.high ≡ i.high = grind (arith, ints) in
    ap (λ (l : ℤ). int_le l v && int_le v (int_max i.high j.high)) low ∙ (ap (λ (h : ℤ). int_le j.low v && int_le v h) high
    ∙ elim (le_tells j.low v) [
      | inr out ↦ grind (arith, ints, out.1)
      | inl from ↦ elim (le_tells v j.high) [
        | inl to ↦ grind (arith, ints, from.1, to.1)
        | inr over ↦ elim (le_tells v i.high) [ inl to ↦ grind (arith, ints, from.1, over.1, to.1) | inr out ↦ grind (arith, ints, from.1, over.1, out.1) ]
      ]
    ])

or_and : (a b r : Bool) → ((a || b) && r) ≡ ((a && r) || (b && r))
or_and true true true = refl
or_and true true false = refl
or_and true false true = refl
or_and true false false = refl
or_and false true r = refl
or_and false false r = refl

and_or : (a x y : Bool) → (a && (x || y)) ≡ ((a && x) || (a && y))
and_or true x y = refl
and_or false x y = refl

pub joint_has : (a b : List Interval) (at : List ℤ) → length a ≡ length b → AllByRecursion IsFine a → AllByRecursion IsFine b → are_joint a b ≡ true → has (hulls a b) at ≡ (has a at || has b at)
joint_has [] b at long a_fine b_fine joint = absurd (false≢true joint)
joint_has (i ∷ a) [] at long a_fine b_fine joint = absurd (false≢true joint)
joint_has (i ∷ a) (j ∷ b) [] long a_fine b_fine joint = refl
joint_has (i ∷ a) (j ∷ b) (v ∷ at) long a_fine b_fine joint = elim (cases_Bool (is_same i j)) [
  | inl same ↦
      let rest : are_joint a b ≡ true = rw same at joint in
      let equal : i ≡ j = same_interval i j same in
      let one : in_interval (hull i j) v ≡ in_interval i v = ap (λ (x : Interval). in_interval (hull i x) v) (sym equal) ∙ ap (λ (x : Interval). in_interval x v) (hull_itself i) in
      (λ k. one k && joint_has a b at (omega arith) a_fine.1 b_fine.1 rest k)
      ∙ (and_or (in_interval i v) (has a at) (has b at) ∙ ap (λ (x : Interval). (in_interval i v && has a at) || (in_interval x v && has b at)) equal)
  | inr other ↦
      let parts = and_parts (adjoins i j || adjoins j i) (are_same a b) (rw other at joint) in
      let equal : a ≡ b = same_areas a b (omega arith) parts.1 in
      let rest : has (hulls a b) at ≡ has a at = ap (λ (x : List Interval). has (hulls a x) at) (sym equal) ∙ ap (λ (x : List Interval). has x at) (hulls_itself a) in
      let first : in_interval (hull i j) v ≡ (in_interval i v || in_interval j v) = elim (or_cases (adjoins i j) (adjoins j i) parts.0) [
        | inl next ↦ hull_next i j v a_fine.0 b_fine.0 next
        | inr before ↦ hull_before i j v a_fine.0 b_fine.0 before
      ] in
      (λ k. first k && rest k)
      ∙ (or_and (in_interval i v) (in_interval j v) (has a at) ∙ ap (λ (x : List Interval). (in_interval i v && has a at) || (in_interval j v && has x at)) equal)
]

length_hulls : (a b : List Interval) → length (hulls a b) ≡ length a
length_hulls [] b = refl
length_hulls (i ∷ a) [] = refl
length_hulls (i ∷ a) (j ∷ b) = ap suc (length_hulls a b)

fine_hull : (i j : Interval) → IsFine i → IsFine j → IsFine (hull i j)
fine_hull i j i_fine j_fine =
    let record { low = a; some = b; high = c } = i_fine in
    let record { low = d; some = e; high = f } = j_fine in
    record { low = grind (arith, ints); some = grind (arith, ints); high = grind (arith, ints) }

fine_hulls : (a b : List Interval) → AllByRecursion IsFine a → AllByRecursion IsFine b → AllByRecursion IsFine (hulls a b)
fine_hulls [] b a_fine b_fine = tt
fine_hulls (i ∷ a) [] a_fine b_fine = a_fine
fine_hulls (i ∷ a) (j ∷ b) a_fine b_fine = (fine_hull i j a_fine.0 b_fine.0, fine_hulls a b a_fine.1 b_fine.1)

pub fine_joined : (a b : Zone) → IsFineZone a → IsFineZone b → IsFineZone (joined a b)
fine_joined a b a_fine b_fine = record {
  axes = length_hulls a.area b.area ∙ a_fine.axes;
  flags = a_fine.flags;
  each = fine_hulls a.area b.area a_fine.each b_fine.each;
}

-- what two zones that can be joined have in common, and what they have together
pub joined_flags : (a b : Zone) → can_join a b ≡ true → a.rules ≡ b.rules
joined_flags a b can = same_flags a.rules b.rules (and_parts (are_joint a.area b.area) (pointwise beq a.rules b.rules) can).1

pub joined_has : (a b : Zone) (at : List ℤ) → IsFineZone a → IsFineZone b → can_join a b ≡ true → has (joined a b).area at ≡ (has a.area at || has b.area at)
joined_has a b at a_fine b_fine can =
    joint_has a.area b.area at (a_fine.axes ∙ sym b_fine.axes) a_fine.each b_fine.each (and_parts (are_joint a.area b.area) (pointwise beq a.rules b.rules) can).0

hulls_none : (a : List Interval) → hulls a [] ≡ a
hulls_none [] = refl
hulls_none (i ∷ a) = refl

drop-hulls : (axes : ℕ) (a b : List Interval) → drop axes (hulls a b) ≡ hulls (drop axes a) (drop axes b)
drop-hulls zero a b = refl
drop-hulls (suc axes) [] b = refl
drop-hulls (suc axes) (i ∷ a) [] = sym (hulls_none (drop axes a))
drop-hulls (suc axes) (i ∷ a) (j ∷ b) = drop-hulls axes a b

-- the axes beyond stay whole
pub joined_whole : (axes : ℕ) (a b : Zone) → IsWholeAfter axes a → IsWholeAfter axes b → IsWholeAfter axes (joined a b)
joined_whole axes a b a_whole b_whole =
    drop-hulls axes a.area b.area ∙ ((λ k. hulls (a_whole k) (b_whole k)) ∙ hulls_itself (drop axes whole))
