-- Boxes that adjoin are those of zones that can be joined.
use Rattle.std.proofs.Common.{◌≡◌, ◌≢◌, refl, sym, ◌∙◌, ap, inl, inr, ℕ, zero, suc, ◌<◌, ◌≤◌, ◌⊎◌, ℤ, pos, ◌+ℤ◌, true, false, List, [], ◌∷◌, length, get_or, map, take, drop, arith}
use Rattle.std.specs.Prelude.{◌||◌, AllPairs}
use Rattle.std.specs.List.{AllByRecursion}
use Rattle.std.specs.Ordering.{int_eq}
use Rattle.std.specs.Cmp.Lexicographic.{pointwise, pointwise_decides}
use Rattle.std.specs.Cmp.{booleans_Decides}
use mathlib.Core.Bool.{beq}
use Rattle.std.proofs.lemmas.Int.{ints}
use Rattle.std.proofs.lemmas.Bool.{and_from, and_parts, or_left, or_right, false_from_ne_true, both_ways}
use Rattle.std.proofs.lemmas.Bool.Decides.{Decides-int_eq}
use Rattle.region_support.specs.MasterOrder.{value_on}
use Rattle.rule_boxes.specs.declared.area.Interval.{Interval}
use Rattle.rule_boxes.specs.declared.area.Zone.{Zone}
use Rattle.rule_boxes.specs.declared.cell.Cell.{Cell}
use Rattle.rule_boxes.specs.Cells.{Adjoin}
use Rattle.rule_boxes.specs.Merging.{is_same, adjoins, are_same, are_joint, can_join, IsFine, IsFineZone, AreFine, AreApart, IsWholeAfter, cell_of, cells_of}
use Rattle.rule_boxes.proofs.WholeLemmas.{AreWhole}
use Rattle.rule_boxes.proofs.RisingLemmas.{flags_told}

-- the ends of the first axes
abbrev lows : ℕ → List Interval → List ℤ
lows axes area = map (λ interval. interval.low) (take axes area)

abbrev highs : ℕ → List Interval → List ℤ
highs axes area = map (λ interval. interval.high) (take axes area)

same_ends : (i j : Interval) → i.low ≡ j.low → i.high ≡ j.high → is_same i j ≡ true
same_ends i j low high = and_from (int_eq i.low j.low) (int_eq i.high j.high) ((Decides-int_eq i.low j.low).1 low) ((Decides-int_eq i.high j.high).1 high)

are_same_itself : (a : List Interval) → are_same a a ≡ true
are_same_itself [] = refl
are_same_itself (i ∷ a) = and_from (is_same i i) (are_same a a) (same_ends i i refl refl) (are_same_itself a)

same_from : (axes : ℕ) (a b : List Interval) → length a ≡ length b → drop axes a ≡ drop axes b
    → ((axis : ℕ) → value_on axis (lows axes a) ≡ value_on axis (lows axes b)) → ((axis : ℕ) → value_on axis (highs axes a) ≡ value_on axis (highs axes b)) → are_same a b ≡ true
same_from zero a b long rest low high = ap (are_same a) (sym rest) ∙ are_same_itself a
same_from (suc axes) [] b long rest low high = refl
same_from (suc axes) (i ∷ a) [] long rest low high = refl
same_from (suc axes) (i ∷ a) (j ∷ b) long rest low high =
    and_from (is_same i j) (are_same a b) (same_ends i j (low 0) (high 0)) (same_from axes a b (omega arith) rest (λ axis. low (suc axis)) (λ axis. high (suc axis)))

-- the ends of two intervals of which one begins right after the other
not_same : (i j : Interval) → IsFine i → IsFine j → (i.high +ℤ pos 1 ≡ j.low) ⊎ (j.high +ℤ pos 1 ≡ i.low) → is_same i j ≡ false
not_same i j i_fine j_fine next =
    let i_some = i_fine.some in
    let j_some = j_fine.some in
    false_from_ne_true (is_same i j) (λ same.
    let low : i.low ≡ j.low = (Decides-int_eq i.low j.low).0 (and_parts (int_eq i.low j.low) (int_eq i.high j.high) same).0 in
    elim next [ inl after ↦ omega (arith, ints) | inr before ↦ omega (arith, ints) ])

next_to : (i j : Interval) → (i.high +ℤ pos 1 ≡ j.low) ⊎ (j.high +ℤ pos 1 ≡ i.low) → (adjoins i j || adjoins j i) ≡ true
next_to i j (inl after) = or_left (adjoins i j) (adjoins j i) ((Decides-int_eq (i.high +ℤ pos 1) j.low).1 after)
next_to i j (inr before) = or_right (adjoins i j) (adjoins j i) ((Decides-int_eq (j.high +ℤ pos 1) i.low).1 before)

joint_from : (axes axis : ℕ) (a b : List Interval) → length a ≡ length b → axes ≤ length a → AllByRecursion IsFine a → AllByRecursion IsFine b → drop axes a ≡ drop axes b
    → ((other : ℕ) → other ≢ axis → value_on other (lows axes a) ≡ value_on other (lows axes b)) → ((other : ℕ) → other ≢ axis → value_on other (highs axes a) ≡ value_on other (highs axes b))
    → (value_on axis (highs axes a) +ℤ pos 1 ≡ value_on axis (lows axes b)) ⊎ (value_on axis (highs axes b) +ℤ pos 1 ≡ value_on axis (lows axes a)) → are_joint a b ≡ true
joint_from zero axis a b long few a_fine b_fine rest low high next = elim next [ inl after ↦ absurd (omega (arith, ints)) | inr before ↦ absurd (omega (arith, ints)) ]
joint_from (suc axes) axis [] b long few a_fine b_fine rest low high next = absurd (omega arith)
joint_from (suc axes) axis (i ∷ a) [] long few a_fine b_fine rest low high next = absurd (omega arith)
joint_from (suc axes) zero (i ∷ a) (j ∷ b) long few a_fine b_fine rest low high next =
    let same = same_from axes a b (omega arith) rest (λ other. low (suc other) (λ e. omega arith)) (λ other. high (suc other) (λ e. omega arith)) in
    rw (not_same i j a_fine.0 b_fine.0 next) (and_from (adjoins i j || adjoins j i) (are_same a b) (next_to i j next) same)
joint_from (suc axes) (suc axis) (i ∷ a) (j ∷ b) long few a_fine b_fine rest low high next =
    let here = same_ends i j (low 0 (λ e. omega arith)) (high 0 (λ e. omega arith)) in
    let later = joint_from axes axis a b (omega arith) (omega arith) a_fine.1 b_fine.1 rest (λ other apart. low (suc other) (λ e. apart (omega arith))) (λ other apart. high (suc other) (λ e. apart (omega arith))) next in
    rw here later

-- Boxes that could be one come of zones that can be joined.
adjoin_joins : (axes : ℕ) (a b : Zone) → axes ≤ 8 → IsFineZone a → IsFineZone b → IsWholeAfter axes a → IsWholeAfter axes b → Adjoin (cell_of axes a) (cell_of axes b) → can_join a b ≡ true
adjoin_joins axes a b few a_fine b_fine a_whole b_whole adjoin =
    let long : length a.area ≡ length b.area = a_fine.axes ∙ sym b_fine.axes in
    let a_axes = a_fine.axes in
    let flags : a.rules ≡ b.rules = flags_told 0 a.rules b.rules (a_fine.flags ∙ sym b_fine.flags) adjoin.rules in
    let joint = joint_from axes adjoin.axis a.area b.area long (omega arith) a_fine.each b_fine.each (a_whole ∙ sym b_whole) adjoin.low adjoin.high adjoin.next in
    and_from (are_joint a.area b.area) (pointwise beq a.rules b.rules) joint ((pointwise_decides {E = beq} booleans_Decides a.rules b.rules).1 flags)

apart_from_all : (axes : ℕ) (zone : Zone) (zones : List Zone) (j : ℕ) (d : Cell) → axes ≤ 8 → IsFineZone zone → IsWholeAfter axes zone → AreFine zones → AreWhole axes zones → AllByRecursion (λ other. can_join zone other ≡ false) zones → j < length (cells_of axes zones)
    → ¬ Adjoin (cell_of axes zone) (get_or (cells_of axes zones) j d)
apart_from_all axes zone [] j d few fine whole all_fine all_whole apart here = absurd (omega arith)
apart_from_all axes zone (z ∷ zones) zero d few fine whole all_fine all_whole apart here =
    λ adjoin. both_ways (can_join zone z) apart.0 (adjoin_joins axes zone z few fine all_fine.0 whole all_whole.0 adjoin)
apart_from_all axes zone (z ∷ zones) (suc j) d few fine whole all_fine all_whole apart here =
    apart_from_all axes zone zones j d few fine whole all_fine.1 all_whole.1 apart.1 (omega arith)

-- no two boxes of zones of which no two can be joined could be one
pub cells_apart : (axes : ℕ) (zones : List Zone) → axes ≤ 8 → AreFine zones → AreWhole axes zones → AreApart zones → AllPairs (λ a b. ¬ Adjoin a b) (cells_of axes zones)
cells_apart axes [] few fine whole apart = λ i j d below here. absurd (omega arith)
cells_apart axes (z ∷ zones) few fine whole apart =
    let later = cells_apart axes zones few fine.1 whole.1 apart.1 in
    λ i j d below here. pair i j d below here later where
      pair : (i j : ℕ) (d : Cell) → i < j → j < length (cells_of axes (z ∷ zones)) → AllPairs (λ a b. ¬ Adjoin a b) (cells_of axes zones) → ¬ Adjoin (get_or (cells_of axes (z ∷ zones)) i d) (get_or (cells_of axes (z ∷ zones)) j d)
      pair i zero d below here later = absurd (omega arith)
      pair zero (suc j) d below here later = apart_from_all axes z zones j d few fine.0 whole.0 fine.1 whole.1 apart.0 (omega arith)
      pair (suc i) (suc j) d below here later = later i j d (omega arith) (omega arith)
