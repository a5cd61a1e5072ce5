-- Joining zones, one after another, until no two can be joined.
use Rattle.std.proofs.Common.{◌≡◌, refl, sym, ◌∙◌, ap, subst, ℕ, suc, ◌+◌, ◌<◌, ◌≤◌, ℤ, Bool, true, false, List, [], ◌∷◌, ◌++◌, length, get_or, take, drop, filter, cond, arith, append-nil}
use Rattle.std.specs.Prelude.{◌||◌, remove}
use Rattle.std.specs.List.{AllByRecursion}
use Rattle.std.proofs.lemmas.List.{length-append, length_push, drop_more, take-append-drop}
use Rattle.std.proofs.lemmas.List.Sums.{length-filter, count_by-le-length}
use Rattle.std.proofs.lemmas.List.Elements.{filter-append}
use Rattle.rule_boxes.specs.declared.area.Zone.{Zone}
use Rattle.rule_boxes.specs.Areas.{has}
use Rattle.rule_boxes.specs.Merging.{can_join, joined, has_some, given, rules_at, IsFineZone, AreFine, IsWholeAfter, AreApart, Absorbs, IsMerged}
use Rattle.rule_boxes.proofs.LayingLaws.{rules_at-append}
use Rattle.rule_boxes.proofs.FineLemmas.{each_append}
use Rattle.rule_boxes.proofs.JoiningLemmas.{fine_joined, joined_flags, joined_has, joined_whole}

pub each_front : {X : Type 0} (P : X → Type 0) (xs ys : List X) → AllByRecursion P (xs ++ ys) → AllByRecursion P xs
each_front P [] ys each = tt
each_front P (x ∷ xs) ys each = (each.0, each_front P xs ys each.1)

pub each_back : {X : Type 0} (P : X → Type 0) (xs ys : List X) → AllByRecursion P (xs ++ ys) → AllByRecursion P ys
each_back P [] ys each = each
each_back P (x ∷ xs) ys each = each_back P xs ys each.1

abbrev HasSome : Zone → Type 0
HasSome zone = has_some zone.rules ≡ true

-- A list of zones and one more, that came of the old list and its one more by joining.
pub record Joins (old : List Zone) (first : Zone) (new : List Zone) (zone : Zone) : Type 0 where
  pub fine : AreFine (old ++ first ∷ []) → AreFine (new ++ zone ∷ [])
  pub axes : (axes : ℕ) → AllByRecursion (IsWholeAfter axes) (old ++ first ∷ []) → AllByRecursion (IsWholeAfter axes) (new ++ zone ∷ [])
  pub some : AllByRecursion (λ other. has_some other.rules ≡ true) (old ++ first ∷ []) → AllByRecursion (λ other. has_some other.rules ≡ true) (new ++ zone ∷ [])
  pub lists : (at : List ℤ) → AreFine (old ++ first ∷ []) → length (rules_at at (old ++ first ∷ [])) ≤ 1 → rules_at at (new ++ zone ∷ []) ≡ rules_at at (old ++ first ∷ [])
  pub apart : AreApart old → AreApart new
  pub few : length new ≤ length old

pub joins_start : (old : List Zone) (zone : Zone) → Joins old zone old zone
joins_start old zone = record { fine = λ fine. fine; axes = λ axes each. each; some = λ some. some; lists = λ at fine few. refl; apart = λ apart. apart; few = omega arith }

-- where one list has a location at most, two zones of the same rules are one
squeeze : (A B : List (List Bool)) (x y : Bool) (r : List Bool) → length ((A ++ (given x r ++ B)) ++ (given y r ++ [])) ≤ 1
    → (A ++ B) ++ (given (x || y) r ++ []) ≡ (A ++ (given x r ++ B)) ++ (given y r ++ [])
squeeze [] [] true true r few = absurd (omega arith)
squeeze [] [] true false r few = refl
squeeze [] (b ∷ B) true y r few = absurd (omega arith)
squeeze (a ∷ A) B true y r few = absurd (omega (arith, length-append (A ++ (r ∷ B)) (given y r ++ []), length-append A (r ∷ B)))
squeeze A B false y r few = refl

apart_without : (A B : List Zone) (other : Zone) → AreApart (A ++ other ∷ B) → AreApart (A ++ B)
apart_without [] B other apart = apart.1
apart_without (a ∷ A) B other apart =
    let P : Zone → Type 0 = λ z. can_join a z ≡ false in
    let back = each_back P A (other ∷ B) apart.0 in
    (each_append P A B (each_front P A (other ∷ B) apart.0) back.1, apart_without A B other apart.1)

-- one of the zones is joined with the one more
join_one : (A B : List Zone) (other zone : Zone) → can_join other zone ≡ true → Joins (A ++ other ∷ B) zone (A ++ B) (joined other zone)
join_one A B other zone can = record {
  fine = λ fine.
      let front = each_front IsFineZone (A ++ other ∷ B) (zone ∷ []) fine in
      let back = each_back IsFineZone A (other ∷ B) front in
      let last = each_back IsFineZone (A ++ other ∷ B) (zone ∷ []) fine in
      each_append IsFineZone (A ++ B) (joined other zone ∷ []) (each_append IsFineZone A B (each_front IsFineZone A (other ∷ B) front) back.1) (fine_joined other zone back.0 last.0, tt);
  axes = λ axes each.
      let P = IsWholeAfter axes in
      let front = each_front P (A ++ other ∷ B) (zone ∷ []) each in
      let back = each_back P A (other ∷ B) front in
      let last = each_back P (A ++ other ∷ B) (zone ∷ []) each in
      each_append P (A ++ B) (joined other zone ∷ []) (each_append P A B (each_front P A (other ∷ B) front) back.1) (joined_whole axes other zone back.0 last.0, tt);
  some = λ some.
      let front = each_front HasSome (A ++ other ∷ B) (zone ∷ []) some in
      let back = each_back HasSome A (other ∷ B) front in
      each_append HasSome (A ++ B) (joined other zone ∷ []) (each_append HasSome A B (each_front HasSome A (other ∷ B) front) back.1) (back.0, tt);
  lists = λ at fine few.
      let front = each_front IsFineZone (A ++ other ∷ B) (zone ∷ []) fine in
      let back = each_back IsFineZone A (other ∷ B) front in
      let last = each_back IsFineZone (A ++ other ∷ B) (zone ∷ []) fine in
      let x = has other.area at in
      let y = has zone.area at in
      let r = other.rules in
      let flags : zone.rules ≡ r = sym (joined_flags other zone can) in
      let old : rules_at at ((A ++ other ∷ B) ++ zone ∷ []) ≡ (rules_at at A ++ (given x r ++ rules_at at B)) ++ (given y r ++ []) =
      rules_at-append at (A ++ other ∷ B) (zone ∷ []) ∙ (λ k. rules_at-append at A (other ∷ B) k ++ (given y (flags k) ++ [])) in
      let new : rules_at at ((A ++ B) ++ joined other zone ∷ []) ≡ (rules_at at A ++ rules_at at B) ++ (given (x || y) r ++ []) =
      rules_at-append at (A ++ B) (joined other zone ∷ []) ∙ (λ k. rules_at-append at A B k ++ (given (joined_has other zone at back.0 last.0 can k) r ++ [])) in
      new ∙ (squeeze (rules_at at A) (rules_at at B) x y r (subst (λ (l : List (List Bool)). length l ≤ 1) old few) ∙ sym old);
  apart = apart_without A B other;
  few = omega (arith, length-append A B, length-append A (other ∷ B));
}

joins_then : (old : List Zone) (first : Zone) (mid : List Zone) (zone : Zone) (new : List Zone) (last : Zone) → Joins old first mid zone → Joins mid zone new last → Joins old first new last
joins_then old first mid zone new last a b = record {
  fine = λ fine. b.fine (a.fine fine);
  axes = λ axes each. b.axes axes (a.axes axes each);
  some = λ some. b.some (a.some some);
  lists = λ at fine few.
      let same = a.lists at fine few in
      b.lists at (a.fine fine) (subst (λ (l : List (List Bool)). length l ≤ 1) (sym same) few) ∙ same;
  apart = λ apart. b.apart (a.apart apart);
  few = let x = a.few in let y = b.few in omega arith;
}

-- joining with the zone at an index
pub joins_next : (old : List Zone) (first : Zone) (zones : List Zone) (zone other : Zone) (index : ℕ) → Joins old first zones zone → index < length zones → other ≡ get_or zones index other → can_join other zone ≡ true
    → Joins old first (remove zones index) (joined other zone)
joins_next old first zones zone other index joins here is can =
    let split : zones ≡ take index zones ++ other ∷ drop (index + 1) zones =
    sym (take-append-drop index zones) ∙ (ap (λ (l : List Zone). take index zones ++ l) (drop_more zones index other here) ∙ ap (λ (z : Zone). take index zones ++ z ∷ drop (index + 1) zones) (sym is)) in
    let count : index + 1 ≡ suc index = omega arith in
    let step = join_one (take index zones) (drop (index + 1) zones) other zone can in
    let same : take index zones ++ drop (index + 1) zones ≡ remove zones index = ap (λ (n : ℕ). take index zones ++ drop n zones) count in
    joins_then old first zones zone (remove zones index) (joined other zone) joins
    (subst (λ (l : List Zone). Joins zones zone l (joined other zone)) same
    (subst (λ (l : List Zone). Joins l zone (take index zones ++ drop (index + 1) zones) (joined other zone)) (sym split) step))

apart_push : (zones : List Zone) (zone : Zone) → AllByRecursion (λ other. can_join other zone ≡ false) zones → AreApart zones → AreApart (zones ++ zone ∷ [])
apart_push [] zone none apart = (tt, tt)
apart_push (z ∷ zones) zone none apart =
    (each_append (λ other. can_join z other ≡ false) zones (zone ∷ []) apart.0 (none.0, tt), apart_push zones zone none.1 apart.1)

-- where none can be joined any more
pub joins_end : (old : List Zone) (first : Zone) (zones : List Zone) (zone : Zone) → Joins old first zones zone → AllByRecursion (λ other. can_join other zone ≡ false) zones → Absorbs old first (zones ++ zone ∷ [])
joins_end old first zones zone joins none = record {
  fine = joins.fine;
  axes = joins.axes;
  some = joins.some;
  lists = joins.lists;
  apart = λ apart. apart_push zones zone none (joins.apart apart);
  few = let few = joins.few in omega (arith, length_push zones zone);
}

filter_given : (some : Bool) (flags : List Bool) (here : Bool) → has_some flags ≡ some → filter has_some (given here flags) ≡ cond some (given here flags) []
filter_given true flags false is = refl
filter_given false flags false is = refl
filter_given some flags true is = ap (λ (b : Bool). cond b (flags ∷ []) []) is

-- the rules at a location of one zone more
rules_push : (at : List ℤ) (zones : List Zone) (zone : Zone) → rules_at at (zones ++ zone ∷ []) ≡ rules_at at zones ++ given (has zone.area at) zone.rules
rules_push at zones zone = rules_at-append at zones (zone ∷ []) ∙ ap (λ (l : List (List Bool)). rules_at at zones ++ l) (append-nil (given (has zone.area at) zone.rules))

filter_push : (at : List ℤ) (zones : List Zone) (zone : Zone) (some : Bool) → has_some zone.rules ≡ some
    → filter has_some (rules_at at (zones ++ zone ∷ [])) ≡ filter has_some (rules_at at zones) ++ cond some (given (has zone.area at) zone.rules) []
filter_push at zones zone some is =
    let own = given (has zone.area at) zone.rules in
    ap (filter has_some) (rules_push at zones zone)
    ∙ (filter-append has_some (rules_at at zones) own ∙ ap (λ (l : List (List Bool)). filter has_some (rules_at at zones) ++ l) (filter_given some zone.rules (has zone.area at) is))

filter_few : (lists : List (List Bool)) → length (filter has_some lists) ≤ length lists
filter_few lists = omega (arith, length-filter has_some lists, count_by-le-length has_some lists)

pub merged_start : IsMerged [] []
merged_start = record { fine = λ fine. tt; axes = λ axes each. tt; some = tt; lists = λ at fine few. refl; apart = tt; few = omega arith }

-- a zone in which some rule holds is joined to the merged ones
pub merged_next : (zones merged : List Zone) (zone : Zone) (new : List Zone) → IsMerged zones merged → has_some zone.rules ≡ true → Absorbs merged zone new → IsMerged (zones ++ zone ∷ []) new
merged_next zones merged zone new is some absorbs = record {
  fine = λ fine. absorbs.fine (each_append IsFineZone merged (zone ∷ []) (is.fine (each_front IsFineZone zones (zone ∷ []) fine)) (each_back IsFineZone zones (zone ∷ []) fine));
  axes = λ axes each.
      let P = IsWholeAfter axes in
      absorbs.axes axes (each_append P merged (zone ∷ []) (is.axes axes (each_front P zones (zone ∷ []) each)) (each_back P zones (zone ∷ []) each));
  some = absorbs.some (each_append HasSome merged (zone ∷ []) is.some (some, tt));
  lists = λ at fine few.
      let front = each_front IsFineZone zones (zone ∷ []) fine in
      let both = each_append IsFineZone merged (zone ∷ []) (is.fine front) (each_back IsFineZone zones (zone ∷ []) fine) in
      let own = given (has zone.area at) zone.rules in
      let old = rules_at at zones in
      let all_few : length (old ++ own) ≤ 1 = subst (λ (l : List (List Bool)). length l ≤ 1) (rules_push at zones zone) few in
      let same : rules_at at merged ≡ filter has_some old = is.lists at front (omega (arith, length-append old own)) in
      let now : rules_at at (merged ++ zone ∷ []) ≡ filter has_some old ++ own = rules_push at merged zone ∙ ap (λ (l : List (List Bool)). l ++ own) same in
      let now_few : length (rules_at at (merged ++ zone ∷ [])) ≤ 1 =
      subst (λ (l : List (List Bool)). length l ≤ 1) (sym now) (omega (arith, length-append (filter has_some old) own, filter_few old, length-append old own)) in
      absorbs.lists at both now_few ∙ (now ∙ sym (filter_push at zones zone true some));
  apart = absorbs.apart is.apart;
  few = let x = is.few in let y = absorbs.few in omega (arith, length_push zones zone);
}

-- a zone in which no rule holds is left out
pub merged_skip : (zones merged : List Zone) (zone : Zone) → IsMerged zones merged → has_some zone.rules ≡ false → IsMerged (zones ++ zone ∷ []) merged
merged_skip zones merged zone is none = record {
  fine = λ fine. is.fine (each_front IsFineZone zones (zone ∷ []) fine);
  axes = λ axes each. is.axes axes (each_front (IsWholeAfter axes) zones (zone ∷ []) each);
  some = is.some;
  lists = λ at fine few.
      let own = given (has zone.area at) zone.rules in
      let old = rules_at at zones in
      let all_few : length (old ++ own) ≤ 1 = subst (λ (l : List (List Bool)). length l ≤ 1) (rules_push at zones zone) few in
      is.lists at (each_front IsFineZone zones (zone ∷ []) fine) (omega (arith, length-append old own))
      ∙ sym (filter_push at zones zone false none ∙ append-nil (filter has_some old));
  apart = is.apart;
  few = let x = is.few in omega (arith, length_push zones zone);
}
