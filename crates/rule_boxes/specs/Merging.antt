-- How zones are joined until no two of them could be one.
use Rattle.std.specs.Prelude.{◌≡◌, ℕ, ◌+◌, ◌≤◌, ℤ, pos, ◌+ℤ◌, neg_ℤ, ◌≤ℤ◌, Bool, true, false, ◌&&◌, ◌||◌, List, [], ◌∷◌, ◌++◌, length, filter, map, take, drop, if◌then◌else◌}
use Rattle.std.specs.List.{AllByRecursion, list_any}
use Rattle.std.specs.Ordering.{int_eq}
use Rattle.std.specs.Int.{int_min, int_max}
use Rattle.std.specs.Cmp.Lexicographic.{pointwise}
use mathlib.Core.Bool.{beq}
use Rattle.rule_boxes.specs.declared.area.Interval.{Interval}
use Rattle.rule_boxes.specs.declared.area.Zone.{Zone}
use Rattle.rule_boxes.specs.declared.cell.Cell.{Cell}
use Rattle.rule_boxes.specs.Areas.{whole, has}

abbrev pub is_same : Interval → Interval → Bool
is_same a b = int_eq a.low b.low && int_eq a.high b.high

-- the second interval begins right after the first one
abbrev pub adjoins : Interval → Interval → Bool
adjoins a b = int_eq (a.high +ℤ pos 1) b.low

-- from the lower low end to the higher high end
abbrev pub hull : Interval → Interval → Interval
hull a b = record { low = int_min a.low b.low; high = int_max a.high b.high }

abbrev pub hulls : List Interval → List Interval → List Interval
hulls [] other = []
hulls (a ∷ area) [] = a ∷ area
hulls (a ∷ area) (b ∷ other) = hull a b ∷ hulls area other

abbrev pub are_same : List Interval → List Interval → Bool
are_same [] other = true
are_same (a ∷ area) [] = true
are_same (a ∷ area) (b ∷ other) = is_same a b && are_same area other

-- the areas are equal but for one axis, on which they adjoin
abbrev pub are_joint : List Interval → List Interval → Bool
are_joint [] other = false
are_joint (a ∷ area) [] = false
are_joint (a ∷ area) (b ∷ other) =
    if is_same a b then are_joint area other else ((adjoins a b || adjoins b a) && are_same area other)

abbrev pub can_join : Zone → Zone → Bool
can_join a b = are_joint a.area b.area && pointwise beq a.rules b.rules

abbrev pub joined : Zone → Zone → Zone
joined a b = record a { area = hulls a.area b.area }

-- some rule holds
abbrev pub has_some : List Bool → Bool
has_some rules = list_any (λ rule. rule) rules

-- the rules of each zone that has the location
abbrev pub given : Bool → List Bool → List (List Bool)
given true rules = rules ∷ []
given false rules = []

abbrev pub rules_at : List ℤ → List Zone → List (List Bool)
rules_at at [] = []
rules_at at (zone ∷ zones) = given (has zone.area at) zone.rules ++ rules_at at zones

-- the interval has a value, and none beyond -1 and 1
pub record IsFine (interval : Interval) : Type 0 where
  pub low : neg_ℤ (pos 16384) ≤ℤ interval.low
  pub some : interval.low ≤ℤ interval.high
  pub high : interval.high ≤ℤ pos 16384

pub record IsFineZone (zone : Zone) : Type 0 where
  pub axes : length zone.area ≡ 8
  pub flags : length zone.rules ≡ 64
  pub each : AllByRecursion IsFine zone.area

abbrev pub AreFine : List Zone → Type 0
AreFine zones = AllByRecursion IsFineZone zones

-- the axes after so many are whole
abbrev pub IsWholeAfter : ℕ → Zone → Type 0
IsWholeAfter axes zone = drop axes zone.area ≡ drop axes whole

-- no two of the zones can be joined
abbrev pub AreApart : List Zone → Type 0
AreApart [] = Unit {0}
AreApart (zone ∷ zones) = AllByRecursion (λ other. can_join zone other ≡ false) zones × AreApart zones

-- The new zones are those of old and one more, joined.
pub record Absorbs (old : List Zone) (zone : Zone) (new : List Zone) : Type 0 where
  pub fine : AreFine (old ++ zone ∷ []) → AreFine new
  pub axes : (axes : ℕ) → AllByRecursion (IsWholeAfter axes) (old ++ zone ∷ []) → AllByRecursion (IsWholeAfter axes) new
  pub some : AllByRecursion (λ other. has_some other.rules ≡ true) (old ++ zone ∷ []) → AllByRecursion (λ other. has_some other.rules ≡ true) new
  pub lists : (at : List ℤ) → AreFine (old ++ zone ∷ []) → length (rules_at at (old ++ zone ∷ [])) ≤ 1 → rules_at at new ≡ rules_at at (old ++ zone ∷ [])
  pub apart : AreApart old → AreApart new
  pub few : length new ≤ length old + 1

-- The new zones are those of old in which some rule holds, joined until no two can be.
pub record IsMerged (old new : List Zone) : Type 0 where
  pub fine : AreFine old → AreFine new
  pub axes : (axes : ℕ) → AllByRecursion (IsWholeAfter axes) old → AllByRecursion (IsWholeAfter axes) new
  pub some : AllByRecursion (λ zone. has_some zone.rules ≡ true) new
  pub lists : (at : List ℤ) → AreFine old → length (rules_at at old) ≤ 1 → rules_at at new ≡ filter has_some (rules_at at old)
  pub apart : AreApart new
  pub few : length new ≤ length old

-- the numbers of the flags that are set, the first one counted as this number
abbrev pub numbers_from : ℕ → List Bool → List ℕ
numbers_from number [] = []
numbers_from number (flag ∷ flags) = if flag then number ∷ numbers_from (number + 1) flags else numbers_from (number + 1) flags

-- zones as boxes of so many axes
abbrev pub cell_of : ℕ → Zone → Cell
cell_of axes zone = record {
  low = record { items = map (λ interval. interval.low) (take axes zone.area) };
  high = record { items = map (λ interval. interval.high) (take axes zone.area) };
  rules = numbers_from 0 zone.rules;
}

abbrev pub cells_of : ℕ → List Zone → List Cell
cells_of axes zones = map (cell_of axes) zones
