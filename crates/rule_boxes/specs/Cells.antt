-- Boxes of the design space in which the same rules hold, as font variations need them (OpenType, "FeatureVariations
-- table": a record applies in one box, given by a condition an axis). A location is the list of its normalised
-- coordinates, one an axis.
use Rattle.std.specs.Prelude.{◌≡◌, ◌≢◌, ℕ, ◌+◌, ◌<◌, ◌≤◌, ℤ, pos, ◌+ℤ◌, ◌≤ℤ◌, int_le, Bool, true, ◌&&◌, List, [], ◌∷◌, length, All, AllPairs, if◌then◌else◌, ◌⊎◌}
use Rattle.std.specs.List.{AllZip}
use Rattle.std.specs.List.Sorted.{IsStrictlyIncreasing}
use Rattle.region_support.specs.MasterOrder.{value_on}
use Rattle.region_support.specs.Regions.{IsNormalised}
use Rattle.rule_boxes.specs.declared.condition.Condition.{Condition}
use Rattle.rule_boxes.specs.declared.cell.Cell.{Cell}
use Rattle.rule_boxes.specs.Conditions.{rule_holds}

-- a location of the design space: a normalised coordinate for each axis
pub record IsLocation (axes : ℕ) (at : List ℤ) : Type 0 where
  pub count : length at ≡ axes
  pub normalised : All IsNormalised at

-- on each axis the coordinate is from the low end to the high one, both included
abbrev pub is_between : List ℤ → List ℤ → List ℤ → Bool
is_between (low ∷ lows) (high ∷ highs) (value ∷ values) = (int_le low value && int_le value high) && is_between lows highs values
is_between _ _ _ = true

-- whether the location is in the box
abbrev pub has_location : Cell → List ℤ → Bool
has_location cell at = is_between cell.low.items cell.high.items at

-- the rules of each box that has the location, in the order of the boxes
abbrev pub lists_at : List Cell → List ℤ → List (List ℕ)
lists_at [] at = []
lists_at (cell ∷ cells) at = if has_location cell at then cell.rules ∷ lists_at cells at else lists_at cells at

-- the numbers of the rules that hold at the location, in their order, the first rule counted as this number
abbrev pub holding_from : ℕ → List (List (List Condition)) → List ℤ → List ℕ
holding_from number [] at = []
holding_from number (rule ∷ rules) at =
    if rule_holds rule at then number ∷ holding_from (number + 1) rules at else holding_from (number + 1) rules at

-- the same, counted from 0
abbrev pub holding : List (List (List Condition)) → List ℤ → List ℕ
holding rules at = holding_from 0 rules at

-- one list, where it isn't empty
abbrev pub some_list : List ℕ → List (List ℕ)
some_list [] = []
some_list (number ∷ numbers) = (number ∷ numbers) ∷ []

-- A box of so many axes in which some of so many rules hold: no low end is above its high end, and the rules are told
-- by their numbers, which rise.
pub record IsCell (axes rules : ℕ) (cell : Cell) : Type 0 where
  pub low : IsLocation axes cell.low.items
  pub high : IsLocation axes cell.high.items
  pub ordered : AllZip ◌≤ℤ◌ cell.low.items cell.high.items
  pub some : cell.rules ≢ []
  pub rising : IsStrictlyIncreasing cell.rules
  pub known : All (λ number. number < rules) cell.rules

-- Two boxes with the same rules and with the same ends on all axes but one, on which one of the boxes begins right
-- after the end of the other: together they are one box.
pub record Adjoin (a b : Cell) : Type 0 where
  pub rules : a.rules ≡ b.rules
  pub axis : ℕ
  pub low : (other : ℕ) → other ≢ axis → value_on other a.low.items ≡ value_on other b.low.items
  pub high : (other : ℕ) → other ≢ axis → value_on other a.high.items ≡ value_on other b.high.items
  pub next : (value_on axis a.high.items +ℤ pos 1 ≡ value_on axis b.low.items) ⊎ (value_on axis b.high.items +ℤ pos 1 ≡ value_on axis a.low.items)

-- The boxes tell at each location which rules hold: where some do, one box has the location, with these rules, and
-- else none has it. No two of them could be one box.
pub record AreCells (axes : ℕ) (rules : List (List (List Condition))) (cells : List Cell) : Type 0 where
  pub lists : (at : List ℤ) → IsLocation axes at → lists_at cells at ≡ some_list (holding rules at)
  pub each : All (IsCell axes (length rules)) cells
  pub apart : AllPairs (λ a b. ¬ Adjoin a b) cells
  pub few : length cells ≤ 32768
