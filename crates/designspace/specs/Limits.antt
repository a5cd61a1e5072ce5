-- What holds of every document that is read: how many parts it has, and of each part the length and the range of its
-- numbers.
use Rattle.std.specs.Prelude.{◌≡◌, ℕ, ◌<◌, ◌≤◌, List, length, All}
use Rattle.arrayvec.specs.ArrayVec.{array_vec_len}
use Rattle.font_text.specs.Utf16.{utf16_length}
use Rattle.region_support.specs.Regions.{IsNormalised}
use Rattle.design_axes.specs.Axes.{AreFew, IsShort}
use Rattle.rule_boxes.specs.declared.condition.Condition.{Condition}
use Rattle.designspace.specs.declared.document.Designspace.{Designspace}
use Rattle.designspace.specs.declared.instance.Instance.{Instance}
use Rattle.designspace.specs.declared.rule.Rule.{Rule}
use Rattle.designspace.specs.declared.sets.Sorted.{Sorted}
use Rattle.designspace.specs.declared.source.Source.{Source}

-- a location of so many axes
pub record IsSourceOn (axes : ℕ) (source : Source) : Type 0 where
  pub coordinates : array_vec_len source.location ≡ axes
  pub normalised : All IsNormalised source.location.items

-- conditions on so many axes
abbrev pub IsConditionOn : ℕ → Condition → Type 0
IsConditionOn axes condition = condition.axis < axes

abbrev pub AreSetsOn : ℕ → List (List Condition) → Type 0
AreSetsOn axes sets = All (λ set. All (IsConditionOn axes) set) sets

pub record IsSortedOn (axes : ℕ) (sorted : Sorted) : Type 0 where
  pub direct : All (IsConditionOn axes) sorted.direct
  pub sets : AreSetsOn axes sorted.sets

pub record IsRuleOn (axes : ℕ) (rule : Rule) : Type 0 where
  pub few_sets : length rule.sets ≤ 16
  pub conditions : AreSetsOn axes rule.sets
  pub few_subs : length rule.subs ≤ 4096

-- at most 100 units of UTF-16
abbrev pub IsBrief : List ℕ → Type 0
IsBrief name = utf16_length name ≤ 100

-- a user value on each of so many axes
pub record IsInstanceOn (axes : ℕ) (instance : Instance) : Type 0 where
  pub name : IsBrief instance.name
  pub values : length instance.user ≡ axes

pub record IsWithinLimits (designspace : Designspace) : Type 0 where
  pub axes : AreFew designspace.axes
  pub short : All IsShort designspace.axes
  pub few_sources : length designspace.sources ≤ 128
  pub sources : All (IsSourceOn (length designspace.axes)) designspace.sources
  pub few_rules : length designspace.rules ≤ 64
  pub rules : All (IsRuleOn (length designspace.axes)) designspace.rules
  pub few_instances : length designspace.instances ≤ 256
  pub instances : All (IsInstanceOn (length designspace.axes)) designspace.instances
