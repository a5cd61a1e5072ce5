-- What boxes and pairs have to keep to, and what it means that a table stands for them.
use Rattle.std.specs.Prelude.{◌≡◌, ◌≢◌, ℕ, ◌<◌, ◌≤◌, ℤ, Bool, codes, List, [], ◌∷◌, length, map, All, Option, Some, None, if◌then◌else◌, nat_eq}
use Rattle.std.specs.List.Sorted.{IsStrictlyIncreasing}
use Rattle.region_support.specs.Regions.{IsNormalised}
use Rattle.rule_boxes.specs.declared.cell.Cell.{Cell}
use Rattle.rule_boxes.specs.Cells.{IsLocation, lists_at}
use Rattle.rule_boxes.specs.Substitution.{substituted}
use Rattle.feature_var.specs.Table.{Substitutions, listed_by, matching, substitute, substitutions_in}

-- how many axes the boxes have
abbrev pub axes_of : List Cell → ℕ
axes_of [] = 0
axes_of (cell ∷ cells) = length cell.low.items

-- a box on so many axes, with rising numbers of lists of pairs that are there
pub record IsWritableCell (axes lists : ℕ) (cell : Cell) : Type 0 where
  pub low_each : length cell.low.items ≡ axes
  pub high_each : length cell.high.items ≡ axes
  pub low : All IsNormalised cell.low.items
  pub high : All IsNormalised cell.high.items
  pub rising : IsStrictlyIncreasing cell.rules
  pub there : All (λ number. number < lists) cell.rules

-- at most 32,768 boxes on the same axes, and at most 64 lists of at most 4,096 pairs
pub record AreWritable (cells : List Cell) (subs : List (List (ℕ × ℕ))) : Type 0 where
  pub few_axes : axes_of cells ≤ 8
  pub few_cells : length cells ≤ 32768
  pub few_lists : length subs ≤ 64
  pub few_pairs : All (λ pairs. length pairs ≤ 4096) subs
  pub each : All (IsWritableCell (axes_of cells) (length subs)) cells

-- rvrn, or rclt for substitutions that come after all others
abbrev pub feature_tag : Bool → List ℕ
feature_tag last = if last then codes "rclt" else codes "rvrn"

-- The bytes are read as a table whose one feature has this tag and lists no lookups itself. At each location the records
-- that match are the boxes that have it, in their order, each with its box's numbers; and a glyph becomes what the lists
-- of the first box's numbers make of it, one after another.
pub record MeansSubstitutions (last : Bool) (cells : List Cell) (subs : List (List (ℕ × ℕ))) (bytes : List ℕ) : Type 0 where
  pub table : Substitutions
  pub read : substitutions_in bytes ≡ Some table
  pub tag_is : table.feature.tag ≡ feature_tag last
  pub none_else : table.feature.lookups ≡ []
  pub axes_there : All (λ variation. All (λ condition. condition.axis < axes_of cells) variation.conditions) table.variations
  pub matching_are : (at : List ℤ) → IsLocation (axes_of cells) at
      → map (λ variation. listed_by [] variation.alternates) (matching table.variations at) ≡ lists_at cells at
  pub substitution_is : (at : List ℤ) (glyph : ℕ) → IsLocation (axes_of cells) at
      → substitute table at glyph ≡ substituted nat_eq cells subs at glyph

-- no table exactly where there are no boxes
abbrev pub IsTableOf : Bool → List Cell → List (List (ℕ × ℕ)) → Option (List ℕ) → Type 0
IsTableOf last cells subs None = cells ≡ []
IsTableOf last cells subs (Some bytes) = (cells ≢ []) × MeansSubstitutions last cells subs bytes
