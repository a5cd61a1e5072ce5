-- What holds of every condition, of the boxes of rules, and of substitution by them.
use Rattle.std.specs.Prelude.{◌≡◌, ℕ, ℤ, ◌<ℤ◌, Bool, ◌&&◌, List, length, AllPairs, false}
use Rattle.rule_boxes.specs.declared.condition.Condition.{Condition}
use Rattle.rule_boxes.specs.declared.cell.Cell.{Cell}
use Rattle.rule_boxes.specs.Conditions.{meets}
use Rattle.rule_boxes.specs.Cells.{IsLocation, has_location, lists_at, holding, some_list, AreCells}
use Rattle.rule_boxes.specs.Substitution.{ruled, substituted}

-- a condition whose greatest coordinate is below its least one never holds
abbrev pub NeverHolds : Type 0
NeverHolds = (condition : Condition) (at : List ℤ) → condition.high <ℤ condition.low → meets condition at ≡ false

-- no location is in two of the boxes
abbrev pub AreDisjoint : Type 0
AreDisjoint = (axes : ℕ) (rules : List (List (List Condition))) (cells : List Cell) → AreCells axes rules cells
    → (at : List ℤ) → IsLocation axes at → AllPairs (λ a b. (has_location a at && has_location b at) ≡ false) cells

-- The boxes make of a glyph what the rules do, one after another, where the lists at the location are those of the rules
-- that hold there. `A` is whatever names glyphs.
abbrev pub SubstitutesAsRuled : Type 0 → Type 0
SubstitutesAsRuled A = (same : A → A → Bool) (rules : List (List (List Condition))) (substitutions : List (List (A × A))) (cells : List Cell) (at : List ℤ) (glyph : A)
    → length rules ≡ length substitutions → lists_at cells at ≡ some_list (holding rules at)
    → substituted same cells substitutions at glyph ≡ ruled same rules substitutions at glyph
