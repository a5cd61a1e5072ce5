-- What rules of substitution make of a glyph at a location (Designspace, "rules"), and what the boxes of `cells` make of
-- it (OpenType, "FeatureVariations table": the first record whose conditions hold replaces the lookups). `A` is what
-- names a glyph, and comes with the test whether two names are the same.
use Rattle.std.specs.Prelude.{ℕ, ℤ, Bool, List, [], ◌∷◌, if◌then◌else◌, slice_index_or}
use Rattle.rule_boxes.specs.declared.condition.Condition.{Condition}
use Rattle.rule_boxes.specs.declared.cell.Cell.{Cell}
use Rattle.rule_boxes.specs.Conditions.{rule_holds}
use Rattle.rule_boxes.specs.Cells.{lists_at}

-- once by the first of the pairs whose first glyph is this one; else the glyph as it is
abbrev pub replaced : {A : Type 0} → (A → A → Bool) → List (A × A) → A → A
replaced same [] glyph = glyph
replaced same (pair ∷ pairs) glyph = if same pair.0 glyph then pair.1 else replaced same pairs glyph

-- by the rules in order, each with its own pairs: one that holds at the location replaces what the earlier ones gave
abbrev pub ruled : {A : Type 0} → (A → A → Bool) → List (List (List Condition)) → List (List (A × A)) → List ℤ → A → A
ruled same (rule ∷ rules) (pairs ∷ substitutions) at glyph =
    ruled same rules substitutions at (if rule_holds rule at then replaced same pairs glyph else glyph)
ruled same _ _ at glyph = glyph

-- by the lists of pairs of these numbers, one after another
abbrev pub looked_up : {A : Type 0} → (A → A → Bool) → List (List (A × A)) → List ℕ → A → A
looked_up same substitutions [] glyph = glyph
looked_up same substitutions (number ∷ numbers) glyph =
    looked_up same substitutions numbers (replaced same (slice_index_or substitutions number []) glyph)

-- the first of the lists, or none
abbrev pub first_list : List (List ℕ) → List ℕ
first_list [] = []
first_list (numbers ∷ _) = numbers

-- by the rules of the first box that has the location
abbrev pub substituted : {A : Type 0} → (A → A → Bool) → List Cell → List (List (A × A)) → List ℤ → A → A
substituted same cells substitutions at glyph = looked_up same substitutions (first_list (lists_at cells at)) glyph
