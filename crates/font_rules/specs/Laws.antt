-- What holds of rules by names and by numbers.
use Rattle.std.specs.Prelude.{◌≡◌, ◌≢◌, ℕ, ℤ, List, length, map, AllPairs, Option, Some, nat_eq}
use Rattle.std.specs.Str.{bytes_eq}
use Rattle.rule_boxes.specs.Cells.{AreCells, IsLocation, lists_at}
use Rattle.rule_boxes.specs.Substitution.{ruled, substituted}
use Rattle.designspace.specs.declared.rule.Rule.{Rule}
use Rattle.rule_boxes.specs.declared.cell.Cell.{Cell}
use Rattle.font_rules.specs.RuleNumbers.{AreAllNumbered, number_of, sets_of}

-- the substitutions of each rule, by names
abbrev pub named_subs : List Rule → List (List (List ℕ × List ℕ))
named_subs rules = map (λ rule. rule.subs) rules

-- no two glyphs have one number
abbrev pub NumbersDiffer : List (List ℕ × ℕ) → Type 0
NumbersDiffer names = AllPairs (λ a b. a.1 ≢ b.1) names

-- By the boxes and the pairs of numbers a glyph becomes the one whose name the rules, one after another, make of its
-- name: at every location, in every font whose glyphs have numbers of their own.
abbrev pub SubstitutesByName : Type 0
SubstitutesByName = (names : List (List ℕ × ℕ)) (rules : List Rule) (subs : List (List (ℕ × ℕ))) (axes : ℕ) (cells : List Cell) (at : List ℤ) (name : List ℕ) (glyph : ℕ)
    → NumbersDiffer names → AreAllNumbered names rules subs → AreCells axes (sets_of rules) cells → IsLocation axes at
    → number_of names name ≡ Some glyph
    → number_of names (ruled bytes_eq (sets_of rules) (named_subs rules) at name) ≡ Some (substituted nat_eq cells subs at glyph)
