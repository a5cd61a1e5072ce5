-- The rules of substitution (Designspace, "rules", "rule", "conditionset" and "sub"), or the first fault.
use Rattle.std.specs.Prelude.{ℕ, ◌+◌, Bool, true, false, List, [], ◌∷◌, ◌++◌, length, codes, Option, Some, None, Result, Ok, if◌then◌else◌}
use Rattle.std.specs.Str.{bytes_eq}
use Rattle.markup_rules.specs.Tree.{Tree, attribute_of, children_of, is_named}
use Rattle.basics.specs.Reading.{◌>>=◌, each, each_numbered, in_turn}
use Rattle.basics.specs.declared.kinds.Kind.TheVariants.{NotDesignspace, TooManyRules, TooManySets, TooManySubs}
use Rattle.basics.specs.declared.fault.Spot.{Spot}
use Rattle.attributes.specs.Attributes.{fault, needed}
use Rattle.design_axes.specs.Elements.{first_named, named}
use Rattle.design_axes.specs.declared.axis.Axis.{Axis}
use Rattle.rule_boxes.specs.declared.condition.Condition.{Condition}
use Rattle.designspace.specs.Conditions.{condition_of, set_of}
use Rattle.designspace.specs.Parts.{few}
use Rattle.designspace.specs.declared.rule.Rule.{Rule}
use Rattle.designspace.specs.declared.rule.Rules.{Rules}
use Rattle.designspace.specs.declared.sets.Sorted.{Sorted}

-- ---- the sets of a rule

-- the conditions that stand in the rule itself, and the sets that stand in it
abbrev pub nothing_sorted : Sorted
nothing_sorted = record { direct = []; sets = [] }

-- what a child of the rule adds; others than these are passed over
unfoldable pub child_of : List Axis → Sorted → Tree → Result Sorted Spot
child_of axes sorted tree =
    if is_named (codes "condition") tree then (condition_of axes tree >>= λ condition. Ok (record sorted { direct = sorted.direct ++ condition ∷ [] })) else
    (if is_named (codes "conditionset") tree then (set_of axes tree >>= λ set. Ok (record sorted { sets = sorted.sets ++ set ∷ [] })) else Ok sorted)

-- the direct conditions are one set, the first, where there are any
abbrev pub direct_first : List Condition → List (List Condition) → List (List Condition)
direct_first [] sets = sets
direct_first (condition ∷ conditions) sets = (condition ∷ conditions) ∷ sets

unfoldable pub sets_of : List Axis → Tree → Result (List (List Condition)) Spot
sets_of axes tree = in_turn (child_of axes) nothing_sorted (children_of tree) >>= λ sorted. Ok (direct_first sorted.direct sorted.sets)

-- the direct conditions count as one set
abbrev pub with_direct : ℕ → Option Tree → ℕ
with_direct sets None = sets
with_direct sets (Some condition) = sets + 1

unfoldable pub set_count : Tree → ℕ
set_count tree = with_direct (length (named (codes "conditionset") tree)) (first_named (codes "condition") tree)

-- ---- its substitutions

-- a name, and the one that replaces it
unfoldable pub sub_of : Tree → Result (List ℕ × List ℕ) Spot
sub_of tree = do
  name ← needed (codes "name") tree
  substitute ← needed (codes "with") tree
  Ok (name, substitute)

unfoldable pub subs_of : Tree → Result (List (List ℕ × List ℕ)) Spot
subs_of tree = each sub_of (named (codes "sub") tree)

-- ---- rules

-- the counts are tested before what is counted, and all conditions come before the substitutions
unfoldable pub rule_of : List Axis → ℕ → Tree → Result Rule Spot
rule_of axes number tree = do
  few_sets ← few TooManySets number 16 (set_count tree)
  few_subs ← few TooManySubs number 4096 (length (named (codes "sub") tree))
  sets ← sets_of axes tree
  subs ← subs_of tree
  Ok (record { sets = sets; subs = subs })

-- whether the rules act last, after other substitutions
abbrev pub is_last_by : Tree → Option (List ℕ) → Result Bool Spot
is_last_by tree None = Ok false
is_last_by tree (Some text) =
    if bytes_eq text (codes "first") then Ok false else (if bytes_eq text (codes "last") then Ok true else fault NotDesignspace tree)

unfoldable pub rules_in : List Axis → Tree → Result Rules Spot
rules_in axes tree = do
  few_rules ← few TooManyRules 0 64 (length (named (codes "rule") tree))
  last ← is_last_by tree (attribute_of (codes "processing") tree)
  rules ← each_numbered (rule_of axes) 0 (named (codes "rule") tree)
  Ok (record { rules = rules; last = last })

abbrev pub rules_by : List Axis → Option Tree → Result Rules Spot
rules_by axes None = Ok (record { rules = []; last = false })
rules_by axes (Some tree) = rules_in axes tree

-- those of the first `rules`, none where it is absent
unfoldable pub rules_of : List Axis → Tree → Result Rules Spot
rules_of axes designspace = rules_by axes (first_named (codes "rules") designspace)
