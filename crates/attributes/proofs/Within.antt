-- A whole number that is read is within its limits.
use Rattle.std.proofs.Common.{◌≡◌, ℕ, ℤ, int_le, ◌&&◌, List, Option, Some, None, Ok, subst, arith}
use Rattle.std.specs.Prelude.{IfOk, MatchOption, Result}
use Rattle.std.proofs.lemmas.Grind.{common_steps}
use Rattle.basics.specs.declared.fault.Spot.{Spot}
use Rattle.markup_rules.specs.Tree.{Tree, attribute_of}
use Rattle.attributes.specs.Attributes.{IsWithin, if_there, optional_whole, ranged, whole, whole_in}
use Rattle.attributes.specs.declared.limits.Limits.{Limits}
use Rattle.attributes.proofs.Readings.{after_any, chosen, then_ok}

ranged_within : (limits : Limits) (name : List ℕ) (tree : Tree) (number : ℤ) → IfOk (ranged limits name tree number) (IsWithin limits)
unfolding ranged
ranged_within limits name tree number =
    chosen (IsWithin limits) (int_le limits.least number && int_le number limits.greatest) _ _
    (λ h. record { least = grind (arith, common_steps); greatest = grind (arith, common_steps) })
    (λ h. tt)

text_within : (limits : Limits) (name : List ℕ) (tree : Tree) (text : List ℕ) → IfOk (whole_in limits name tree text) (IsWithin limits)
unfolding whole_in
text_within limits name tree text = after_any (IsWithin limits) _ _ (ranged_within limits name tree)

pub whole_within : (limits : Limits) (name : List ℕ) (tree : Tree) → IfOk (whole limits name tree) (IsWithin limits)
unfolding whole
whole_within limits name tree = after_any (IsWithin limits) _ _ (text_within limits name tree)

-- there is no number, or it is within the limits
abbrev pub IsNoneOrWithin : Limits → Option ℤ → Type 0
IsNoneOrWithin limits number = MatchOption number (Unit {0}) (IsWithin limits)

if_there_within : (limits : Limits) (name : List ℕ) (tree : Tree) (text : Option (List ℕ)) → IfOk (if_there (whole_in limits name tree) text) (IsNoneOrWithin limits)
if_there_within limits name tree None = tt
if_there_within limits name tree (Some text) =
    then_ok (IsWithin limits) (IsNoneOrWithin limits) (whole_in limits name tree text) _ (text_within limits name tree text) (λ number within. within)

pub optional_whole_within : (limits : Limits) (name : List ℕ) (tree : Tree) → IfOk (optional_whole limits name tree) (IsNoneOrWithin limits)
unfolding optional_whole
optional_whole_within limits name tree = if_there_within limits name tree (attribute_of name tree)

-- ---- the same of what is read

pub whole_read : (limits : Limits) (name : List ℕ) (tree : Tree) (number : ℤ) → whole limits name tree ≡ Ok number → IsWithin limits number
whole_read limits name tree number read =
    let P : Result ℤ Spot → Type 0 = λ r. IfOk r (IsWithin limits) in subst P read (whole_within limits name tree)

pub optional_whole_read : (limits : Limits) (name : List ℕ) (tree : Tree) (number : ℤ) → optional_whole limits name tree ≡ Ok (Some number) → IsWithin limits number
optional_whole_read limits name tree number read =
    let P : Result (Option ℤ) Spot → Type 0 = λ r. IfOk r (IsNoneOrWithin limits) in subst P read (optional_whole_within limits name tree)
