use Rattle.std.proofs.Common.{ℕ, List, [], ◌∷◌, ◌++◌, Some, cond, map, subst}
use Rattle.markup_rules.proofs.Attributes.{names_of}
use Rattle.markup.specs.Names.{HasNames}
use Rattle.markup.specs.Views.{attribute_view}
use Rattle.markup.proofs.NameSets.{names_after}
use Rattle.markup.proofs.attributes.is_first.Goals as goal

pub returns-in_ok-insert-in-Some-clause-names : goal.returns-in_ok-insert-in-Some-clause-names
returns-in_ok-insert-in-Some-clause-names c =
    let after = c.in_ok-insert-in-Some.ensures in
    let kept = names_of (map attribute_view c.args.kept.now) in
    let first = c.in_ok-insert-in-Some.field-0 in
    let key = c.in_ok-from_str-in-Some.field-0 in
    subst (λ (name : List ℕ). HasNames (Some c.insert.new.self) (cond first (kept ++ name ∷ []) kept)) c.in_ok-from_str-in-Some.ensures
    (names_after c.in-Some.names c.insert.new.self kept key first (rw c.in-Some.is at c.requires) after.updates after.unchanged)
