use Rattle.std.proofs.Common.{◌≡◌, ◌++◌, map, filter, drop}
use Rattle.markup.specs.Plain.{plain}
use Rattle.markup_rules.specs.Tree.{children_of, is_named}
use Rattle.design_axes.proofs.elements.named.Given as goal

abbrev pub invariant-loop-child : goal.invariant-loop-child
invariant-loop-child l =
    map (λ child. plain child.now) l.found.items ++ filter (is_named l.name) (map plain (drop l.child-index l.child-items)) ≡ filter (is_named l.name) (children_of (plain l.element))
