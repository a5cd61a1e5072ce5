use Rattle.std.proofs.Common.{◌≡◌, map, drop}
use Rattle.std.specs.Prelude.{find}
use Rattle.markup.specs.Plain.{plain}
use Rattle.markup_rules.specs.Tree.{children_of, is_named}
use Rattle.design_axes.proofs.elements.first_named.Given as goal

abbrev pub invariant-loop-child : goal.invariant-loop-child
invariant-loop-child l =
    find (is_named l.name) (map plain (drop l.child-index l.child-items)) ≡ find (is_named l.name) (children_of (plain l.element))
