use Rattle.std.proofs.Common.{◌≡◌, map, drop}
use Rattle.std.specs.Prelude.{find}
use Rattle.markup.specs.Plain.{plain}
use Rattle.markup_rules.specs.Tree.{children_of}
use Rattle.design_axes.specs.Names.{is_label}
use Rattle.design_axes.proofs.label.english_label.Given as goal

abbrev pub invariant-loop-child : goal.invariant-loop-child
invariant-loop-child l =
    find is_label (map plain (drop l.child-index l.child-items)) ≡ find is_label (children_of (plain l.axis))
