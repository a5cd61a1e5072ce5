use Rattle.std.proofs.Common.{◌≡◌, ◌++◌, drop}
use Rattle.std.specs.List.{flat_map}
use Rattle.rule_boxes.proofs.grid.add_conditions.Given as goal

-- the sets that are left complete them
abbrev pub invariant-loop-set : goal.invariant-loop-set
invariant-loop-set l = l.conditions.items ++ flat_map (λ set. set) (drop l.set-index l.sets) ≡ l.initial.conditions.items ++ flat_map (λ set. set) l.sets
