use Rattle.std.proofs.Common.{◌≡◌, [], ◌∷◌, drop}
use Rattle.rule_boxes.specs.Overlay.{laid_rules, bare}
use Rattle.rule_boxes.proofs.overlay.overlaid.Given as goal

-- the rules that are left complete them
abbrev pub invariant-loop-rule : goal.invariant-loop-rule
invariant-loop-rule l = laid_rules l.axes l.rule (drop l.rule l.rules) l.zones.items ≡ laid_rules l.axes 0 l.rules (bare ∷ [])
