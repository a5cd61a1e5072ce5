use Rattle.std.proofs.Common.{ℕ, ◌+◌, ◌<◌}
use Rattle.variation_rules.specs.InferredDelta.{Inferred}
use Rattle.iup.proofs.arcs.arc_holds.Given as goal

-- the points before this one are inferred
abbrev pub invariant-loop-place : goal.invariant-loop-place
invariant-loop-place l = (q : ℕ) → l.i < q → q < l.place → Inferred l.points l.deltas l.i q (l.i + l.k)
