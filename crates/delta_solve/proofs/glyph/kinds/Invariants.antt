use Rattle.std.proofs.Common.{◌≡◌, take, map}
use Rattle.glif.specs.declared.shape.Point.{Point}
use Rattle.delta_solve.proofs.glyph.kinds.Given as goal

abbrev pub invariant-loop-point : goal.invariant-loop-point
invariant-loop-point l = l.kinds.items ≡ map (λ (point : Point). point.on) (take l.point-index l.point-items)
