use Rattle.std.proofs.Common.{◌≡◌, length, take, map}
use Rattle.compat.specs.declared.order.Mark.TheVariants.{New}
use Rattle.compat.proofs.order.Walk.new.Given as goal

abbrev pub invariant-loop-bases : goal.invariant-loop-bases
invariant-loop-bases l = l.nodes.items ≡ map (λ bases. record { mark = New; left = length bases }) (take l.bases-index l.graph)
