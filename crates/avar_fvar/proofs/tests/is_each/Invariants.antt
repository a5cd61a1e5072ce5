use Rattle.std.proofs.Common.{◌≡◌, take, length, All}
use Rattle.avar_fvar.proofs.tests.is_each.Given as goal

abbrev pub invariant-loop-instance : goal.invariant-loop-instance
invariant-loop-instance l = All (λ instance. length instance.user ≡ l.fn.axes) (take l.instance-index l.instances)
