use Rattle.std.proofs.Common.{take}
use Rattle.std.specs.Prelude.{All}
use Rattle.glif.specs.Limits.{IsOffsetWithin}
use Rattle.compat.proofs.tests.are_near.Given as goal

abbrev pub invariant-loop-component : goal.invariant-loop-component
invariant-loop-component l = All IsOffsetWithin (take l.component-index l.components)
