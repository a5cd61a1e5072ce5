use Rattle.std.proofs.Common.{◌≡◌, take}
use Rattle.font_build.proofs.advances.copied.Given as goal

abbrev pub invariant-loop-support : goal.invariant-loop-support
invariant-loop-support l = l.copy ≡ take l.support-index l.supports
