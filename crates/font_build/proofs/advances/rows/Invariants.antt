use Rattle.std.proofs.Common.{◌≡◌, map, take}
use Rattle.font_build.specs.TableSteps.{later_advances}
use Rattle.font_build.proofs.advances.rows.Given as goal

abbrev pub invariant-loop-model : goal.invariant-loop-model
invariant-loop-model l = l.rows ≡ map later_advances (take l.model-index l.models)
