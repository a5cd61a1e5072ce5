use Rattle.std.proofs.Common.{◌≡◌, map, take}
use Rattle.font_build.specs.TableSteps.{all_points}
use Rattle.font_build.proofs.variations.counts.Given as goal

abbrev pub invariant-loop-model : goal.invariant-loop-model
invariant-loop-model l = l.counts ≡ map all_points (take l.model-index l.models)
