use Rattle.std.proofs.Common.{◌≡◌, map, take}
use Rattle.font_model.specs.DefaultOutline.{default_outline}
use Rattle.font_tables.proofs.drawings.outlines.Given as goal

abbrev pub invariant-loop-model : goal.invariant-loop-model
invariant-loop-model l = l.outlines ≡ map default_outline (take l.model-index l.models)
