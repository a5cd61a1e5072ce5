-- The slots were made for the rooms, with no file.
use Rattle.std.proofs.Common.{◌∙◌, ap}
use Rattle.outside.specs.SlotState.{held_in, room_in}
use Rattle.outside.proofs.SlotLists.{held_in-empty, room_in-empty}
use Rattle.outside.proofs.sure_outputs.SureOutputs.new.Goals as goal

pub returns-clause-files : goal.returns-clause-files
returns-clause-files c = ap held_in c.in_ok-slots.ensures ∙ (λ k q. held_in-empty c.args.rooms q k)

pub returns-clause-room : goal.returns-clause-room
returns-clause-room c = ap room_in c.in_ok-slots.ensures ∙ (λ k q. room_in-empty c.args.rooms q k)
