-- A slot was made for each room so far.
use Rattle.std.proofs.Common.{◌≡◌, map}
use Rattle.outside.specs.SlotState.{empty_slot}
use Rattle.outside.proofs.slots.Slots.new.Given as goal

abbrev pub invariant-loop-path : goal.invariant-loop-path
invariant-loop-path l = l.items.items ≡ map empty_slot l.yielded
