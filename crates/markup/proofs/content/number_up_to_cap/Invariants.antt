use Rattle.std.proofs.Common.{◌≡◌, ◌≤◌, min, drop}
use Rattle.std.specs.Str.Parse.{digits_value, digits_value_after}
use Rattle.markup.proofs.content.number_up_to_cap.Given as goal

abbrev pub invariant-loop-digit : goal.invariant-loop-digit
invariant-loop-digit l = (l.number ≤ 0x11_0000) × (min (digits_value_after l.radix l.number (drop l.digit-index l.digits)) 0x11_0000 ≡ min (digits_value l.radix l.digits) 0x11_0000)
