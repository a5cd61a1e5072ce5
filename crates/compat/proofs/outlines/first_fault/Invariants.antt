use Rattle.std.proofs.Common.{◌≡◌, drop}
use Rattle.compat.specs.Flats.{fault_from}
use Rattle.compat.proofs.outlines.first_fault.Given as goal

abbrev pub invariant-loop-number : goal.invariant-loop-number
invariant-loop-number l = fault_from l.number (drop l.number l.flats) ≡ fault_from 0 l.flats
