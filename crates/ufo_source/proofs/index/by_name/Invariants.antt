use Rattle.std.proofs.Common.{◌≡◌, ℕ, List, drop}
use Rattle.ufo_source.specs.Naming.{entry_in, entry_named}
use Rattle.ufo_source.proofs.index.by_name.Given as goal

abbrev pub invariant-loop-number : goal.invariant-loop-number
invariant-loop-number g l = (name : List ℕ) → entry_in l.found name ≡ entry_named (drop l.number l.entries) name
