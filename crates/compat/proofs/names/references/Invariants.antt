use Rattle.std.proofs.Common.{◌≡◌, drop, take, map}
use Rattle.compat.specs.Names.{number_of, base_numbers, dangling_from, first_dangling}
use Rattle.compat.proofs.names.references.Given as goal

abbrev pub invariant-loop-number : goal.invariant-loop-number
invariant-loop-number l = (l.graph.items ≡ map (base_numbers (number_of l.drawings)) (take l.number l.drawings)) × (dangling_from (number_of l.drawings) l.number (drop l.number l.drawings) ≡ first_dangling l.drawings)
