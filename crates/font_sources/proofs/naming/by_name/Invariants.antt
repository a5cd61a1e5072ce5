use Rattle.std.proofs.Common.{◌≡◌, ℕ, List, drop}
use Rattle.std.specs.List.{position_from}
use Rattle.std.specs.Str.{bytes_eq}
use Rattle.font_sources.specs.Naming.{position_in}
use Rattle.font_sources.proofs.naming.by_name.Given as goal

abbrev pub invariant-loop-position : goal.invariant-loop-position
invariant-loop-position l = (name : List ℕ) → position_in l.found name ≡ position_from (λ other. bytes_eq other name) l.position (drop l.position l.names)
