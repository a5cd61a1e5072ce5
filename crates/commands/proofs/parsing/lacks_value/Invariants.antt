use Rattle.std.proofs.Common.{◌≡◌, map, drop, string_bytes}
use Rattle.commands.specs.Syntax.{lacks_value}
use Rattle.commands.proofs.parsing.lacks_value.Given as goal

-- the words that are passed tell nothing
abbrev pub invariant-loop-word : goal.invariant-loop-word
invariant-loop-word l = lacks_value (map string_bytes l.words) ≡ lacks_value (map string_bytes (drop l.word-index l.words))
