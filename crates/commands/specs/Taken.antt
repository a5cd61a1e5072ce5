-- What `clap` answered of words.
use Rattle.std.specs.Prelude.{◌≡◌, [], List, Option, Some, None}
use Rattle.clap.specs.Kinds.{Kinds}
use Rattle.clap.specs.Simple.{subcommand_rows_of}
use Rattle.clap.specs.Walk.{Row, Text}
use Rattle.clap.specs.declared.parser.ArgMatches.{ArgMatches}

-- it took them, with these matches, or refused them
abbrev pub AreTaken : Kinds → Option (Text × List Row) → Option ArgMatches → Type 0
AreTaken kinds found (Some matches) = (kinds ≡ []) × (subcommand_rows_of matches ≡ found)
AreTaken kinds found None = kinds ≡ [] → ⊥
