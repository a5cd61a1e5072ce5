use Rattle.std.proofs.Common.{map, string_bytes, ◌∙◌}
use Rattle.clap.specs.Simple.{app_of, subcommand_rows_of}
use Rattle.commands.proofs.ParsingLemmas.{enters, refuses, takes}
use Rattle.commands.proofs.parsing.matches_of.Goals as goal

pub returns-in-Ok : goal.returns-in-Ok
returns-in-Ok c =
    let app = app_of c.in_ok-command.command in
    let words = map string_bytes c.args.words.now in (
      takes app words c.in_ok-command.ensures c.in-Ok.ensures.kinds,
      enters app words _ (subcommand_rows_of c.in-Ok.matches) c.in_ok-command.ensures c.in-Ok.ensures.matches,
    )

pub returns : goal.returns
returns c =
    refuses (app_of c.in_ok-command.command) (map string_bytes c.args.words.now) c.in-Err.error c.in_ok-command.ensures c.in-Err.ensures.kinds
    (λ memory. c.in_default.not-OutOfMemory (c.kind.ensures ∙ memory))
