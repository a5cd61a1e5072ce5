use Rattle.std.proofs.Common.{Option, IfSome, map, string_bytes, subst, sym, ap, ◌∙◌}
use Rattle.std.proofs.lemmas.Result.{IfOk-weaker}
use Rattle.clap.specs.Simple.{subcommand_rows_of}
use Rattle.commands.specs.Command.{Command}
use Rattle.commands.specs.Proper.{IsProper}
use Rattle.commands.specs.Syntax.{command_of, entered, lacks_option_value, refusals}
use Rattle.commands.specs.Taken.{AreTaken}
use Rattle.commands.proofs.LocatedLemmas.{command_is}
use Rattle.commands.proofs.ParsingLemmas.{lacks_command, no_command, some_command}
use Rattle.commands.proofs.parsing.parse.Goals as goal

pub returns-then-lacks_option_value-clause-command : goal.returns-then-lacks_option_value-clause-command
returns-then-lacks_option_value-clause-command c =
    lacks_command (map string_bytes c.args.words.now.items)
    (ap (λ words. lacks_option_value (map string_bytes words)) (sym c.as_slice.ensures.value) ∙ sym c.if-lacks_option_value.ensures)

pub returns-in-Some-clause-command : goal.returns-in-Some-clause-command
returns-in-Some-clause-command c =
    let words = map string_bytes c.as_slice-2.result.now in
    let has = ap (λ words. lacks_option_value (map string_bytes words)) (c.as_slice-2.ensures.value ∙ sym c.as_slice.ensures.value) ∙ sym c.if-lacks_option_value.ensures in
    let is = some_command words c.in-Some.matches has (subst (AreTaken (refusals words) (entered words)) c.in-Some.is c.in_ok-matches.ensures)
    ∙ ap (λ words. command_of (map string_bytes words)) c.as_slice-2.ensures.value in
    IfOk-weaker c.command_in.result _ _ (λ found same. same ∙ is) c.command_in.ensures

pub returns-in-Some-clause-proper : goal.returns-in-Some-clause-proper
returns-in-Some-clause-proper c =
    IfOk-weaker c.command_in.result _ _ (λ found is. subst (λ (found : Option Command). IfSome found IsProper) (sym is) (command_is (subcommand_rows_of c.in-Some.matches))) c.command_in.ensures

pub returns-in-None-clause-command : goal.returns-in-None-clause-command
returns-in-None-clause-command c =
    let words = map string_bytes c.as_slice-2.result.now in
    let has = ap (λ words. lacks_option_value (map string_bytes words)) (c.as_slice-2.ensures.value ∙ sym c.as_slice.ensures.value) ∙ sym c.if-lacks_option_value.ensures in
    no_command words has (subst (AreTaken (refusals words) (entered words)) c.in-None.is c.in_ok-matches.ensures)
    ∙ ap (λ words. command_of (map string_bytes words)) c.as_slice-2.ensures.value
