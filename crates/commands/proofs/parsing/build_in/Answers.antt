use Rattle.std.proofs.Common.{Some, None, refl}
use Rattle.clap.specs.Words.{found_of, rows_of}
use Rattle.commands.specs.Syntax.{filters_in}
use Rattle.commands.proofs.ParsingLemmas.{build_found}
use Rattle.commands.proofs.parsing.build_in.Goals as goal

pub returns-in_default : goal.returns-in_default
returns-in_default c = build_found (found_of c.args.matches.now) None _ (filters_in (rows_of (found_of c.args.matches.now))) c.in_default.ensures refl refl

pub returns-in_default-get_str : goal.returns-in_default-get_str
returns-in_default-get_str c =
    build_found (found_of c.args.matches.now) (Some c.in-Some.design.now) None (filters_in (rows_of (found_of c.args.matches.now))) c.in-Some.ensures c.in_default-get_str.ensures refl

pub returns : goal.returns
returns c = build_found (found_of c.args.matches.now) (Some c.in-Some.design.now) (Some c.in-Some-get_str.out.now) _ c.in-Some.ensures c.in-Some-get_str.ensures c.in_ok-filters.ensures
