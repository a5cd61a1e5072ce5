use Rattle.std.proofs.Common.{Some, None, refl, map, ◌∙◌}
use Rattle.clap.specs.Words.{found_of}
use Rattle.commands.specs.Words.{seen}
use Rattle.commands.proofs.ParsingLemmas.{drawings_found, tuples_found}
use Rattle.commands.proofs.parsing.tuples_in.Goals as goal

pub returns-in_err-out : goal.returns-in_err-out
returns-in_err-out c = rw c.from_residual.ensures (tuples_found (found_of c.args.matches.now) None _ c.in_err-out.ensures refl)

pub returns-in_err-words : goal.returns-in_err-words
returns-in_err-words c =
    rw c.from_residual-in_err-words.ensures (tuples_found (found_of c.args.matches.now) (Some c.in_ok-out.out.now) None c.in_ok-out.ensures c.in_err-words.ensures)

pub returns-in_err-drawings : goal.returns-in_err-drawings
returns-in_err-drawings c =
    let words = map (λ word. word.now) c.in_ok-words.words.now in
    rw c.from_residual-in_err-drawings.ensures
    (drawings_found c.in_ok-out.out.now words None c.in_err-drawings.ensures
    ∙ tuples_found (found_of c.args.matches.now) (Some c.in_ok-out.out.now) (Some words) c.in_ok-out.ensures c.in_ok-words.ensures)

pub returns : goal.returns
returns c =
    let words = map (λ word. word.now) c.in_ok-words.words.now in
    drawings_found c.in_ok-out.out.now words (Some (map seen c.in_ok-drawings.drawings.items)) c.in_ok-drawings.ensures
    ∙ tuples_found (found_of c.args.matches.now) (Some c.in_ok-out.out.now) (Some words) c.in_ok-out.ensures c.in_ok-words.ensures
