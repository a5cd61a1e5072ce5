use Rattle.std.proofs.Common.{sym}
use Rattle.commands.proofs.WordLemmas.{drawing_nowhere, drawing_no_location, drawing_located}
use Rattle.commands.proofs.located.located_of.Goals as goal

pub returns-in_err-path : goal.returns-in_err-path
returns-in_err-path c = rw c.from_residual.ensures (sym (drawing_nowhere c.args.word.now c.in_err-path.ensures.cases))

pub returns-in_err-location_of : goal.returns-in_err-location_of
returns-in_err-location_of c =
    rw c.from_residual-in_err-location_of.ensures (sym (drawing_no_location c.args.word.now _ c.in_ok-path.location.now c.in_ok-path.ensures.cases (sym c.in_err-location_of.ensures)))

pub returns : goal.returns
returns c = sym (drawing_located c.args.word.now _ c.in_ok-path.location.now _ c.in_ok-path.ensures.cases (sym c.in_ok-location_of.ensures))
