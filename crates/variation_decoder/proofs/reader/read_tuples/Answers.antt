use Rattle.std.proofs.Common.{sym, ◌∙◌, arith}
use Rattle.variation_decoder.proofs.Glyph.{found_means, means_found}
use Rattle.variation_decoder.proofs.reader.read_tuples.Goals as goal

pub returns-in-Ok-clause-found : goal.returns-in-Ok-clause-found
returns-in-Ok-clause-found c =
    found_means c.args.axes c.args.total c.args.peaks.now c.args.bytes.now c.in-Ok.tuples (λ i. omega (arith, c.type_inv.bytes i)) c.in-Ok.ensures

pub returns-in-Ok-clause-only : goal.returns-in-Ok-clause-only
returns-in-Ok-clause-only c = λ tuples means. sym c.in-Ok.ensures ∙ means_found c.args.axes c.args.total c.args.peaks.now c.args.bytes.now tuples means

pub returns-in-Err-NoReading-clause-found : goal.returns-in-Err-NoReading-clause-found
returns-in-Err-NoReading-clause-found c = λ tuples means.
    let none = rw c.in-Err-NoReading.field-0-is at c.in-Err-NoReading.ensures in
    let some = means_found c.args.axes c.args.total c.args.peaks.now c.args.bytes.now tuples means in
    cc

pub returns-in-Err-NoReading-clause-only : goal.returns-in-Err-NoReading-clause-only
returns-in-Err-NoReading-clause-only c = λ tuples means.
    let none = rw c.in-Err-NoReading.field-0-is at c.in-Err-NoReading.ensures in
    sym none ∙ means_found c.args.axes c.args.total c.args.peaks.now c.args.bytes.now tuples means
