use Rattle.std.proofs.Common.{rules}
use Rattle.variation_rules.specs.FontUnits.{AreFWords}
use Rattle.variation_rules.specs.InferredDelta.{still}
use Rattle.variation_rules.proofs.FillingLemmas.{named_within, unwrap_within}
use Rattle.variation_rules.proofs.drawing.named_or_still.Goals as goal

pub returns-clause-within : goal.returns-clause-within
returns-clause-within c =
    let points = c.args.tuple.now.points in
    let deltas = c.args.tuple.now.deltas in
    let no_movement : AreFWords still = search rules in
    rw c.unwrap_or.ensures (unwrap_within AreFWords c.named.result still (rw c.named.ensures (named_within AreFWords points deltas c.args.point c.requires)) no_movement)
