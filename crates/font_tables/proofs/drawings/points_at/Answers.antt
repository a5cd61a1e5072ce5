use Rattle.std.proofs.Common.{◌++◌, sym, ap, ◌∙◌, arith}
use Rattle.std.proofs.lemmas.List.{append-nil}
use Rattle.font_tables.proofs.ListSteps.{points_end}
use Rattle.font_tables.proofs.drawings.points_at.Goals as goal

pub returns : goal.returns
returns c =
    let on = c.args.on.now in
    let positions = c.args.positions.now in
    let items = c.loop-i.points.items in
    sym (append-nil items) ∙ ap (λ rest. items ++ rest) (sym (points_end c.loop-i.i on positions (omega arith))) ∙ c.loop-i.invariant
