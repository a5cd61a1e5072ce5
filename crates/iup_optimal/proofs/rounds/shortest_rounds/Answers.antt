use Rattle.std.proofs.Common.{◌+◌, inl, inr, sym, subst, arith}
use Rattle.iup_optimal.specs.declared.rounds.Rounds.{Rounds}
use Rattle.iup_optimal.specs.Rounds.{AreBestTo}
use Rattle.iup_optimal.proofs.RoundLemmas.{best_push, best_skip, best_of_all}
use Rattle.iup_optimal.proofs.rounds.shortest_rounds.Goals as goal
use Rattle.iup_optimal.proofs.rounds.shortest_rounds.Goals.{then-point-pivot+then-is_start+in_ok-rounds_from, else-point-pivot, else-point-pivot-via-then-point-pivot+else-is_start, else-point-pivot-via-else-point-pivot}

pub loop-point-preserved : goal.loop-point-preserved
loop-point-preserved c =
    let points = c.args.table.now.points.now in
    let deltas = c.args.table.now.deltas.now in
    let p = c.args.pivot in
    let s = c.loop-point.point in
    let best = c.loop-point.best in
    elim c.if-point-pivot.branch [
      | then-point-pivot+then-is_start+in_ok-rounds_from w ↦
          let next = w.shorter-best.result in
          let more = best_push points deltas p s best w.in_ok-rounds_from.field-0 next c.loop-point.invariant w.in_ok-rounds_from.ensures w.shorter-best.ensures.either w.shorter-best.ensures.one w.shorter-best.ensures.other in
          subst (λ (r : Rounds). AreBestTo points deltas p (s + 1) r) (sym w.best-is) more
      | else-point-pivot w ↦
          let kept : AreBestTo points deltas p (s + 1) best = best_skip points deltas p s best c.loop-point.invariant (elim w.else-point-pivot.branch [
            | else-point-pivot-via-then-point-pivot+else-is_start v ↦ inr (λ start. let tested = v.is_start.ensures.1 start in absurd cc)
            | else-point-pivot-via-else-point-pivot v ↦ inl v.if-point-pivot.false
          ]) in
          subst (λ (r : Rounds). AreBestTo points deltas p (s + 1) r) (sym w.best-is) kept
    ]

pub returns : goal.returns
returns c =
    best_of_all c.args.table.now.points.now c.args.table.now.deltas.now c.args.pivot c.loop-point.point c.loop-point.best c.args.table.now.contour.same c.requires (omega arith) c.loop-point.invariant
