use Rattle.std.proofs.Common.{◌≡◌, ◌∷◌, [], ◌+◌, ◌++◌, List, refl, sym, subst}
use Rattle.iup_optimal.specs.declared.row.Row.{Row}
use Rattle.iup_optimal.specs.Rows.{AreRowsTo}
use Rattle.iup_optimal.proofs.StartLemmas.{rows_push, rows_skip}
use Rattle.iup_optimal.proofs.starts.rows_of_starts.Goals as goal
use Rattle.iup_optimal.proofs.starts.rows_of_starts.Goals.{then-is_start+in_ok-bounds+in_ok-push, else-is_start}

pub loop-point-preserved : goal.loop-point-preserved
loop-point-preserved c =
    let points = c.args.table.now.points.now in
    let deltas = c.args.table.now.deltas.now in
    let p = c.args.pivot in
    let s = c.loop-point.point in
    let rows = c.loop-point.rows.items in
    elim c.if-is_start.branch [
      | then-is_start+in_ok-bounds+in_ok-push w ↦
          let row : Row = record { start = s; bounds = w.from_vec.result } in
          let items : c.if-is_start.rows.items ≡ rows ++ row ∷ [] = cc w.in_ok-push.ensures.items in
          subst (λ (rs : List Row). AreRowsTo points deltas p (s + 1) rs) (sym items)
          (rows_push points deltas p s rows row c.loop-point.invariant refl (c.is_start.ensures.0 w.if-is_start.true) (rw w.from_vec.ensures w.in_ok-bounds.ensures))
      | else-is_start w ↦
          let items : c.if-is_start.rows.items ≡ rows = cc in
          subst (λ (rs : List Row). AreRowsTo points deltas p (s + 1) rs) (sym items)
          (rows_skip points deltas p s rows c.loop-point.invariant (λ start. let tested = c.is_start.ensures.1 start in absurd cc))
    ]
