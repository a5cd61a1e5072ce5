use Rattle.std.proofs.Common.{◌≡◌, ◌*◌, length, ℕ, subst, arith}
use Rattle.iup_optimal.specs.Tables.{TellsArcs}
use Rattle.iup_optimal.proofs.table.Table.new.Goals as goal

pub invariant_of-result : goal.invariant_of-result
invariant_of-result c =
    let points = c.args.points.now in
    let n = length points in
    let end : c.loop-point.point ≡ n = omega arith in
    record {
      contour = c.requires;
      room = c.loop-point.invariant.room;
      tells = subst (λ (k : ℕ). TellsArcs points c.args.deltas.now (k * n) c.loop-point.arcs.words.items) end c.loop-point.invariant.tells;
    }
