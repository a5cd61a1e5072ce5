use Rattle.std.proofs.Common.{◌≡◌, ◌+◌, ◌-◌, ◌<◌, ◌≤◌, List, ℕ, length, get_or, set, ap, sym, ◌∙◌, subst, arith}
use Rattle.std.proofs.lemmas.List.{get_or-set_other}
use Rattle.iup.specs.Bounds.{Reaches}
use Rattle.iup_optimal.specs.Tables.{IsNearestEnd}
use Rattle.iup_optimal.proofs.RowLemmas.{Shortened, shortened_kept, shortened_set, shortened_all}
use Rattle.iup_optimal.proofs.row.shorten.Goals as goal
use Rattle.iup_optimal.proofs.row.shorten.Goals.{then-through-row, else-through-row}

pub loop-end-preserved : goal.loop-end-preserved
loop-end-preserved c =
    let points = c.args.table.now.points.now in
    let deltas = c.args.table.now.deltas.now in
    let n = length points in
    let s = c.args.start in
    let from = c.args.from in
    let row = c.loop-end.row in
    let low = c.loop-end.low in
    let end = c.in-Some.end in
    let found : IsNearestEnd points deltas (s + from) (s + low) end = c.in-Some.ensures in
    let so_far : Shortened (Reaches points deltas) s n from low row = c.loop-end.invariant.shortened in
    let size : length row ≡ n + 1 = so_far.via.size in
    let not_before = found.not_before in
    let after = so_far.after in
    let to : ℕ = end - s in
    let place : end ≡ s + to = omega arith in
    let edge = subst (λ x. Reaches points deltas (s + from) x) place found.reach in
    let none : (z : ℕ) → low ≤ z → z < to → Reaches points deltas (s + from) (s + z) → ⊥ = λ z after before. found.nearest (s + z) (omega arith) (omega arith) in
    let first : get_or c.args.row.now from 0 + 1 ≡ get_or row from 0 + 1 = c.loop-end.invariant.through in
    elim c.if-through-row.branch [
      | then-through-row w ↦
          let through : ℕ = get_or row from 0 + 1 in
          let is : c.if-through-row.row ≡ set row to through = w.row-is ∙ ap (λ (k : ℕ). set row to k) first in
          let fewer : through < get_or row to 0 = omega (arith, first, w.if-through-row.true) in
          let kept : get_or (set row to through) from 0 ≡ get_or row from 0 = get_or-set_other row to from through 0 (λ same. omega arith) in
          let next = shortened_set (Reaches points deltas) s n from low to row so_far (omega arith) (omega arith) none edge fewer in
          record {
            shortened = subst (λ (xs : List ℕ). Shortened (Reaches points deltas) s n from (to + 1) xs) (sym is) next;
            through = subst (λ (xs : List ℕ). get_or c.args.row.now from 0 + 1 ≡ get_or xs from 0 + 1) (sym is) (first ∙ ap (λ k. k + 1) (sym kept));
          }
      | else-through-row w ↦
          let enough : get_or row to 0 ≤ get_or row from 0 + 1 = omega (arith, first, w.if-through-row.false) in
          let next = shortened_kept (Reaches points deltas) s n from low to row so_far (omega arith) (omega arith) none enough in
          record {
            shortened = subst (λ (xs : List ℕ). Shortened (Reaches points deltas) s n from (to + 1) xs) (sym w.row-is) next;
            through = subst (λ (xs : List ℕ). get_or c.args.row.now from 0 + 1 ≡ get_or xs from 0 + 1) (sym w.row-is) first;
          }
    ]

pub returns-then-row-to : goal.returns-then-row-to
returns-then-row-to c =
    let points = c.args.table.now.points.now in
    let deltas = c.args.table.now.deltas.now in
    let s = c.args.start in
    let found : IsNearestEnd points deltas (s + c.args.from) (s + c.loop-end.low) c.in-Some.end = c.in-Some.ensures in
    let size : length c.loop-end.row ≡ length points + 1 = c.loop-end.invariant.shortened.via.size in
    record {
      row = shortened_all (Reaches points deltas) s (length points) c.args.from c.loop-end.low c.loop-end.row c.loop-end.invariant.shortened
          (λ z low inside. found.nearest (s + z) (omega arith) (omega arith));
    }

pub returns : goal.returns
returns c =
    let points = c.args.table.now.points.now in
    let deltas = c.args.table.now.deltas.now in
    let s = c.args.start in
    record {
      row = shortened_all (Reaches points deltas) s (length points) c.args.from c.loop-end.low c.loop-end.row c.loop-end.invariant.shortened
          (λ z low inside step. c.in_default.ensures (s + z) (omega arith) step);
    }
