use Rattle.std.proofs.Common.{◌≡◌, ◌+◌, ◌-◌, ◌*◌, ◌%◌, ◌<◌, length, sym, ◌∙◌, ap, arith}
use Rattle.std.proofs.Math.Nat.{mod-eq_of_lt, add-mod_right}
use Rattle.std.proofs.lemmas.Nat.{mul-add-lt}
use Rattle.iup_optimal.proofs.table.Table.row.Goals as goal
use Rattle.iup_optimal.proofs.table.Table.row.Goals.{Joined-from-count, then-from-count, else-from-count}

on : (c : Joined-from-count) → c.args.from % length c.args.self.now.points.now ≡ c.if-from-count.point
on c =
    let n = length c.args.self.now.points.now in
    let from = c.args.from in
    elim c.if-from-count.branch [
      | then-from-count w ↦
          let is : c.if-from-count.point ≡ from = w.point-is in
          let inside : from < n = omega arith in
          mod-eq_of_lt inside ∙ sym is
      | else-from-count w ↦
          let is : c.if-from-count.point ≡ from - n = w.point-is in
          let back : from - n + n ≡ from = omega arith in
          let inside : from - n < n = omega arith in
          ap (λ x. x % n) (sym back) ∙ (add-mod_right (from - n) n ∙ (mod-eq_of_lt inside ∙ sym is))
    ]

pub returns-clause-is : goal.returns-clause-is
returns-clause-is c = ap (λ x. x * length c.args.self.now.points.now) (sym (on (goal.at.returns-clause-is c).Joined-from-count))

pub returns-clause-room : goal.returns-clause-room
returns-clause-room c =
    let n = length c.args.self.now.points.now in
    let some : 0 < n = c.args.self.now.contour.some in
    let at = on (goal.at.returns-clause-room c).Joined-from-count in
    let point = c.if-from-count.point in
    let low : point < n = omega arith in
    omega (arith, mul-add-lt point n (n - 1) n low (omega arith))
