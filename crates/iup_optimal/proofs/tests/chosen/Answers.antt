use Rattle.std.proofs.Common.{◌≡◌, ◌∷◌, [], ◌+◌, ◌++◌, sym, subst, List, ℕ, arith}
use Rattle.iup.specs.Arcs.{RisesFrom}
use Rattle.iup.proofs.SetLemmas.{rises_below, rises_push}
use Rattle.iup_optimal.proofs.tests.chosen.Goals as goal
use Rattle.iup_optimal.proofs.tests.chosen.Goals.{then-left-eq1+in_ok-push, else-left-eq1}

pub loop-i-preserved : goal.loop-i-preserved
loop-i-preserved c =
    let i = c.loop-i.i in
    elim c.if-left-eq1.branch [
      | then-left-eq1+in_ok-push w ↦
          let items : c.if-left-eq1.set.items ≡ c.loop-i.set.items ++ i ∷ [] = cc w.in_ok-push.ensures.items in
          subst (λ (xs : List ℕ). RisesFrom 0 (i + 1) xs) (sym items) (rises_push 0 (i + 1) i c.loop-i.set.items (omega arith) (omega arith) c.loop-i.invariant)
      | else-left-eq1 w ↦
          let items : c.if-left-eq1.set.items ≡ c.loop-i.set.items = cc in
          subst (λ (xs : List ℕ). RisesFrom 0 (i + 1) xs) (sym items) (rises_below 0 i (i + 1) c.loop-i.set.items (omega arith) c.loop-i.invariant)
    ]
