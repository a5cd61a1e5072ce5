use Rattle.std.proofs.Common.{◌≡◌, ◌+◌, ◌/◌, ◌<◌, ◌≤◌, ℕ, List, get_or, replicate, arith, sym, subst, ⊎_elim}
use Rattle.std.proofs.lemmas.Bool.{cases_lt}
use Rattle.std.proofs.lemmas.List.{get_or-replicate, get_or_past}
use Rattle.iup_optimal.proofs.BitLemmas.{has_none}
use Rattle.iup_optimal.proofs.bits.Bits.new.Goals as goal

pub returns-clause-none : goal.returns-clause-none
returns-clause-none c =
    let items = c.in_ok-vec.field-0.items in
    let n : ℕ = c.args.bound / 64 + 1 in
    let is : items ≡ replicate n 0 = c.in_ok-vec.ensures.items_if_clones_equal (λ y same. same) in
    has_none items (λ k. ⊎_elim
    (λ (inside : k < n). subst (λ (xs : List ℕ). get_or xs k 0 ≡ 0) (sym is) (get_or-replicate n k 0 0 inside))
    (λ (past : n ≤ k). get_or_past items k 0 (omega (arith, c.in_ok-vec.ensures.len)))
    (cases_lt k n))
