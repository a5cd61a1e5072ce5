use Rattle.std.proofs.Common.{◌≡◌, ◌+◌, ◌-◌, ◌<◌, ◌≤◌, ℕ, length, get_or, ap, sym, ◌∙◌, subst, arith}
use Rattle.std.proofs.lemmas.List.{get_or_read}
use Rattle.iup.specs.Bounds.{Reaches, IsLeastRow}
use Rattle.iup_optimal.specs.Rows.{IsRowBack}
use Rattle.iup_optimal.specs.Rounds.{AreRounds}
use Rattle.iup_optimal.proofs.RowLemmas.{row_small}
use Rattle.iup_optimal.proofs.RoundLemmas.{FirstPassed, rounds_passed, rounds_own}
use Rattle.iup_optimal.proofs.rounds.rounds_from.Goals as goal

pub overflow_add-index : goal.overflow_add-index
overflow_add-index c =
    let points = c.args.table.now.points.now in
    let deltas = c.args.table.now.deltas.now in
    let n = length points in
    let few : n ≤ 1024 = c.args.table.now.contour.few in
    let row = c.in_ok-row.row.items in
    let left = c.in_ok-left.left.items in
    let count : c.len-count.result ≡ n = c.len-count.ensures in
    let a = c.loop-place.place in
    let before : a < c.len-count.result = c.loop-place-test.true in
    let least : IsLeastRow points deltas c.args.start row = c.in_ok-row.ensures in
    let size = least.size in
    let size_left = c.in_ok-left.ensures.size in
    let first = get_or_read row a c.index.result.now (omega arith) c.index.ensures 0 in
    let rest = get_or_read left (c.len-count.result - a) c.index-in-loop-place.result.now (omega arith) c.index-in-loop-place.ensures 0 in
    let one = row_small points deltas c.args.start row a c.args.table.now.contour.some least (omega arith) in
    let other = c.in_ok-left.ensures.row.small (c.len-count.result - a) (omega arith) in
    omega arith

pub returns-then-index-size : goal.returns-then-index-size
returns-then-index-size c =
    let points = c.args.table.now.points.now in
    let deltas = c.args.table.now.deltas.now in
    let n = length points in
    let s = c.args.start in
    let row = c.in_ok-row.row.items in
    let left = c.in_ok-left.left.items in
    let count : c.len-count.result ≡ n = c.len-count.ensures in
    let a = c.loop-place.place in
    let before : a < c.len-count.result = c.loop-place-test.true in
    let least : IsLeastRow points deltas s row = c.in_ok-row.ensures in
    let size = least.size in
    let size_left = c.in_ok-left.ensures.size in
    let first = get_or_read row a c.index.result.now (omega arith) c.index.ensures 0 in
    let rest = get_or_read left (c.len-count.result - a) c.index-in-loop-place.result.now (omega arith) c.index-in-loop-place.ensures 0 in
    let last = get_or_read row c.len-count.result c.index-size.result.now (omega arith) c.index-size.ensures 0 in
    let seen = subst (λ (k : ℕ). FirstPassed k s row left a) count c.loop-place.invariant in
    let total : get_or row a 0 + get_or left (n - a) 0 ≡ get_or row n 0 = omega (arith, first, rest, last, c.if-index-size.true, ap (λ k. get_or left (k - a) 0) count, ap (λ k. get_or row k 0) count) in
    let rounds = rounds_passed points deltas c.args.table.now.contour.same s c.requires row left least (subst (λ (k : ℕ). IsRowBack (Reaches points deltas) (s + k) left) count c.in_ok-left.ensures.row) size_left a seen (omega arith) total in
    let size_is : get_or row n 0 ≡ c.index-size.result.now = sym (last ∙ ap (λ k. get_or row k 0) count) in
    let first_is : s + a - n ≡ s + a - c.len-count.result = ap (λ k. s + a - k) (sym count) in
    subst (λ (f : ℕ). AreRounds (Reaches points deltas) n s (record { size = c.index-size.result.now; first = f })) first_is
    (subst (λ (m : ℕ). AreRounds (Reaches points deltas) n s (record { size = m; first = s + a - n })) size_is rounds)

pub returns : goal.returns
returns c =
    let points = c.args.table.now.points.now in
    let deltas = c.args.table.now.deltas.now in
    let n = length points in
    let s = c.args.start in
    let row = c.in_ok-row.row.items in
    let left = c.in_ok-left.left.items in
    let count : c.len-count.result ≡ n = c.len-count.ensures in
    let least : IsLeastRow points deltas s row = c.in_ok-row.ensures in
    let size = least.size in
    let last = get_or_read row c.len-count.result c.index-size.result.now (omega arith) c.index-size.ensures 0 in
    let seen = subst (λ (k : ℕ). FirstPassed k s row left c.loop-place.place) count c.loop-place.invariant in
    let rounds = rounds_own points deltas c.args.table.now.contour.same s c.requires row left least (subst (λ (k : ℕ). IsRowBack (Reaches points deltas) (s + k) left) count c.in_ok-left.ensures.row) c.in_ok-left.ensures.size c.loop-place.place seen (omega arith) in
    let size_is : get_or row n 0 ≡ c.index-size.result.now = sym (last ∙ ap (λ k. get_or row k 0) count) in
    subst (λ (m : ℕ). AreRounds (Reaches points deltas) n s (record { size = m; first = s })) size_is rounds
