use Rattle.std.proofs.Common.{◌≡◌, ℕ, ◌/◌, ◌%◌, ◌^◌, ◌<◌, ◌≤◌, get_or, sym, ap, ◌∙◌, ⊎_elim, arith, rules, w64}
use Rattle.std.proofs.lemmas.Bool.{cases_lt}
use Rattle.std.proofs.lemmas.List.{get_or_read}
use Rattle.std.specs.Int.{trailing_zeros}
use Rattle.iup_optimal.proofs.BitLemmas.{none_left, Lowest, lowest_left}
use Rattle.iup_optimal.proofs.bits.Bits.next.Goals as goal
use Rattle.iup_optimal.proofs.bits.Bits.next.Goals.{Then-left-ne0}

-- the lowest bit of the word that is looked at
lowest : (c : Then-left-ne0) → Lowest c.args.self.now.words.items c.loop-at.at (trailing_zeros w64 (c.index.result.now / 2 ^ (c.loop-at.at % 64)))
lowest c =
    let words = c.args.self.now.words.items in
    let at = c.loop-at.at in
    let before : at < c.args.high = c.loop-at-test.true in
    let word = c.index.result.now in
    let fits : word < 2 ^ 64 = search rules in
    let read = get_or_read words (at / 64) word (omega arith) c.index.ensures 0 in
    let some : 0 < word / 2 ^ (at % 64) = omega (arith, c.if-left-ne0.true) in
    lowest_left words at word read fits some

pub overflow_add-next : goal.overflow_add-next
overflow_add-next c =
    let low = lowest (goal.at.overflow_add-next c).Then-left-ne0 in
    let small = low.inside in
    let before : c.loop-at.at < c.args.high = c.loop-at-test.true in
    omega arith

pub returns-then-next-high : goal.returns-then-next-high
returns-then-next-high c =
    let low = lowest (goal.at.returns-then-next-high c).Then-left-ne0 in
    let first = c.loop-at.invariant.from_low in
    record {
      not_below = omega arith;
      below = c.if-next-high.true;
      has = low.has;
      none_before = λ k from before has. ⊎_elim
          (λ (seen : k < c.loop-at.at). c.loop-at.invariant.none k from seen has)
          (λ (not_seen : c.loop-at.at ≤ k). low.none_before k not_seen before has)
          (cases_lt k c.loop-at.at);
    }

pub returns-else-next-high : goal.returns-else-next-high
returns-else-next-high c k from high has =
    let low = lowest (goal.at.returns-else-next-high c).Then-left-ne0 in
    ⊎_elim
    (λ (seen : k < c.loop-at.at). c.loop-at.invariant.none k from seen has)
    (λ (not_seen : c.loop-at.at ≤ k). low.none_before k not_seen (omega (arith, c.if-next-high.false)) has)
    (cases_lt k c.loop-at.at)

pub loop-at-preserved : goal.loop-at-preserved
loop-at-preserved c =
    let words = c.args.self.now.words.items in
    let at = c.loop-at.at in
    let before : at < c.args.high = c.loop-at-test.true in
    let read = get_or_read words (at / 64) c.index.result.now (omega arith) c.index.ensures 0 in
    let empty : get_or words (at / 64) 0 / 2 ^ (at % 64) ≡ 0 = ap (λ (w : ℕ). w / 2 ^ (at % 64)) (sym read) ∙ c.if-left-ne0.false in
    let first = c.loop-at.invariant.from_low in
    record {
      from_low = omega arith;
      none = λ k from below has. ⊎_elim
          (λ (seen : k < at). c.loop-at.invariant.none k from seen has)
          (λ (not_seen : at ≤ k). none_left words at k empty not_seen below has)
          (cases_lt k at);
    }
