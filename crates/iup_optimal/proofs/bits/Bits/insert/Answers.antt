use Rattle.std.proofs.Common.{◌≡◌, ◌*◌, ◌/◌, ◌%◌, ◌^◌, ℕ, refl, get_or, slice_set, bit_or, ◌∙◌, arith}
use Rattle.std.proofs.lemmas.Grind.{one_shifted}
use Rattle.std.proofs.lemmas.List.{get_or_read, get_or-set_same, get_or-set_other}
use Rattle.iup_optimal.proofs.BitLemmas.{has_insert}
use Rattle.iup_optimal.proofs.bits.Bits.insert.Goals as goal

pub returns-clause-has : goal.returns-clause-has
returns-clause-has c =
    let words = c.args.self.now.words.items in
    let k = c.args.number in
    let word : ℕ = bit_or c.index_mut.result.now (1 * 2 ^ (k % 64) % 18446744073709551616) in
    let read = get_or_read words (k / 64) c.index_mut.result.now (omega arith) c.index_mut.ensures.value 0 in
    let one : 1 * 2 ^ (k % 64) % 18446744073709551616 ≡ 2 ^ (k % 64) = (one_shifted (k % 64) 18446744073709551615 refl (omega arith)).0 in
    let is : word ≡ bit_or (get_or words (k / 64) 0) (2 ^ (k % 64)) = rw (one, read) refl in
    has_insert words (slice_set words (k / 64) word) k
    (get_or-set_same words (k / 64) word 0 (omega arith) ∙ is)
    (λ i other. get_or-set_other words (k / 64) i word 0 other)
