use Rattle.std.proofs.Common.{◌/◌, ◌%◌, ◌^◌, ◌↔◌, IsTrue, ℕ, subst, sym, eqb, arith}
use Rattle.std.proofs.lemmas.List.{get_or_read}
use Rattle.std.specs.Prelude.{bit_and}
use Rattle.iup_optimal.specs.BitSets.{Has}
use Rattle.iup_optimal.proofs.BitLemmas.{has_tests}
use Rattle.iup_optimal.proofs.bits.Bits.contains.Goals as goal

pub returns : goal.returns
returns c =
    let words = c.args.self.now.words.items in
    let m = c.args.number in
    let read = get_or_read words (m / 64) c.index.result.now (omega arith) c.index.ensures 0 in
    subst (λ (w : ℕ). IsTrue (eqb (bit_and (w / 2 ^ (m % 64)) 1) 1) ↔ Has words m) (sym read) (has_tests words m)
