-- So many records of a size have one answer.
use Rattle.std.proofs.Common.{◌≡◌, ℕ, ◌+◌, ◌*◌, ◌^◌, ◌<◌, ◌≤◌, ⊎_elim, ap, arith}
use Rattle.std.proofs.Math.Nat.{pow-le-pow_right}
use Rattle.std.proofs.lemmas.Bool.{cases_lt}
use Rattle.std.proofs.lemmas.Nat.{pow-add}
use Rattle.search_fields.specs.SearchFields.{OneAnswer}
use Rattle.search_fields.specs.declared.SearchFields.{SearchFields}

-- a power not above the count is not above the greatest one
not_above_greatest : (count a b : ℕ) → count < 2 * 2 ^ a → 2 ^ b ≤ count → b ≤ a
not_above_greatest count a b greatest power =
    let case : a < b → b ≤ a = λ (more : a < b). absurd (let above : 2 ^ (a + 1) ≤ 2 ^ b = pow-le-pow_right (omega arith) (omega arith) in omega (arith, above, pow-add 2 a 1)) in
    ⊎_elim case (λ (is : b ≤ a). is) (cases_lt a b)

same_fields : (a b c p q r : ℕ) → a ≡ p → b ≡ q → c ≡ r → (let first : SearchFields = record { search_range = a; entry_selector = b; range_shift = c } in let second : SearchFields = record { search_range = p; entry_selector = q; range_shift = r } in first ≡ second)
same_fields a b c p q r range selector shift = cc

pub one_answer : OneAnswer
one_answer size count a b first second =
    let less = not_above_greatest count a.entry_selector b.entry_selector first.greatest second.not_above in
    let more = not_above_greatest count b.entry_selector a.entry_selector second.greatest first.not_above in
    let selector : a.entry_selector ≡ b.entry_selector = omega (arith, less, more) in
    let power = ap (λ n. size * 2 ^ n) selector in
    let range : a.search_range ≡ b.search_range = omega (arith, power, first.search_range, second.search_range) in
    let shift : a.range_shift ≡ b.range_shift = omega (arith, range, first.range_shift, second.range_shift) in
    same_fields _ _ _ b.search_range b.entry_selector b.range_shift range selector shift
