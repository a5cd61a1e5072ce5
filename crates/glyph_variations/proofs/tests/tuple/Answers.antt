use Rattle.std.proofs.Common.{◌≡◌, pos, negsuc, ◌≤ℤ◌, [], ◌∷◌, to_z-of_z, FitsSigned, refl, rules}
use Rattle.std.specs.Int.{w32}
use Rattle.std.proofs.lemmas.List.Elements.{All-cons, All-nil}
use Rattle.variation_rules.specs.FontUnits.{AreFWords, IsFWord}
use Rattle.glyph_variations.proofs.tests.tuple.Goals as goal

pub returns-clause-within : goal.returns-clause-within
returns-clause-within c =
    let deltas : c.from_vec.result ≡ c.pair.result ∷ c.pair-2.result ∷ c.pair-3.result ∷ c.pair-4.result ∷ [] =
    simp (c.from_vec.ensures, c.in_ok-push-4.ensures.items, c.in_ok-push-3.ensures.items, c.in_ok-push-2.ensures.items, c.in_ok-push.ensures.items, c.new-deltas.ensures.items) refl in
    let low : negsuc 32767 ≤ℤ c.from.result = search rules in
    let high : c.from.result ≤ℤ pos 32767 = search rules in
    let fits : FitsSigned w32 c.from.result = search rules in
    let word : IsFWord c.from.result = record { low = low; high = high } in
    let last = All-cons AreFWords c.pair-3.result (c.pair-4.result ∷ []) c.pair-3.ensures (All-cons AreFWords c.pair-4.result [] c.pair-4.ensures (All-nil AreFWords)) in
    let all = All-cons AreFWords c.pair.result (c.pair-2.result ∷ c.pair-3.result ∷ c.pair-4.result ∷ []) c.pair.ensures (All-cons AreFWords c.pair-2.result (c.pair-3.result ∷ c.pair-4.result ∷ []) c.pair-2.ensures last) in
    rw deltas (simp to_z-of_z (record { deltas = all; advance = word }))
