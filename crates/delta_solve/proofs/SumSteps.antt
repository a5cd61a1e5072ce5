-- Steps of the loops that add up scalars times deltas.
use Rattle.std.proofs.Common.{◌≡◌, ℕ, ℤ, pos, negsuc, ◌+◌, ◌*◌, ◌<◌, ◌≤◌, ◌≤ℤ◌, min, ◌+ℤ◌, ◌*ℤ◌, List, [], ◌∷◌, length, map, drop, get_or, refl, sym, ◌∙◌, ap, arith}
use Rattle.std.proofs.lemmas.Int.{ints}
use Rattle.std.proofs.lemmas.List.{drop_more, length-drop, get_or-map}
use Rattle.std.proofs.Math.IntN.{+ℤ_idr, +ℤ_assoc}
use Rattle.std.proofs.Math.Nat.{mul-le-mul_right}
use Rattle.variation_rules.specs.FontUnits.{IsFWord, IsWithin}
use Rattle.delta_solve.specs.Deltas.{dot}
use Rattle.delta_solve.specs.Tables.{IsScalar}

-- a part of a delta is no greater than 2 ^ 31
product_size : (s d : ℕ) → s ≤ 65536 → d ≤ 32768 → s * d ≤ 2147483648
product_size s d scalar word = let grown = mul-le-mul_right d scalar in omega (arith, grown)

pub product_within : (s z : ℤ) → IsScalar s → IsFWord z → IsWithin 2147483648 (s *ℤ z)
product_within (pos s) (pos d) scalar word =
    let scalar_high : pos s ≤ℤ pos 65536 = scalar.high in
    let word_high : pos d ≤ℤ pos 32767 = word.high in
    let size = product_size s d (omega (arith, ints)) (omega (arith, ints)) in
    record { low = omega (arith, ints, size); high = omega (arith, ints, size) }
product_within (pos s) (negsuc d) scalar word =
    let scalar_high : pos s ≤ℤ pos 65536 = scalar.high in
    let word_low : negsuc 32767 ≤ℤ negsuc d = word.low in
    let size = product_size s (d + 1) (omega (arith, ints)) (omega (arith, ints)) in
    record { low = omega (arith, ints, size); high = omega (arith, ints, size) }
product_within (negsuc s) z scalar word = absurd (omega (arith, ints, scalar.low))

-- one more keeps so many within bounds
pub sum_within : (k : ℕ) (sum moved : ℤ) → IsWithin (k * 2147483648) sum → IsWithin 2147483648 moved → IsWithin ((k + 1) * 2147483648) (sum +ℤ moved)
sum_within k sum moved so_far more = record { low = omega (arith, ints, so_far, more); high = omega (arith, ints, so_far, more) }

-- one product more, where what is left completes the sum
pub dot_step : (row deltas : List ℤ) (k : ℕ) (so_far moved whole : ℤ) → k < length row → k < length deltas → moved ≡ get_or row k (pos 0) *ℤ get_or deltas k (pos 0)
    → so_far +ℤ dot (drop k row) (drop k deltas) ≡ whole → (so_far +ℤ moved) +ℤ dot (drop (k + 1) row) (drop (k + 1) deltas) ≡ whole
dot_step row deltas k so_far moved whole inside also moved_is rest =
    let later = dot (drop (k + 1) row) (drop (k + 1) deltas) in
    +ℤ_assoc so_far moved later ∙ (ap (λ z. so_far +ℤ (z +ℤ later)) moved_is ∙ rw (drop_more row k (pos 0) inside, drop_more deltas k (pos 0) also) at rest)

-- nothing is left where one of the lists has ended
dot_none : (row deltas : List ℤ) → min (length row) (length deltas) ≤ 0 → dot row deltas ≡ pos 0
dot_none [] deltas ended = refl
dot_none (s ∷ row) [] ended = refl
dot_none (s ∷ row) (d ∷ deltas) ended = absurd (omega arith)

pub dot_end : (row deltas : List ℤ) (k : ℕ) (so_far whole : ℤ) → min (length row) (length deltas) ≤ k → so_far +ℤ dot (drop k row) (drop k deltas) ≡ whole → so_far ≡ whole
dot_end row deltas k so_far whole ended rest =
    let none = dot_none (drop k row) (drop k deltas) (omega (arith, length-drop k row, length-drop k deltas)) in
    sym (+ℤ_idr so_far) ∙ (ap (λ z. so_far +ℤ z) (sym none) ∙ rest)

-- the number of an item among the numbers of all
pub number_at : {X : Type 0} (f : X → ℤ) (items : List X) (k : ℕ) (item : X) → k < length items → item ≡ get_or items k item → f item ≡ get_or (map f items) k (pos 0)
number_at f items k item inside is = ap f is ∙ sym (get_or-map f items k item (pos 0) inside)
