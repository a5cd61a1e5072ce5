-- A condition set is read back as it was written.
use Rattle.std.proofs.Common.{◌≡◌, ℕ, ℤ, ◌+◌, ◌*◌, ◌^◌, ◌<◌, ◌≤◌, List, ◌++◌, length, drop, Some, FitsSigned, refl, ap, ◌∙◌, arith, length-append, append_assoc}
use Rattle.std.proofs.lemmas.Int.{ints}
use Rattle.std.proofs.lemmas.List.{map-id}
use Rattle.std.specs.Int.{w16}
use Rattle.std.specs.List.{AllByRecursion, flat_map}
use Rattle.basics.specs.Optional.{each}
use Rattle.be_bytes.specs.Reading.{int16, records, uint16, uint32}
use Rattle.be_bytes.proofs.FieldLemmas.{int16-field, uint16-field}
use Rattle.be_bytes.proofs.RecordLemmas.{each_of}
use Rattle.region_support.specs.Regions.{IsNormalised}
use Rattle.rule_boxes.specs.declared.condition.Condition.{Condition}
use Rattle.feature_var.specs.Variations.{condition_in, condition_set_in}
use Rattle.feature_var.specs.Layout.{condition_bytes, condition_fields, condition_set_bytes, condition_set_size, condition_offsets, long_bytes, word_bytes}
use Rattle.feature_var.proofs.Places.{IsBlock, array_size, blocks_back, length-places_from, longs_back, places_fit}

-- a condition that can be written
pub record IsBound (condition : Condition) : Type 0 where
  pub axis : condition.axis < 8
  pub low : IsNormalised condition.low
  pub high : IsNormalised condition.high

fits_word : (z : ℤ) → IsNormalised z → FitsSigned w16 z
fits_word z is = omega (arith, ints)

read_condition : (bytes : List ℕ) (axis : ℕ) (low high : ℤ) → uint16 bytes ≡ Some 1 → uint16 (drop 2 bytes) ≡ Some axis → int16 (drop 4 bytes) ≡ Some low → int16 (drop 6 bytes) ≡ Some high → condition_in bytes ≡ Some (record { axis = axis; low = low; high = high })
read_condition bytes axis low high a b c d = rw (a, b, c, d) refl

condition_block : (condition : Condition) → IsBound condition → IsBlock condition_bytes 8 condition_in (λ own. own) condition
unfolding condition_fields
condition_block condition is = record {
  size_is = refl;
  back = λ rest. read_condition (condition_bytes condition ++ rest) condition.axis condition.low condition.high refl (uint16-field condition.axis rest (omega (arith, is.axis)))
      (int16-field condition.low rest (fits_word condition.low is.low)) (int16-field condition.high rest (fits_word condition.high is.high));
}

read_set : (bytes : List ℕ) (count : ℕ) (offsets : List ℕ) (conditions : List Condition) → uint16 bytes ≡ Some count → records uint32 4 count (drop 2 bytes) ≡ Some offsets → each (λ (offset : ℕ). condition_in (drop offset bytes)) offsets ≡ Some conditions → condition_set_in bytes ≡ Some conditions
read_set bytes count offsets conditions a b c = rw (a, b, c) refl

pub condition_set_back : (conditions : List Condition) (rest : List ℕ) → length conditions ≤ 8 → AllByRecursion IsBound conditions → condition_set_in (condition_set_bytes conditions ++ rest) ≡ Some conditions
condition_set_back conditions rest few bounds =
    let count : ℕ = length conditions in
    let bytes : List ℕ = condition_set_bytes conditions ++ rest in
    let front : List ℕ = word_bytes count ++ flat_map long_bytes (condition_offsets (length conditions)) in
    let behind : List ℕ = flat_map condition_bytes conditions ++ rest in
    let counted : length (condition_offsets (length conditions)) ≡ count = length-places_from 8 (2 + 4 * count) count in
    let sized : length front ≡ 2 + 4 * count =
    omega (arith, array_size long_bytes 4 (condition_offsets (length conditions)) (λ place. refl), counted) in
    read_set bytes count (condition_offsets (length conditions)) conditions
    (uint16-field count ((flat_map long_bytes (condition_offsets (length conditions)) ++ flat_map condition_bytes conditions) ++ rest) (omega arith))
    (ap (records uint32 4 count) (append_assoc (flat_map long_bytes (condition_offsets (length conditions))) (flat_map condition_bytes conditions) rest)
    ∙ longs_back count (condition_offsets (length conditions)) behind counted (places_fit 8 (2 ^ 32) (2 + 4 * count) count (omega arith)))
    (blocks_back condition_bytes 8 condition_in (λ (condition : Condition). condition) conditions bytes front rest (2 + 4 * count)
    (each_of IsBound (IsBlock condition_bytes 8 condition_in (λ (condition : Condition). condition)) condition_block conditions bounds)
    (simp append_assoc) sized
    ∙ ap Some (map-id conditions))

pub length-condition_set : (conditions : List Condition) → length (condition_set_bytes conditions) ≡ condition_set_size conditions
unfolding condition_fields
length-condition_set conditions =
    omega (
      arith,
      length-append (flat_map long_bytes (condition_offsets (length conditions))) (flat_map condition_bytes conditions),
      array_size long_bytes 4 (condition_offsets (length conditions)) (λ place. refl),
      array_size condition_bytes 8 conditions (λ condition. refl),
      length-places_from 8 (2 + 4 * length conditions) (length conditions),
    )
