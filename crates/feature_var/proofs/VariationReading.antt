-- The records of variations, with what they refer to, are read back as they were written.
use Rattle.std.proofs.Common.{◌≡◌, ℕ, ◌+◌, ◌*◌, ◌^◌, ◌<◌, ◌≤◌, false, List, [], ◌∷◌, ◌++◌, length, map, drop, Some, refl, sym, ap, ◌∙◌, arith, length-append, append_assoc}
use Rattle.std.proofs.lemmas.List.{append-nil, drop-drop, drop_at}
use Rattle.std.specs.Prelude.{nat_eq}
use Rattle.std.specs.List.{AllByRecursion, flat_map}
use Rattle.basics.specs.Optional.{each}
use Rattle.be_bytes.specs.Fields.{fields_bytes}
use Rattle.be_bytes.specs.Reading.{records, uint16, uint32}
use Rattle.be_bytes.proofs.FieldLemmas.{uint32-field}
use Rattle.be_bytes.proofs.RecordLemmas.{ComesBack, each_of, records_back}
use Rattle.rule_boxes.specs.declared.condition.Condition.{Condition}
use Rattle.rule_boxes.specs.declared.cell.Cell.{Cell}
use Rattle.feature_var.specs.Variations.{Variation, alternates_in, condition_set_in, offsets_in, variation_at, variations_in}
use Rattle.feature_var.specs.Layout.{alternate_bytes, block_bytes, block_size, condition_set_bytes, condition_set_size, conditions_of, record_bytes, record_fields, records_from, variations_bytes, variations_fields}
use Rattle.feature_var.proofs.ConditionReading.{IsBound, condition_set_back, length-condition_set}
use Rattle.feature_var.proofs.FeatureReading.{alternates_back, length-alternate}
use Rattle.feature_var.proofs.Places.{IsWord, array_size, each_more, further, stands_at}

-- a box that can be written
pub record IsBlockOf (cell : Cell) : Type 0 where
  pub few_conditions : length (conditions_of cell) ≤ 8
  pub bounds : AllByRecursion IsBound (conditions_of cell)
  pub few_rules : length cell.rules ≤ 64
  pub words : AllByRecursion IsWord cell.rules

-- what is read of it
abbrev pub variation_of : Cell → Variation
variation_of cell = record { conditions = conditions_of cell; alternates = (0, cell.rules) ∷ [] }

-- ---- one record

pub length-block : (cell : Cell) → length (block_bytes cell) ≡ block_size cell
length-block cell =
    omega (arith, length-append (condition_set_bytes (conditions_of cell)) (alternate_bytes cell.rules), length-condition_set (conditions_of cell), length-alternate cell.rules)

read_variation : (bytes : List ℕ) (first second : ℕ) (conditions : List Condition) (alternates : List (ℕ × List ℕ)) → nat_eq first 0 ≡ false → nat_eq second 0 ≡ false → condition_set_in (drop first bytes) ≡ Some conditions → alternates_in (drop second bytes) ≡ Some alternates
    → variation_at bytes (first, second) ≡ Some (record { conditions = conditions; alternates = alternates })
read_variation bytes first second conditions alternates a b c d = rw (a, b, c, d) refl

pub above_zero : (n : ℕ) → 0 < n → nat_eq n 0 ≡ false
above_zero n above = grind (arith)

-- a block, at the offsets of its record
block_back : (cell : Cell) (bytes after : List ℕ) (place : ℕ) → IsBlockOf cell → 0 < place → drop place bytes ≡ block_bytes cell ++ after → variation_at bytes (place, place + condition_set_size (conditions_of cell)) ≡ Some (variation_of cell)
block_back cell bytes after place is above there =
    let conditions : List Condition = conditions_of cell in
    let size : ℕ = condition_set_size conditions in
    let whole : drop place bytes ≡ condition_set_bytes conditions ++ (alternate_bytes cell.rules ++ after) = there ∙ append_assoc (condition_set_bytes conditions) (alternate_bytes cell.rules) after in
    read_variation bytes place (place + size) conditions ((0, cell.rules) ∷ []) (above_zero place above) (above_zero (place + size) (omega arith))
    (ap condition_set_in whole ∙ condition_set_back conditions (alternate_bytes cell.rules ++ after) is.few_conditions is.bounds)
    (ap alternates_in (sym (drop-drop size place bytes) ∙ (ap (drop size) whole ∙ drop_at (condition_set_bytes conditions) (alternate_bytes cell.rules ++ after) size (length-condition_set conditions)))
    ∙ alternates_back cell.rules after (omega (arith, is.few_rules)) is.words)

blocks_back : (cells : List Cell) (bytes front rest : List ℕ) (place : ℕ) → AllByRecursion IsBlockOf cells → 0 < place → bytes ≡ front ++ (flat_map block_bytes cells ++ rest) → length front ≡ place → each (variation_at bytes) (records_from place cells) ≡ Some (map variation_of cells)
blocks_back [] bytes front rest place are above spelled sized = refl
blocks_back (cell ∷ cells) bytes front rest place are above spelled sized =
    each_more (variation_at bytes) (place, place + condition_set_size (conditions_of cell)) (records_from (place + block_size cell) cells) (variation_of cell) (map variation_of cells)
    (block_back cell bytes (flat_map block_bytes cells ++ rest) place are.0 above (stands_at bytes front (block_bytes cell) (flat_map block_bytes cells) rest place spelled sized))
    (blocks_back cells bytes (front ++ block_bytes cell) rest (place + block_size cell) are.1 (omega arith) (further bytes front (block_bytes cell) (flat_map block_bytes cells) rest spelled)
    (omega (arith, length-append front (block_bytes cell), length-block cell)))

-- ---- the records

-- two offsets of 32 bits
pub record IsRecord (offsets : ℕ × ℕ) : Type 0 where
  pub first : offsets.0 < 2 ^ 32
  pub second : offsets.1 < 2 ^ 32

read_offsets : (bytes : List ℕ) (first second : ℕ) → uint32 bytes ≡ Some first → uint32 (drop 4 bytes) ≡ Some second → offsets_in bytes ≡ Some (first, second)
read_offsets bytes first second a b = rw (a, b) refl

record_back : (offsets : ℕ × ℕ) → IsRecord offsets → ComesBack record_bytes offsets_in 8 offsets
unfolding record_fields
record_back offsets is = record {
  size_is = refl;
  back = read_offsets (record_bytes offsets) offsets.0 offsets.1 (uint32-field offsets.0 (fields_bytes (record_fields offsets)) is.first) (uint32-field offsets.1 [] is.second);
}

length-records_from : (place : ℕ) (cells : List Cell) → length (records_from place cells) ≡ length cells
length-records_from place [] = refl
length-records_from place (cell ∷ cells) = omega (arith, length-records_from (place + block_size cell) cells)

records_fit : (place : ℕ) (cells : List Cell) → AllByRecursion IsBlockOf cells → place + 242 * length cells < 2 ^ 32 → AllByRecursion IsRecord (records_from place cells)
records_fit place [] are small = tt
records_fit place (cell ∷ cells) are small =
    (record { first = omega arith; second = omega (arith, are.0.few_conditions) }, records_fit (place + block_size cell) cells are.1 (omega (arith, are.0.few_conditions, are.0.few_rules)))

-- ---- the whole

read_variations : (bytes : List ℕ) (count : ℕ) (offsets : List (ℕ × ℕ)) (variations : List Variation) → uint16 bytes ≡ Some 1 → uint16 (drop 2 bytes) ≡ Some 0 → uint32 (drop 4 bytes) ≡ Some count → records offsets_in 8 count (drop 8 bytes) ≡ Some offsets
    → each (variation_at bytes) offsets ≡ Some variations → variations_in bytes ≡ Some variations
read_variations bytes count offsets variations a b c d e = rw (a, b, c, d, e) refl

pub variations_back : (cells : List Cell) → length cells ≤ 32768 → AllByRecursion IsBlockOf cells → variations_in (variations_bytes cells) ≡ Some (map variation_of cells)
unfolding variations_fields record_fields
variations_back cells few are =
    let count : ℕ = length cells in
    let bytes : List ℕ = variations_bytes cells in
    let own : List (ℕ × ℕ) = records_from (8 + 8 * count) cells in
    let blocks : List ℕ = flat_map block_bytes cells in
    let front : List ℕ = fields_bytes (variations_fields count) ++ flat_map record_bytes own in
    let counted : length own ≡ count = length-records_from (8 + 8 * count) cells in
    read_variations bytes count own (map variation_of cells) refl refl
    (uint32-field count (flat_map record_bytes own ++ blocks) (omega arith))
    (ap (λ (n : ℕ). records offsets_in 8 n (flat_map record_bytes own ++ blocks)) (sym counted)
    ∙ records_back record_bytes offsets_in 8 own blocks (each_of IsRecord (ComesBack record_bytes offsets_in 8) record_back own (records_fit (8 + 8 * count) cells are (omega arith))))
    (blocks_back cells bytes front [] (8 + 8 * count) are (omega arith) (simp (append_assoc, append-nil)) (omega (arith, array_size record_bytes 8 own (λ offsets. refl), counted)))
