-- Where in the design space a feature lists other lookups (OpenType, "Common table formats", "FeatureVariations table").
use Rattle.std.specs.Prelude.{ℕ, ◌&&◌, List, [], drop, Option, Some, None, if◌then◌else◌, nat_eq}
use Rattle.basics.specs.Optional.{◌>>=◌, each}
use Rattle.be_bytes.specs.Reading.{int16, records, uint16, uint32}
use Rattle.rule_boxes.specs.declared.condition.Condition.{Condition}
use Rattle.feature_var.specs.Features.{feature_in}

-- ---- conditions

-- format, which is 1, axisIndex, filterRangeMinValue, filterRangeMaxValue; both ends are included
abbrev pub condition_in : List ℕ → Option Condition
condition_in bytes = do
  format ← uint16 bytes
  axis ← uint16 (drop 2 bytes)
  low ← int16 (drop 4 bytes)
  high ← int16 (drop 6 bytes)
  if nat_eq format 1 then Some (record { axis = axis; low = low; high = high }) else None

-- conditionCount, and the offsets of the conditions
abbrev pub condition_set_in : List ℕ → Option (List Condition)
condition_set_in bytes = do
  count ← uint16 bytes
  offsets ← records uint32 4 count (drop 2 bytes)
  each (λ offset. condition_in (drop offset bytes)) offsets

-- ---- alternates

-- featureIndex, alternateFeatureOffset
abbrev pub alternate_record_in : List ℕ → Option (ℕ × ℕ)
alternate_record_in bytes = do
  feature ← uint16 bytes
  offset ← uint32 (drop 2 bytes)
  Some (feature, offset)

-- majorVersion 1, minorVersion 0, substitutionCount, and for each feature that changes its number and the lookups that it
-- lists
abbrev pub alternates_in : List ℕ → Option (List (ℕ × List ℕ))
alternates_in bytes = do
  major ← uint16 bytes
  minor ← uint16 (drop 2 bytes)
  count ← uint16 (drop 4 bytes)
  entries ← records alternate_record_in 6 count (drop 6 bytes)
  alternates ← each (λ entry. feature_in (drop entry.1 bytes) >>= λ lookups. Some (entry.0, lookups)) entries
  if nat_eq major 1 && nat_eq minor 0 then Some alternates else None

-- ---- records

-- a record: its conditions, and the features that change where they all hold, each by its number
pub record Variation : Type 0 where
  pub conditions : List Condition
  pub alternates : List (ℕ × List ℕ)

-- nothing where the offset is 0
abbrev pub conditions_at : ℕ → List ℕ → Option (List Condition)
conditions_at offset bytes = if nat_eq offset 0 then Some [] else condition_set_in (drop offset bytes)

abbrev pub alternates_at : ℕ → List ℕ → Option (List (ℕ × List ℕ))
alternates_at offset bytes = if nat_eq offset 0 then Some [] else alternates_in (drop offset bytes)

-- conditionSetOffset, featureTableSubstitutionOffset
abbrev pub offsets_in : List ℕ → Option (ℕ × ℕ)
offsets_in bytes = do
  conditions ← uint32 bytes
  alternates ← uint32 (drop 4 bytes)
  Some (conditions, alternates)

-- what stands at the two offsets
abbrev pub variation_at : List ℕ → ℕ × ℕ → Option Variation
variation_at bytes offsets = do
  conditions ← conditions_at offsets.0 bytes
  alternates ← alternates_at offsets.1 bytes
  Some (record { conditions = conditions; alternates = alternates })

-- majorVersion 1, minorVersion 0, featureVariationRecordCount, and the offsets of each record
abbrev pub variations_in : List ℕ → Option (List Variation)
variations_in bytes = do
  major ← uint16 bytes
  minor ← uint16 (drop 2 bytes)
  count ← uint32 (drop 4 bytes)
  offsets ← records offsets_in 8 count (drop 8 bytes)
  variations ← each (variation_at bytes) offsets
  if nat_eq major 1 && nat_eq minor 0 then Some variations else None
