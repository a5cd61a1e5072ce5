-- The table of substitutions (OpenType, "GSUB", versions 1.0 and 1.1), as far as it has one script, DFLT, with one
-- language system that uses the one feature there is; and what it makes of a glyph at a location.
use Rattle.std.specs.Str.{bytes_eq}
use Rattle.std.specs.Prelude.{ℕ, ◌+◌, ℤ, ◌&&◌, Bool, false, codes, List, [], ◌∷◌, drop, filter, Option, Some, None, if◌then◌else◌, nat_eq, nat_le}
use Rattle.std.specs.List.{list_any}
use Rattle.basics.specs.Optional.{◌>>=◌}
use Rattle.be_bytes.specs.Reading.{uint16, uint32}
use Rattle.rule_boxes.specs.Conditions.{set_holds}
use Rattle.rule_boxes.specs.Substitution.{replaced}
use Rattle.feature_var.specs.Features.{Feature, Script, features_in, scripts_in}
use Rattle.feature_var.specs.Lookups.{lookups_in}
use Rattle.feature_var.specs.Variations.{Variation, variations_in}

-- the one feature with the lookups that it lists itself, the pairs of each lookup, and the records of variations
pub record Substitutions : Type 0 where
  pub feature : Feature
  pub lookups : List (List (ℕ × ℕ))
  pub variations : List Variation

abbrev pub default_script : List ℕ
default_script = codes "DFLT"

-- whether there is one script, DFLT, whose texts use feature 0 alone
abbrev pub is_default_alone : List Script → Bool
is_default_alone (script ∷ []) = bytes_eq script.tag default_script && bytes_eq script.features (0 ∷ [])
is_default_alone _ = false

-- featureVariationsOffset, which version 1.0 hasn't; no variations where it is 0
abbrev pub variations_at : ℕ → List ℕ → Option (List Variation)
variations_at minor bytes = if nat_eq minor 0 then Some [] else do
  offset ← uint32 (drop 10 bytes)
  if nat_eq offset 0 then Some [] else variations_in (drop offset bytes)

-- the feature where it is the only one
abbrev pub only : List Feature → Option Feature
only (feature ∷ []) = Some feature
only _ = None

-- majorVersion, minorVersion, scriptListOffset, featureListOffset, lookupListOffset, featureVariationsOffset
abbrev pub substitutions_in : List ℕ → Option Substitutions
substitutions_in bytes = do
  major ← uint16 bytes
  minor ← uint16 (drop 2 bytes)
  script_offset ← uint16 (drop 4 bytes)
  feature_offset ← uint16 (drop 6 bytes)
  lookup_offset ← uint16 (drop 8 bytes)
  scripts ← scripts_in (drop script_offset bytes)
  features ← features_in (drop feature_offset bytes)
  feature ← only features
  lookups ← lookups_in (drop lookup_offset bytes)
  variations ← variations_at minor bytes
  if nat_eq major 1 && nat_le minor 1 && is_default_alone scripts
      then Some (record { feature = feature; lookups = lookups; variations = variations })
      else None

-- ---- what it makes of a glyph

-- the records whose conditions all hold at the location
abbrev pub matching : List Variation → List ℤ → List Variation
matching variations at = filter (λ variation. set_holds variation.conditions at) variations

-- what feature 0 lists by the alternates of a record, or, where they don't name it, by itself
abbrev pub listed_by : List ℕ → List (ℕ × List ℕ) → List ℕ
listed_by own [] = own
listed_by own (alternate ∷ alternates) = if nat_eq alternate.0 0 then alternate.1 else listed_by own alternates

-- the first record that matches counts
abbrev pub listed_first : List ℕ → List Variation → List ℕ
listed_first own [] = own
listed_first own (variation ∷ variations) = listed_by own variation.alternates

-- the lookups that feature 0 lists at the location
abbrev pub listed_at : Substitutions → List ℤ → List ℕ
listed_at table at = listed_first table.feature.lookups (matching table.variations at)

-- The lookups of these numbers, the first of them counted as this, act in the order of the lookup list, each on what the
-- one before gave.
abbrev pub act : ℕ → List (List (ℕ × ℕ)) → List ℕ → ℕ → ℕ
act number [] numbers glyph = glyph
act number (pairs ∷ lookups) numbers glyph =
    act (number + 1) lookups numbers (if list_any (nat_eq number) numbers then replaced nat_eq pairs glyph else glyph)

-- the glyph that stands in place of this one at the location
abbrev pub substitute : Substitutions → List ℤ → ℕ → ℕ
substitute table at glyph = act 0 table.lookups (listed_at table at) glyph
