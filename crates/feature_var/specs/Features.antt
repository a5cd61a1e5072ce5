-- Features, and the scripts that use them (OpenType, "Common table formats").
use Rattle.std.specs.Prelude.{ℕ, ◌&&◌, List, drop, Option, Some, None, if◌then◌else◌, nat_eq}
use Rattle.basics.specs.Optional.{◌>>=◌, each}
use Rattle.be_bytes.specs.Reading.{records, tag, uint16}

-- ---- features

-- featureParamsOffset, which is 0, lookupIndexCount, and the numbers of the lookups
abbrev pub feature_in : List ℕ → Option (List ℕ)
feature_in bytes = do
  parameters ← uint16 bytes
  count ← uint16 (drop 2 bytes)
  lookups ← records uint16 2 count (drop 4 bytes)
  if nat_eq parameters 0 then Some lookups else None

-- a tag, and the offset of what it names
abbrev pub tagged_in : List ℕ → Option (List ℕ × ℕ)
tagged_in bytes = do
  letters ← tag bytes
  offset ← uint16 (drop 4 bytes)
  Some (letters, offset)

-- a feature: its tag, and the lookups that it lists
pub record Feature : Type 0 where
  pub tag : List ℕ
  pub lookups : List ℕ

-- the feature list: featureCount, and the tags with the offsets of the features
abbrev pub features_in : List ℕ → Option (List Feature)
features_in bytes = do
  count ← uint16 bytes
  entries ← records tagged_in 6 count (drop 2 bytes)
  each (λ entry. feature_in (drop entry.1 bytes) >>= λ lookups. Some (record { tag = entry.0; lookups = lookups })) entries

-- ---- scripts

-- a language system: lookupOrderOffset, which is 0; requiredFeatureIndex, which is 0xFFFF, so none; featureIndexCount, and
-- the numbers of the features
abbrev pub language_in : List ℕ → Option (List ℕ)
language_in bytes = do
  order ← uint16 bytes
  required ← uint16 (drop 2 bytes)
  count ← uint16 (drop 4 bytes)
  features ← records uint16 2 count (drop 6 bytes)
  if nat_eq order 0 && nat_eq required 0xFFFF then Some features else None

-- a script with one language system, the default one: defaultLangSysOffset, and langSysCount, which is 0
abbrev pub script_in : List ℕ → Option (List ℕ)
script_in bytes = do
  offset ← uint16 bytes
  languages ← uint16 (drop 2 bytes)
  features ← language_in (drop offset bytes)
  if nat_eq languages 0 then Some features else None

-- a script: its tag, and the features of all its texts
pub record Script : Type 0 where
  pub tag : List ℕ
  pub features : List ℕ

-- the script list: scriptCount, and the tags with the offsets of the scripts
abbrev pub scripts_in : List ℕ → Option (List Script)
scripts_in bytes = do
  count ← uint16 bytes
  entries ← records tagged_in 6 count (drop 2 bytes)
  each (λ entry. script_in (drop entry.1 bytes) >>= λ features. Some (record { tag = entry.0; features = features })) entries
