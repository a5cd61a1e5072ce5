-- Packed deltas (OpenType, "Packed deltas"): a list of values as runs, each after a control byte.
use Rattle.std.specs.Prelude.{◌≡◌, ℕ, ℤ, pos, ◌+◌, ◌-◌, ◌<◌, ◌≤◌, List, [], ◌∷◌, length, map, All, FitsSigned, if◌then◌else◌, int_le, negsuc, ◌&&◌}
use Rattle.std.specs.Ordering.{int_eq}
use Rattle.std.specs.Int.{w8, w16, cast_unsigned}
use Rattle.std.specs.List.{flat_map}
use Rattle.variation_rules.specs.Fields.{signed_word}
use Rattle.variation_rules.specs.declared.runs.DeltaClass.{DeltaClass}
use Rattle.variation_rules.specs.declared.runs.DeltaClass.TheVariants.{Zeros, Bytes, Words}

-- values that one control byte stands before
pub record DeltaRun : Type 0 where
  pub class : DeltaClass
  pub values : List ℤ

-- The bytes of a run. The control byte has 0x80 for zeros, 0x40 for words, and in its low six bits the
-- number of values less one.
abbrev pub delta_bytes : DeltaClass → List ℤ → List ℕ
delta_bytes Zeros values = (128 + (length values - 1)) ∷ []
delta_bytes Bytes values = (length values - 1) ∷ map (cast_unsigned w8) values
delta_bytes Words values = (64 + (length values - 1)) ∷ flat_map signed_word values

-- a run of the class can hold the value
abbrev pub HoldsDelta : DeltaClass → ℤ → Type 0
HoldsDelta Zeros value = value ≡ pos 0
HoldsDelta Bytes value = FitsSigned w8 value
HoldsDelta Words value = FitsSigned w16 value

pub record IsDeltaRun (run : DeltaRun) : Type 0 where
  pub some : 0 < length run.values
  pub few : length run.values ≤ 64
  pub held : All (HoldsDelta run.class) run.values

-- the bytes are those of the runs, one after another, and the values theirs
pub record AreDeltaRuns (runs : List DeltaRun) (bytes : List ℕ) (values : List ℤ) : Type 0 where
  pub each : All IsDeltaRun runs
  pub spelled : bytes ≡ flat_map (λ run. delta_bytes run.class run.values) runs
  pub meant : values ≡ flat_map (λ run. run.values) runs

-- The bytes stand for the values. A list of values has many spellings, and bytes at most one reading.
abbrev pub ReadsDeltas : List ℕ → List ℤ → Type 0
ReadsDeltas bytes values = (runs : List DeltaRun) × AreDeltaRuns runs bytes values

-- the smallest class that can hold the value
abbrev pub class_of_delta : ℤ → DeltaClass
class_of_delta value =
    if int_eq value (pos 0) then Zeros else (if int_le (negsuc 127) value && int_le value (pos 127) then Bytes else Words)

-- a run ends only where the next value is of another class, or where the run is full
abbrev pub AreLongDeltaRuns : List DeltaRun → Type 0
AreLongDeltaRuns [] = Unit {0}
AreLongDeltaRuns (run ∷ []) = Unit {0}
AreLongDeltaRuns (run ∷ next ∷ runs) = (run.class ≡ next.class → length run.values ≡ 64) × AreLongDeltaRuns (next ∷ runs)

-- The bytes stand for the values in maximal runs, each value in a run of its own class.
pub record PacksDeltas (bytes : List ℕ) (values : List ℤ) : Type 0 where
  pub runs : List DeltaRun
  pub are : AreDeltaRuns runs bytes values
  pub own : All (λ run. All (λ value. class_of_delta value ≡ run.class) run.values) runs
  pub long : AreLongDeltaRuns runs
