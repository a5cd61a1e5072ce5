-- Packed point numbers (OpenType, "Packed point numbers"): a count, and the differences from each number
-- to the next as runs, each after a control byte.
use Rattle.std.specs.Prelude.{zero, suc, ◌≡◌, ℕ, ◌+◌, ◌-◌, ◌/◌, ◌%◌, ◌^◌, ◌<◌, ◌≤◌, ◌⊎◌, List, [], ◌∷◌, ◌++◌, length, All, if◌then◌else◌, nat_lt}
use Rattle.std.specs.List.{flat_map}
use Rattle.variation_rules.specs.Fields.{word}
use Rattle.variation_rules.specs.declared.runs.PointClass.{PointClass}
use Rattle.variation_rules.specs.declared.runs.PointClass.TheVariants.{Bytes, Words}

-- differences that one control byte stands before
pub record PointRun : Type 0 where
  pub class : PointClass
  pub differences : List ℕ

-- The bytes of a run. The control byte has 0x80 for words, and in its low seven bits the number of
-- differences less one.
abbrev pub point_bytes : PointClass → List ℕ → List ℕ
point_bytes Bytes differences = (length differences - 1) ∷ differences
point_bytes Words differences = (128 + (length differences - 1)) ∷ flat_map word differences

-- a run of the class can hold the difference
abbrev pub HoldsDifference : PointClass → ℕ → Type 0
HoldsDifference Bytes difference = difference < 2 ^ 8
HoldsDifference Words difference = difference < 2 ^ 16

pub record IsPointRun (run : PointRun) : Type 0 where
  pub some : 0 < length run.differences
  pub few : length run.differences ≤ 128
  pub held : All (HoldsDifference run.class) run.differences

-- the number of points listed, in one byte below 128 or in two bytes after the flag 0x80
abbrev pub IsCount : ℕ → List ℕ → Type 0
IsCount count bytes =
    ((count < 128) × (bytes ≡ count ∷ []))
    ⊎ ((count < 2 ^ 15) × (bytes ≡ (128 + count / 256) ∷ count % 256 ∷ []))

-- the numbers that the differences lead to, the first counted from this one
abbrev pub points_after : ℕ → List ℕ → List ℕ
points_after before [] = []
points_after before (difference ∷ differences) = (before + difference) ∷ points_after (before + difference) differences

-- the numbers rise, from the low one on and below the end
abbrev pub RisesWithin : ℕ → ℕ → List ℕ → Type 0
RisesWithin low end [] = Unit {0}
RisesWithin low end (point ∷ points) = (low ≤ point) × (point < end) × RisesWithin (point + 1) end points

-- so many numbers from this one on
abbrev pub count_from : ℕ → ℕ → List ℕ
count_from zero first = []
count_from (suc n) first = first ∷ count_from n (first + 1)

-- a count and runs spell the points
pub record AreListedPoints (total : ℕ) (bytes points : List ℕ) : Type 0 where
  pub count_bytes : List ℕ
  pub runs : List PointRun
  pub some : 0 < length points
  pub count : IsCount (length points) count_bytes
  pub each : All IsPointRun runs
  pub spelled : bytes ≡ count_bytes ++ flat_map (λ run. point_bytes run.class run.differences) runs
  pub meant : points ≡ points_after 0 (flat_map (λ run. run.differences) runs)
  pub rises : RisesWithin 0 total points

-- The bytes stand for the points of a glyph that has so many, phantom points among them: all of them
-- after a single 0, or those listed.
abbrev pub ReadsPoints : ℕ → List ℕ → List ℕ → Type 0
ReadsPoints total bytes points =
    ((bytes ≡ 0 ∷ []) × (points ≡ count_from total 0)) ⊎ AreListedPoints total bytes points

-- the smallest class that can hold the difference
abbrev pub class_of_difference : ℕ → PointClass
class_of_difference difference = if nat_lt difference 256 then Bytes else Words

-- a run ends only where the next difference is of another class, or where the run is full
abbrev pub AreLongPointRuns : List PointRun → Type 0
AreLongPointRuns [] = Unit {0}
AreLongPointRuns (run ∷ []) = Unit {0}
AreLongPointRuns (run ∷ next ∷ runs) = (run.class ≡ next.class → length run.differences ≡ 128) × AreLongPointRuns (next ∷ runs)

-- The bytes stand for the listed points in maximal runs, each difference in a run of its own class and
-- the count in as few bytes as hold it.
pub record PacksListedPoints (total : ℕ) (bytes points : List ℕ) : Type 0 where
  pub are : AreListedPoints total bytes points
  pub short : length points < 128 → length are.count_bytes ≡ 1
  pub own : All (λ run. All (λ difference. class_of_difference difference ≡ run.class) run.differences) are.runs
  pub long : AreLongPointRuns are.runs

-- a single 0 exactly where every point is named, else the listed points in maximal runs
abbrev pub PacksPoints : ℕ → List ℕ → List ℕ → Type 0
PacksPoints total bytes points =
    ((points ≡ count_from total 0) × (bytes ≡ 0 ∷ [])) ⊎ ((points ≡ count_from total 0 → ⊥) × PacksListedPoints total bytes points)
