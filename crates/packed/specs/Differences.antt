-- The two parts of packed points: the count in as few bytes as hold it, and the differences in maximal runs.
use Rattle.std.specs.Prelude.{◌≡◌, ℕ, ◌+◌, ◌/◌, ◌%◌, List, [], ◌∷◌, ◌++◌, All, if◌then◌else◌, nat_lt}
use Rattle.std.specs.List.{flat_map}
use Rattle.variation_rules.specs.PackedPoints.{PointRun, IsPointRun, AreLongPointRuns, class_of_difference, point_bytes}

-- the number of points listed, in one byte below 128, else in two after the flag 0x80
abbrev pub count_bytes : ℕ → List ℕ
count_bytes count = if nat_lt count 128 then count ∷ [] else ((128 + count / 256) ∷ count % 256 ∷ [])

-- the bytes stand for the differences in maximal runs, each difference in a run of its own class
pub record PacksDifferences (bytes differences : List ℕ) : Type 0 where
  pub runs : List PointRun
  pub each : All IsPointRun runs
  pub spelled : bytes ≡ flat_map (λ run. point_bytes run.class run.differences) runs
  pub meant : differences ≡ flat_map (λ run. run.differences) runs
  pub own : All (λ run. All (λ difference. class_of_difference difference ≡ run.class) run.differences) runs
  pub long : AreLongPointRuns runs

-- after the old bytes stand such bytes
pub record AddsDifferences (old new differences : List ℕ) : Type 0 where
  pub added : List ℕ
  pub beyond : new ≡ old ++ added
  pub packs : PacksDifferences added differences
