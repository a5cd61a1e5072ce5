-- Packed points: their differences, a run before packed ones, the count, and how many bytes they take.
use Rattle.std.proofs.Common.{◌≡◌, ℕ, ◌+◌, ◌*◌, ◌^◌, ◌<◌, ◌≤◌, inl, inr, List, [], ◌∷◌, ◌++◌, length, get_or, All, refl, sym, ap, subst, ◌∙◌, arith, length-append, append_assoc}
use Rattle.std.proofs.lemmas.List.{append-nil}
use Rattle.std.specs.List.{flat_map}
use Rattle.std.proofs.lemmas.List.Elements.{All-head, All-tail, All-cons, All-nil}
use Rattle.std.proofs.lemmas.Bool.{cases_lt}
use Rattle.variation_rules.specs.Fields.{word}
use Rattle.variation_rules.specs.PackedPoints.{PointRun, IsPointRun, IsCount, AreLongPointRuns, HoldsDifference, PacksListedPoints, RisesWithin, class_of_difference, point_bytes, points_after}
use Rattle.variation_rules.specs.declared.runs.PointClass.{PointClass}
use Rattle.variation_rules.specs.declared.runs.PointClass.TheVariants.{Bytes, Words}
use Rattle.packed.specs.Differences.{PacksDifferences, AddsDifferences, count_bytes}
use Rattle.packed.specs.FirstRun.{GoesOn, BeginsWithRun}
use Rattle.packed.proofs.FirstRun.{AreOwn}
use Rattle.packed.proofs.RunLists.{AreLong, AreWhole, all_of_both, long_before}

-- the class and the differences of a run
abbrev pub class : PointRun → PointClass
class run = run.class

abbrev pub differences : PointRun → List ℕ
differences run = run.differences

-- the bytes and the differences of runs
abbrev pub bytes_of : List PointRun → List ℕ
bytes_of runs = flat_map (λ run. point_bytes run.class run.differences) runs

abbrev pub differences_of : List PointRun → List ℕ
differences_of runs = flat_map (λ run. run.differences) runs

-- the differences of a run are of its class
abbrev pub IsOwn : PointRun → Type 0
IsOwn run = AreOwn class_of_difference run.class run.differences

-- runs that are long are so as any runs are
pub to_long : (runs : List PointRun) → AreLongPointRuns runs → AreLong class_of_difference 128 class differences runs
to_long [] long = tt
to_long (run ∷ []) long = tt
to_long (run ∷ next ∷ runs) long = (long.0, to_long (next ∷ runs) long.1)

from_long : (runs : List PointRun) → AreLong class_of_difference 128 class differences runs → AreLongPointRuns runs
from_long [] long = tt
from_long (run ∷ []) long = tt
from_long (run ∷ next ∷ runs) long = (long.0, from_long (next ∷ runs) long.1)

-- runs that hold differences of their own class are whole
pub to_whole : (runs : List PointRun) → All IsPointRun runs → All IsOwn runs → AreWhole class_of_difference 128 class differences runs
to_whole runs each own k d h = record { some = (each k d h).some; few = (each k d h).few; own = own k d h }

-- a class holds the differences that are its own
own_held : (class : PointClass) (difference : ℕ) → difference < 2 ^ 16 → class_of_difference difference ≡ class → HoldsDifference class difference
own_held Bytes difference fits own = grind (arith)
own_held Words difference fits own = fits

-- and so does a run in which all differences are its own
pub all_held : (class : PointClass) (run : List ℕ) → All (λ d. d < 2 ^ 16) run → AreOwn class_of_difference class run → All (HoldsDifference class) run
all_held class run fits own k d h = own_held class (get_or run k d) (fits k d h) (own k d h)

-- the first run, and after it what stands for the differences after it, stand for all of them
run_before : (class : PointClass) (run after values tail : List ℕ) → BeginsWithRun class_of_difference 128 class run after values → All (λ d. d < 2 ^ 16) values → PacksDifferences tail after → PacksDifferences (point_bytes class run ++ tail) values
run_before class run after values tail begins fits packed =
    let this : PointRun = record { class = class; differences = run } in
    let both = all_of_both (λ d. d < 2 ^ 16) run after (subst (All (λ d. d < 2 ^ 16)) begins.whole fits) in
    let held : All (HoldsDifference class) run = all_held class run both.0 begins.own in
    let full : GoesOn class_of_difference class (differences_of packed.runs) → length run ≡ 128 = subst (λ (rest : List ℕ). GoesOn class_of_difference class rest → length run ≡ 128) packed.meant begins.long in
    let whole = to_whole packed.runs packed.each packed.own in
    let long = long_before class_of_difference 128 (λ (r : PointRun). r.class) (λ (r : PointRun). r.differences) this packed.runs full whole (to_long packed.runs packed.long) in
    record {
      runs = this ∷ packed.runs;
      each = All-cons IsPointRun this packed.runs (record { some = begins.some; few = begins.few; held = held }) packed.each;
      spelled = ap (λ bytes. point_bytes class run ++ bytes) packed.spelled;
      meant = begins.whole ∙ ap (λ rest. run ++ rest) packed.meant;
      own = All-cons IsOwn this packed.runs begins.own packed.own;
      long = from_long (this ∷ packed.runs) long;
    }

-- the same after bytes that are written already: the run is added to them
pub run_added : (class : PointClass) (run after values before now tail old all : List ℕ) → BeginsWithRun class_of_difference 128 class run after values → All (λ d. d < 2 ^ 16) values → now ≡ before ++ point_bytes class run → PacksDifferences tail after → ((rest : List ℕ) → PacksDifferences rest values → AddsDifferences old (before ++ rest) all) → AddsDifferences old (now ++ tail) all
run_added class run after values before now tail old all begins fits added packed completes =
    let joined : now ++ tail ≡ before ++ (point_bytes class run ++ tail) = ap (λ bytes. bytes ++ tail) added ∙ append_assoc before (point_bytes class run) tail in
    subst (λ (bytes : List ℕ). AddsDifferences old bytes all) (sym joined) (completes (point_bytes class run ++ tail) (run_before class run after values tail begins fits packed))

-- no differences are packed in no bytes
none_packed : PacksDifferences [] []
none_packed = record {
  runs = [];
  each = All-nil IsPointRun;
  spelled = refl;
  meant = refl;
  own = All-nil IsOwn;
  long = tt;
}

-- where no difference is left, the bytes that are written stand for all
pub all_packed : (bytes rest old all : List ℕ) → length rest ≡ 0 → ((tail : List ℕ) → PacksDifferences tail rest → AddsDifferences old (bytes ++ tail) all) → AddsDifferences old bytes all
all_packed bytes [] old all none completes = subst (λ (b : List ℕ). AddsDifferences old b all) (append-nil bytes) (completes [] none_packed)
all_packed bytes (value ∷ rest) old all none completes = absurd (omega arith)

-- a word takes two bytes
words_length : (values : List ℕ) → length (flat_map word values) ≡ 2 * length values
words_length [] = refl
words_length (value ∷ values) = omega (arith, words_length values)

-- a run takes at most three bytes a difference
run_length : (class : PointClass) (values : List ℕ) → 0 < length values → length (point_bytes class values) ≤ 3 * length values
run_length Bytes values some = omega arith
run_length Words values some = omega (arith, words_length values)

-- and so do runs
runs_length : (runs : List PointRun) → All IsPointRun runs → length (bytes_of runs) ≤ 3 * length (differences_of runs)
runs_length [] each = omega arith
runs_length (run ∷ runs) each =
    let first = run_length run.class run.differences (All-head IsPointRun run runs each).some in
    let rest = runs_length runs (All-tail IsPointRun run runs each) in
    omega (arith, first, rest, length-append (point_bytes run.class run.differences) (bytes_of runs), length-append run.differences (differences_of runs))

-- there are as many points as differences
points_length : (before : ℕ) (differences : List ℕ) → length (points_after before differences) ≡ length differences
points_length before [] = refl
points_length before (difference ∷ differences) = omega (arith, points_length (before + difference) differences)

-- where no point is left, the differences lead to all
pub all_differences : (before : ℕ) (rest points so_far : List ℕ) → length rest ≡ 0 → ((more : List ℕ) → rest ≡ points_after before more → points ≡ points_after 0 (so_far ++ more)) → points ≡ points_after 0 so_far
all_differences before [] points so_far none completes = completes [] refl ∙ ap (points_after 0) (append-nil so_far)
all_differences before (point ∷ rest) points so_far none completes = absurd (omega arith)

-- the count is spelled in one way or the other
counted : (count : ℕ) → count < 2 ^ 15 → IsCount count (count_bytes count)
counted count few =
    elim (cases_lt count 128) [
      | inl short ↦ inl (short, grind arith)
      | inr long ↦ inr (few, grind arith)
    ]

short_count : (count : ℕ) → count < 128 → length (count_bytes count) ≡ 1
short_count count short = grind arith

count_length : (count : ℕ) → length (count_bytes count) ≤ 2
count_length count = elim (cases_lt count 128) [ inl short ↦ grind arith | inr long ↦ grind arith ]

-- the count and the packed differences stand for the points, whatever the number of points that the glyph has
pub listed : (total : ℕ) (points differences counts bytes : List ℕ) → 0 < length points → length points ≤ 4004 → RisesWithin 0 total points → points ≡ points_after 0 differences → counts ≡ count_bytes (length points) → AddsDifferences counts bytes differences → PacksListedPoints total bytes points
listed total points differences counts bytes some few rises leads count adds =
    let packs = adds.packs in
    record {
      are = record {
        count_bytes = count_bytes (length points);
        runs = packs.runs;
        some = some;
        count = counted (length points) (omega arith);
        each = packs.each;
        spelled = adds.beyond ∙ ap (λ c. c ++ adds.added) count ∙ ap (λ b. count_bytes (length points) ++ b) packs.spelled;
        meant = leads ∙ ap (points_after 0) packs.meant;
        rises = rises;
      };
      short = short_count (length points);
      own = packs.own;
      long = packs.long;
    }

-- they take at most two bytes, and three a point
pub listed_length : (points differences counts bytes : List ℕ) → points ≡ points_after 0 differences → counts ≡ count_bytes (length points) → AddsDifferences counts bytes differences → length bytes ≤ 2 + 3 * length points
listed_length points differences counts bytes leads count adds =
    let packs = adds.packs in
    omega (arith, ap length adds.beyond, length-append counts adds.added, ap length count, count_length (length points), ap length leads, points_length 0 differences, ap length packs.spelled, ap length packs.meant, runs_length packs.runs packs.each)

is_count_length : (count : ℕ) (bytes : List ℕ) → IsCount count bytes → length bytes ≤ 2
is_count_length count bytes (inl short) = omega (arith, ap length short.1)
is_count_length count bytes (inr long) = omega (arith, ap length long.1)

-- any packed points in maximal runs do so
pub packed_points_length : (total : ℕ) (bytes points : List ℕ) → PacksListedPoints total bytes points → length bytes ≤ 2 + 3 * length points
packed_points_length total bytes points packed =
    let are = packed.are in
    omega (arith, ap length are.spelled, length-append are.count_bytes (bytes_of are.runs), is_count_length (length points) are.count_bytes are.count, ap length are.meant, points_length 0 (differences_of are.runs), runs_length are.runs are.each)
