-- Packed deltas in maximal runs: a run before packed ones, and how many bytes they take.
use Rattle.std.proofs.Common.{◌≡◌, ℕ, ℤ, ◌*◌, ◌<◌, ◌≤◌, List, [], ◌∷◌, ◌++◌, length, get_or, All, FitsSigned, refl, sym, ap, subst, ◌∙◌, arith, length-append, append_assoc}
use Rattle.std.proofs.lemmas.List.{length-map, append-nil}
use Rattle.std.specs.Int.{w8, w16, cast_unsigned}
use Rattle.std.specs.List.{flat_map}
use Rattle.std.proofs.lemmas.List.Elements.{All-head, All-tail, All-cons, All-nil}
use Rattle.std.proofs.lemmas.Int.{ints}
use Rattle.variation_rules.specs.Fields.{signed_word}
use Rattle.variation_rules.specs.PackedDeltas.{DeltaRun, IsDeltaRun, AreLongDeltaRuns, HoldsDelta, PacksDeltas, class_of_delta, delta_bytes}
use Rattle.variation_rules.specs.declared.runs.DeltaClass.{DeltaClass}
use Rattle.variation_rules.specs.declared.runs.DeltaClass.TheVariants.{Zeros, Bytes, Words}
use Rattle.packed.specs.FirstRun.{GoesOn, BeginsWithRun}
use Rattle.packed.proofs.FirstRun.{AreOwn}
use Rattle.packed.proofs.RunLists.{AreLong, AreWhole, all_of_both, long_before}

-- the class and the values of a run
abbrev pub class : DeltaRun → DeltaClass
class run = run.class

abbrev pub values : DeltaRun → List ℤ
values run = run.values

-- the bytes and the values of runs
abbrev pub bytes_of : List DeltaRun → List ℕ
bytes_of runs = flat_map (λ run. delta_bytes run.class run.values) runs

abbrev pub values_of : List DeltaRun → List ℤ
values_of runs = flat_map (λ run. run.values) runs

-- the values of a run are of its class
abbrev pub IsOwn : DeltaRun → Type 0
IsOwn run = AreOwn class_of_delta run.class run.values

-- runs that are long are so as any runs are
pub to_long : (runs : List DeltaRun) → AreLongDeltaRuns runs → AreLong class_of_delta 64 class values runs
to_long [] long = tt
to_long (run ∷ []) long = tt
to_long (run ∷ next ∷ runs) long = (long.0, to_long (next ∷ runs) long.1)

from_long : (runs : List DeltaRun) → AreLong class_of_delta 64 class values runs → AreLongDeltaRuns runs
from_long [] long = tt
from_long (run ∷ []) long = tt
from_long (run ∷ next ∷ runs) long = (long.0, from_long (next ∷ runs) long.1)

-- runs that hold values of their own class are whole
pub to_whole : (runs : List DeltaRun) → All IsDeltaRun runs → All IsOwn runs → AreWhole class_of_delta 64 class values runs
to_whole runs each own k d h = record { some = (each k d h).some; few = (each k d h).few; own = own k d h }

-- a class holds the values that are its own
own_held : (class : DeltaClass) (value : ℤ) → FitsSigned w16 value → class_of_delta value ≡ class → HoldsDelta class value
own_held Zeros value fits own = grind (arith, ints)
own_held Bytes value fits own = grind (arith, ints)
own_held Words value fits own = fits

-- and so does a run in which all values are its own
pub all_held : (class : DeltaClass) (run : List ℤ) → All (FitsSigned w16) run → AreOwn class_of_delta class run → All (HoldsDelta class) run
all_held class run fits own k d h = own_held class (get_or run k d) (fits k d h) (own k d h)

-- the first run, and after it what stands for the values after it, stand for all the values
run_before : (class : DeltaClass) (run after values : List ℤ) (tail : List ℕ) → BeginsWithRun class_of_delta 64 class run after values → All (FitsSigned w16) values → PacksDeltas tail after → PacksDeltas (delta_bytes class run ++ tail) values
run_before class run after values tail begins fits packed =
    let this : DeltaRun = record { class = class; values = run } in
    let both = all_of_both (FitsSigned w16) run after (subst (All (FitsSigned w16)) begins.whole fits) in
    let held : All (HoldsDelta class) run = all_held class run both.0 begins.own in
    let full : GoesOn class_of_delta class (values_of packed.runs) → length run ≡ 64 = subst (λ (rest : List ℤ). GoesOn class_of_delta class rest → length run ≡ 64) packed.are.meant begins.long in
    let whole = to_whole packed.runs packed.are.each packed.own in
    let long = long_before class_of_delta 64 (λ (r : DeltaRun). r.class) (λ (r : DeltaRun). r.values) this packed.runs full whole (to_long packed.runs packed.long) in
    record {
      runs = this ∷ packed.runs;
      are = record {
        each = All-cons IsDeltaRun this packed.runs (record { some = begins.some; few = begins.few; held = held }) packed.are.each;
        spelled = ap (λ bytes. delta_bytes class run ++ bytes) packed.are.spelled;
        meant = begins.whole ∙ ap (λ rest. run ++ rest) packed.are.meant;
      };
      own = All-cons IsOwn this packed.runs begins.own packed.own;
      long = from_long (this ∷ packed.runs) long;
    }

-- the same after bytes that are written already: the run is added to them
pub run_added : (class : DeltaClass) (run after values : List ℤ) (before now tail : List ℕ) (all : List ℤ) → BeginsWithRun class_of_delta 64 class run after values → All (FitsSigned w16) values → now ≡ before ++ delta_bytes class run → PacksDeltas tail after → ((rest : List ℕ) → PacksDeltas rest values → PacksDeltas (before ++ rest) all) → PacksDeltas (now ++ tail) all
run_added class run after values before now tail all begins fits added packed completes =
    let joined : now ++ tail ≡ before ++ (delta_bytes class run ++ tail) = ap (λ bytes. bytes ++ tail) added ∙ append_assoc before (delta_bytes class run) tail in
    subst (λ (bytes : List ℕ). PacksDeltas bytes all) (sym joined) (completes (delta_bytes class run ++ tail) (run_before class run after values tail begins fits packed))

-- no values are packed in no bytes
none_packed : PacksDeltas [] []
none_packed = record {
  runs = [];
  are = record { each = All-nil IsDeltaRun; spelled = refl; meant = refl };
  own = All-nil IsOwn;
  long = tt;
}

-- where no value is left, the bytes that are written stand for all
pub all_packed : (bytes : List ℕ) (rest all : List ℤ) → length rest ≡ 0 → ((tail : List ℕ) → PacksDeltas tail rest → PacksDeltas (bytes ++ tail) all) → PacksDeltas bytes all
all_packed bytes [] all none completes = subst (λ (b : List ℕ). PacksDeltas b all) (append-nil bytes) (completes [] none_packed)
all_packed bytes (value ∷ rest) all none completes = absurd (omega arith)

-- a word takes two bytes
words_length : (values : List ℤ) → length (flat_map signed_word values) ≡ 2 * length values
words_length [] = refl
words_length (value ∷ values) = omega (arith, words_length values)

-- a run takes at most three bytes a value
run_length : (class : DeltaClass) (values : List ℤ) → 0 < length values → length (delta_bytes class values) ≤ 3 * length values
run_length Zeros values some = omega arith
run_length Bytes values some = omega (arith, length-map values (cast_unsigned w8))
run_length Words values some = omega (arith, words_length values)

-- and so do runs
runs_length : (runs : List DeltaRun) → All IsDeltaRun runs → length (bytes_of runs) ≤ 3 * length (values_of runs)
runs_length [] each = omega arith
runs_length (run ∷ runs) each =
    let first = run_length run.class run.values (All-head IsDeltaRun run runs each).some in
    let rest = runs_length runs (All-tail IsDeltaRun run runs each) in
    omega (arith, first, rest, length-append (delta_bytes run.class run.values) (bytes_of runs), length-append run.values (values_of runs))

-- packed deltas take at most three bytes a value
pub packed_length : (bytes : List ℕ) (values : List ℤ) → PacksDeltas bytes values → length bytes ≤ 3 * length values
packed_length bytes values packed =
    omega (arith, runs_length packed.runs packed.are.each, ap length packed.are.spelled, ap length packed.are.meant)
