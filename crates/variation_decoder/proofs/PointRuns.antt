-- The reader of packed points reads what packed points are.
use Rattle.std.proofs.Common.{◌≡◌, ℕ, zero, suc, ◌+◌, ◌-◌, ◌/◌, ◌%◌, ◌<◌, ◌≤◌, ◌^◌, ◌⊎◌, inl, inr, true, false, cond, ltb, leb, eqb, ◌||◌, List, [], ◌∷◌, ◌++◌, length, Some, None, refl, sym, ap, subst, ◌∙◌, arith}
use Rattle.std.specs.Int.{w16, from_be_bytes}
use Rattle.std.specs.List.{flat_map, All}
use Rattle.std.proofs.lemmas.List.Elements.{All-nil, All-cons, All-head, All-tail}
use Rattle.std.proofs.lemmas.Bool.{ltb-true, ltb-false, leb-false, lt-ltb, le-ltb, lt-leb, ne_eqb, eqb-true, or_parts, or_from}
use Rattle.std.proofs.lemmas.List.{append-nil}
use Rattle.std.proofs.lemmas.Option.{same_Some}
use Rattle.std.proofs.lemmas.Bool.Decides.{nat_tests}
use Rattle.variation_rules.specs.declared.runs.PointClass.{PointClass}
use Rattle.variation_rules.specs.declared.runs.PointClass.TheVariants.{Bytes, Words}
use Rattle.variation_rules.specs.Fields.{word}
use Rattle.variation_rules.specs.PackedPoints.{PointRun, point_bytes, HoldsDifference, IsPointRun, IsCount, points_after, RisesWithin, count_from, AreListedPoints, ReadsPoints}
use Rattle.variation_decoder.specs.Reading.{many, byte_at}
use Rattle.variation_decoder.specs.Points.{point_control, difference_at, difference_run_at, differences_at, count_at, rising, listed_points_at, points_at}
use Rattle.variation_decoder.proofs.Steps.{unless_some, either_some}
use Rattle.variation_decoder.proofs.Readers.{IsBytes, Takes, IsReader, Then, Is, Made, Count, Many, Runs, joined, then_reads, done_reads, made_reads, unless_reads, either_reads, given_reads, same_reads, many_reads, filled_reads}
use Rattle.variation_decoder.proofs.FieldReaders.{Spells, one_byte, byte_reads, word_reads, spelled_many, many_spelled}
use Rattle.basics.specs.Optional.{◌>>=◌}
use Rattle.basics.proofs.Optional.{bind_some}

-- ---- one difference

abbrev pub difference_bytes : PointClass → ℕ → List ℕ
difference_bytes Bytes difference = one_byte difference
difference_bytes Words difference = word difference

difference_reads : (class : PointClass) → IsReader (Spells (difference_bytes class) (HoldsDifference class)) (difference_at class)
difference_reads Bytes = byte_reads
difference_reads Words = word_reads

-- ---- one run

-- the control byte of a run of so many differences
abbrev control_byte : PointClass → ℕ → ℕ
control_byte Bytes n = n - 1
control_byte Words n = 128 + (n - 1)

bytes_mean : (byte n : ℕ) → byte < 2 ^ 8 → point_control byte ≡ (Bytes, n) → (byte ≡ n - 1) × (0 < n) × (n ≤ 128)
bytes_mean byte n below e = grind (arith, nat_tests)

words_mean : (byte n : ℕ) → byte < 2 ^ 8 → point_control byte ≡ (Words, n) → (byte ≡ 128 + (n - 1)) × (0 < n) × (n ≤ 128)
words_mean byte n below e = grind (arith, nat_tests)

control_means : (byte : ℕ) (class : PointClass) (n : ℕ) → byte < 2 ^ 8 → point_control byte ≡ (class, n) → (byte ≡ control_byte class n) × (0 < n) × (n ≤ 128)
control_means byte Bytes n below e = bytes_mean byte n below e
control_means byte Words n below e = words_mean byte n below e

bytes_again : (n : ℕ) → 0 < n → n ≤ 128 → point_control (n - 1) ≡ (Bytes, n)
bytes_again n some few = grind (arith, nat_tests)

words_again : (n : ℕ) → 0 < n → n ≤ 128 → point_control (128 + (n - 1)) ≡ (Words, n)
words_again n some few = grind (arith, nat_tests)

control_again : (class : PointClass) (n : ℕ) → 0 < n → n ≤ 128 → point_control (control_byte class n) ≡ (class, n)
control_again Bytes n some few = bytes_again n some few
control_again Words n some few = words_again n some few

control_below : (class : PointClass) (n : ℕ) → 0 < n → n ≤ 128 → control_byte class n < 2 ^ 8
control_below Bytes n some few = omega arith
control_below Words n some few = omega arith

single_bytes : (differences : List ℕ) → flat_map (difference_bytes Bytes) differences ≡ differences
single_bytes [] = refl
single_bytes (difference ∷ differences) = ap (λ (bytes : List ℕ). difference ∷ bytes) (single_bytes differences)

run_bytes : (class : PointClass) (differences : List ℕ) → point_bytes class differences ≡ control_byte class (length differences) ∷ flat_map (difference_bytes class) differences
run_bytes Bytes differences = ap (λ (bytes : List ℕ). (length differences - 1) ∷ bytes) (sym (single_bytes differences))
run_bytes Words differences = refl

-- the text is a run of the differences
abbrev pub IsRunText : List ℕ → List ℕ → Type 0
IsRunText text differences = (class : PointClass) × (text ≡ point_bytes class differences) × IsPointRun (record { class = class; differences = differences })

-- a control byte with room for its differences, and the differences
abbrev RunOf : ℕ → ℕ → List ℕ → List ℕ → Type 0
RunOf wanted byte text differences = (ltb wanted (point_control byte).1 ≡ false) × Count (Spells (difference_bytes (point_control byte).0) (HoldsDifference (point_control byte).0)) (point_control byte).1 text differences

abbrev ControlledRun : ℕ → List ℕ → List ℕ → Type 0
ControlledRun wanted = Then (Spells one_byte (λ n. n < 2 ^ 8)) (RunOf wanted)

run_of : (wanted : ℕ) (text : List ℕ) (differences : List ℕ) → ControlledRun wanted text differences → IsRunText text differences × (length differences ≤ wanted)
run_of wanted text differences s =
    let class = (point_control s.first).0 in let n = (point_control s.first).1 in
    let means = control_means s.first class n s.stands.1 refl in
    let len : length differences ≡ n = s.next.1.1 in
    let spelled = spelled_many (difference_bytes class) (HoldsDifference class) s.back differences s.next.1.0 in
    let control : s.first ≡ control_byte class (length differences) = means.0 ∙ ap (control_byte class) (sym len) in
    let parts : text ≡ control_byte class (length differences) ∷ flat_map (difference_bytes class) differences =
    s.split ∙ ap (λ (t : List ℕ). t ++ s.back) s.stands.0 ∙ ap (λ (t : List ℕ). s.first ∷ t) spelled.0 ∙ ap (λ (b : ℕ). b ∷ flat_map (difference_bytes class) differences) control in
    ((class, parts ∙ sym (run_bytes class differences), record { some = omega arith; few = omega arith; held = spelled.1 }), omega (arith, ltb-false wanted n s.next.0))

of_run : (wanted : ℕ) (text : List ℕ) (differences : List ℕ) → IsRunText text differences × (length differences ≤ wanted) → ControlledRun wanted text differences
of_run wanted text differences s =
    let class = s.0.0 in let n = length differences in let run = s.0.2 in
    let control : (class, n) ≡ point_control (control_byte class n) = sym (control_again class n run.some run.few) in
    record {
      first = control_byte class n;
      prefix = control_byte class n ∷ [];
      back = flat_map (difference_bytes class) differences;
      split = s.0.1 ∙ run_bytes class differences;
      stands = (refl, control_below class n run.some run.few);
      next = subst (λ (p : PointClass × ℕ). (ltb wanted p.1 ≡ false) × Count (Spells (difference_bytes p.0) (HoldsDifference p.0)) p.1 (flat_map (difference_bytes class) differences) differences) control
          (le-ltb wanted n s.1, (many_spelled (difference_bytes class) (HoldsDifference class) differences run.held, refl));
    }

run_reads : (wanted : ℕ) → IsReader (λ text differences. IsRunText text differences × (length differences ≤ wanted)) (difference_run_at wanted)
unfolding difference_run_at
run_reads wanted =
    same_reads (ControlledRun wanted) (λ text differences. IsRunText text differences × (length differences ≤ wanted)) (difference_run_at wanted) (run_of wanted) (of_run wanted)
    (then_reads (Spells one_byte (λ n. n < 2 ^ 8)) (RunOf wanted) byte_at (λ byte bytes. cond (ltb wanted (point_control byte).1) None (many (difference_at (point_control byte).0) (point_control byte).1 bytes)) byte_reads
    (λ prefix byte stands. unless_reads (ltb wanted (point_control byte).1) (Count (Spells (difference_bytes (point_control byte).0) (HoldsDifference (point_control byte).0)) (point_control byte).1) (many (difference_at (point_control byte).0) (point_control byte).1)
    (many_reads (Spells (difference_bytes (point_control byte).0) (HoldsDifference (point_control byte).0)) (difference_at (point_control byte).0) (difference_reads (point_control byte).0) (point_control byte).1)))

-- ---- the runs of a list

run_is_some : (text : List ℕ) (differences : List ℕ) → IsRunText text differences → 0 < length differences
run_is_some text differences run = run.2.some

abbrev run_text : PointRun → List ℕ
run_text run = point_bytes run.class run.differences

-- the differences of these runs
abbrev pub differences_of : List PointRun → List ℕ
differences_of runs = flat_map (λ (run : PointRun). run.differences) runs

-- the text is runs of the differences
abbrev pub AreDifferences : List ℕ → List ℕ → Type 0
AreDifferences text differences = (runs : List PointRun) × All IsPointRun runs × (text ≡ flat_map (λ (run : PointRun). point_bytes run.class run.differences) runs) × (differences ≡ differences_of runs)

are_runs : (text : List ℕ) (runs : List (List ℕ)) → Many IsRunText text runs → AreDifferences text (joined runs)
are_runs text [] s = ([], All-nil IsPointRun, s, refl)
are_runs text (differences ∷ runs) s =
    let more = are_runs s.1 runs s.4 in
    let run : PointRun = record { class = s.3.0; differences = differences } in (
      run ∷ more.0,
      All-cons IsPointRun run more.0 s.3.2 more.1,
      s.2 ∙ ap (λ (t : List ℕ). t ++ s.1) s.3.1 ∙ ap (λ (t : List ℕ). run_text run ++ t) more.2,
      ap (λ (xs : List ℕ). differences ++ xs) more.3,
    )

of_runs : (point_runs : List PointRun) → All IsPointRun point_runs → (runs : List (List ℕ)) × Many IsRunText (flat_map run_text point_runs) runs × (differences_of point_runs ≡ joined runs)
of_runs [] each = ([], refl, refl)
of_runs (run ∷ point_runs) each =
    let more = of_runs point_runs (All-tail IsPointRun run point_runs each) in (
      run.differences ∷ more.0,
      (run_text run, flat_map run_text point_runs, refl, (run.class, refl, All-head IsPointRun run point_runs each), more.1),
      ap (λ (xs : List ℕ). run.differences ++ xs) more.2,
    )

differences_are : (wanted : ℕ) (text : List ℕ) (differences : List ℕ) → Runs IsRunText text differences × (length differences ≡ wanted) → AreDifferences text differences × (length differences ≡ wanted)
differences_are wanted text differences s = (subst (λ (xs : List ℕ). AreDifferences text xs) (sym s.0.2) (are_runs text s.0.0 s.0.1), s.1)

of_differences : (wanted : ℕ) (text : List ℕ) (differences : List ℕ) → AreDifferences text differences × (length differences ≡ wanted) → Runs IsRunText text differences × (length differences ≡ wanted)
of_differences wanted text differences s =
    let runs = of_runs s.0.0 s.0.1 in
    ((runs.0, subst (λ (t : List ℕ). Many IsRunText t runs.0) (sym s.0.2) runs.1, s.0.3 ∙ runs.2), s.1)

differences_read : (wanted : ℕ) → IsReader (λ text differences. AreDifferences text differences × (length differences ≡ wanted)) (differences_at wanted)
differences_read wanted =
    same_reads (λ text differences. Runs IsRunText text differences × (length differences ≡ wanted)) (λ text differences. AreDifferences text differences × (length differences ≡ wanted)) (differences_at wanted) (differences_are wanted) (of_differences wanted)
    (filled_reads IsRunText difference_run_at run_is_some run_reads wanted wanted (omega arith))

-- ---- the count

abbrev two_bytes : ℕ → ℕ → ℕ
two_bytes first second = from_be_bytes w16 ((first - 128) ∷ second ∷ [])

-- one byte below 128, or another after it
abbrev CountFrom : ℕ → List ℕ → ℕ → Type 0
CountFrom first text count =
    ((ltb first 128 ≡ true) × Is first text count)
    ⊎ ((ltb first 128 ≡ false) × Made (two_bytes first) (Spells one_byte (λ n. n < 2 ^ 8)) text count)

abbrev CountText : List ℕ → ℕ → Type 0
CountText = Then (Spells one_byte (λ n. n < 2 ^ 8)) CountFrom

count_of : (text : List ℕ) (count : ℕ) → CountText text count → IsCount count text
count_of text count s =
    let from = s.split ∙ ap (λ (t : List ℕ). t ++ s.back) s.stands.0 in
    elim s.next [
      | inl one ↦
          let same : s.first ∷ s.back ≡ count ∷ [] = ap (λ (t : List ℕ). s.first ∷ t) one.1.0 ∙ ap (λ (b : ℕ). b ∷ []) (sym one.1.1) in
          inl (omega (arith, ltb-true s.first 128 one.0, one.1.1), from ∙ same)
      | inr two ↦
          let high = ltb-false s.first 128 two.0 in
          let second : ℕ = two.1.0 in
          let below : second < 2 ^ 8 = two.1.1.1 in
          let is : count ≡ two_bytes s.first second = two.1.2 in
          let first_is : s.first ≡ 128 + count / 256 = omega (arith, s.stands.1) in
          let second_is : second ≡ count % 256 = omega (arith, s.stands.1) in
          let same : s.first ∷ s.back ≡ (128 + count / 256) ∷ count % 256 ∷ [] =
          ap (λ (t : List ℕ). s.first ∷ t) two.1.1.0 ∙ ap (λ (b : ℕ). s.first ∷ b ∷ []) second_is ∙ ap (λ (b : ℕ). b ∷ (count % 256) ∷ []) first_is in
          inr (omega (arith, s.stands.1), from ∙ same)
    ]

of_count : (text : List ℕ) (count : ℕ) → IsCount count text → CountText text count
of_count text count s =
    elim s [
      | inl one ↦ record { first = count; prefix = count ∷ []; back = []; split = one.1; stands = (refl, omega (arith, one.0)); next = inl (lt-ltb count 128 one.0, (refl, refl)) }
      | inr two ↦
          let is : count ≡ two_bytes (128 + count / 256) (count % 256) = omega arith in
          record {
            first = 128 + count / 256;
            prefix = (128 + count / 256) ∷ [];
            back = (count % 256) ∷ [];
            split = two.1;
            stands = (refl, omega (arith, two.0));
            next = inr (le-ltb (128 + count / 256) 128 (omega arith), (count % 256, (refl, omega arith), is));
          }
    ]

count_reads : IsReader (λ text count. IsCount count text) count_at
unfolding count_at
count_reads =
    same_reads CountText (λ text count. IsCount count text) count_at count_of of_count
    (then_reads (Spells one_byte (λ n. n < 2 ^ 8)) CountFrom byte_at (λ first bytes. cond (ltb first 128) (Some (first, bytes)) (byte_at bytes >>= λ second. Some (two_bytes first second.0, second.1))) byte_reads
    (λ prefix first stands. either_reads (ltb first 128) (Is first) (Made (two_bytes first) (Spells one_byte (λ n. n < 2 ^ 8)))
    (λ bytes. Some (first, bytes)) (λ bytes. byte_at bytes >>= λ second. Some (two_bytes first second.0, second.1))
    (done_reads first) (made_reads (two_bytes first) (Spells one_byte (λ n. n < 2 ^ 8)) byte_at byte_reads)))

-- ---- the points

-- the sums that rise within
rising_means : (before low end : ℕ) (differences points : List ℕ) → rising before low end differences ≡ Some points → (points ≡ points_after before differences) × RisesWithin low end points
unfolding rising
rising_means before low end [] points e =
    let same : [] ≡ points = same_Some [] points e in
    subst (λ (ps : List ℕ). (ps ≡ []) × RisesWithin low end ps) same (refl, tt)
rising_means before low end (difference ∷ differences) points e =
    let point = before + difference in
    let room = unless_some (ltb point low || leb end point) (rising point (point + 1) end differences >>= λ points. Some (point ∷ points)) points e in
    let more = bind_some (rising point (point + 1) end differences) (λ points. Some (point ∷ points)) points room.1 in
    let tests = or_parts (ltb point low) (leb end point) room.0 in
    let after = rising_means point (point + 1) end differences more.0 more.1 in
    subst (λ (ps : List ℕ). (ps ≡ point ∷ points_after point differences) × RisesWithin low end ps) (same_Some (point ∷ more.0) points more.2)
    (ap (λ (ps : List ℕ). point ∷ ps) after.0, (ltb-false point low tests.0, leb-false end point tests.1, after.1))

rising_again : (before low end : ℕ) (differences : List ℕ) → RisesWithin low end (points_after before differences) → rising before low end differences ≡ Some (points_after before differences)
unfolding rising
rising_again before low end [] rises = refl
rising_again before low end (difference ∷ differences) rises =
    let point = before + difference in
    let fine : (ltb point low || leb end point) ≡ false = or_from (ltb point low) (leb end point) (le-ltb point low rises.0) (lt-leb end point rises.1) in
    rw (fine, rising_again point (point + 1) end differences rises.2) refl

length_points_after : (before : ℕ) (differences : List ℕ) → length (points_after before differences) ≡ length differences
length_points_after before [] = refl
length_points_after before (difference ∷ differences) = ap suc (length_points_after (before + difference) differences)

-- the points that the differences lead to
abbrev Summed : ℕ → List ℕ → List ℕ → List ℕ → Type 0
Summed total differences text points = (found : List ℕ) × (rising 0 0 total differences ≡ Some found) × Is found text points

abbrev SummedRuns : ℕ → ℕ → List ℕ → List ℕ → Type 0
SummedRuns total count = Then (λ text differences. AreDifferences text differences × (length differences ≡ count)) (Summed total)

abbrev ListedText : ℕ → List ℕ → List ℕ → Type 0
ListedText total = Then (λ text count. IsCount count text) (λ count text points. (eqb count 0 ≡ false) × SummedRuns total count text points)

some_of_test : (n : ℕ) → eqb n 0 ≡ false → 0 < n
some_of_test zero e = absurd cc
some_of_test (suc n) e = omega arith

listed_of : (total : ℕ) (text points : List ℕ) → ListedText total text points → AreListedPoints total text points
listed_of total text points s =
    let inner = s.next.1 in
    let found : List ℕ = inner.next.0 in
    let are = inner.stands.0 in
    let is : points ≡ found = inner.next.2.1 in
    let means = rising_means 0 0 total inner.first found inner.next.1 in
    let len : length points ≡ s.first = ap length is ∙ ap length means.0 ∙ length_points_after 0 inner.first ∙ inner.stands.1 in
    let some : 0 < s.first = some_of_test s.first s.next.0 in
    let rest : s.back ≡ flat_map run_text are.0 = inner.split ∙ ap (λ (t : List ℕ). inner.prefix ++ t) inner.next.2.0 ∙ append-nil inner.prefix ∙ are.2 in
    record {
      count_bytes = s.prefix;
      runs = are.0;
      some = omega arith;
      count = subst (λ (n : ℕ). IsCount n s.prefix) (sym len) s.stands;
      each = are.1;
      spelled = s.split ∙ ap (λ (t : List ℕ). s.prefix ++ t) rest;
      meant = is ∙ means.0 ∙ ap (points_after 0) are.3;
      rises = subst (λ (ps : List ℕ). RisesWithin 0 total ps) (sym is) means.1;
    }

of_listed : (total : ℕ) (text points : List ℕ) → AreListedPoints total text points → ListedText total text points
of_listed total text points s =
    let differences = differences_of s.runs in
    let len : length differences ≡ length points = sym (ap length s.meant ∙ length_points_after 0 differences) in
    let listed : eqb (length points) 0 ≡ false = ne_eqb (length points) 0 (λ none. omega (arith, s.some)) in
    record {
      first = length points;
      prefix = s.count_bytes;
      back = flat_map run_text s.runs;
      split = s.spelled;
      stands = s.count;
      next = (
        listed,
        record {
          first = differences;
          prefix = flat_map run_text s.runs;
          back = [];
          split = sym (append-nil (flat_map run_text s.runs));
          stands = ((s.runs, s.each, refl, refl), len);
          next = (points_after 0 differences, rising_again 0 0 total differences (subst (λ (ps : List ℕ). RisesWithin 0 total ps) s.meant s.rises), (refl, s.meant));
        },
      );
    }

listed_read : (total : ℕ) → IsReader (AreListedPoints total) (listed_points_at total)
unfolding listed_points_at
listed_read total =
    same_reads (ListedText total) (AreListedPoints total) (listed_points_at total) (listed_of total) (of_listed total)
    (then_reads (λ text count. IsCount count text) (λ count text points. (eqb count 0 ≡ false) × SummedRuns total count text points) count_at
    (λ count bytes. cond (eqb count 0) None (differences_at count bytes >>= λ differences. rising 0 0 total differences.0 >>= λ points. Some (points, differences.1))) count_reads
    (λ prefix count stands. unless_reads (eqb count 0) (SummedRuns total count) (λ bytes. differences_at count bytes >>= λ differences. rising 0 0 total differences.0 >>= λ points. Some (points, differences.1))
    (then_reads (λ text differences. AreDifferences text differences × (length differences ≡ count)) (Summed total) (differences_at count) (λ differences bytes. rising 0 0 total differences >>= λ points. Some (points, bytes)) (differences_read count)
    (λ prefix differences stands. given_reads (rising 0 0 total differences) Is (λ points bytes. Some (points, bytes)) (λ points. done_reads points)))))

-- all points after a single 0, or those listed
points_taken : (total : ℕ) (bytes : List ℕ) (read : List ℕ × List ℕ) → IsBytes bytes → points_at total bytes ≡ Some read → Takes (ReadsPoints total) bytes read
unfolding points_at
points_taken total [] read fits e = absurd cc
points_taken total (byte ∷ bytes) read fits e =
    elim (either_some (eqb byte 0) (Some (count_from total 0, bytes)) (listed_points_at total (byte ∷ bytes)) read e) [
      | inl all ↦
          let same : (count_from total 0, bytes) ≡ read = same_Some (count_from total 0, bytes) read all.1 in
          let zero_byte : byte ≡ 0 = eqb-true byte 0 all.0 in
          subst (λ (r : List ℕ × List ℕ). Takes (ReadsPoints total) (byte ∷ bytes) r) same
          (record { text = byte ∷ []; parts = refl; stands = inl (ap (λ (b : ℕ). b ∷ []) zero_byte, refl) })
      | inr listed ↦
          let taken = (listed_read total).takes (byte ∷ bytes) read fits listed.1 in
          record { text = taken.text; parts = taken.parts; stands = inr taken.stands }
    ]

-- what begins with a count is not a single 0
count_begins : (count : ℕ) (bytes : List ℕ) → 0 < count → IsCount count bytes → (byte : ℕ) × (more : List ℕ) × (bytes ≡ byte ∷ more) × (eqb byte 0 ≡ false)
count_begins count bytes some s =
    elim s [
      | inl one ↦ (count, [], one.1, ne_eqb count 0 (λ none. omega arith))
      | inr two ↦ (128 + count / 256, (count % 256) ∷ [], two.1, ne_eqb (128 + count / 256) 0 (λ none. omega arith))
    ]

listed_again : (total : ℕ) (text points rest : List ℕ) → AreListedPoints total text points → points_at total (text ++ rest) ≡ Some (points, rest)
unfolding points_at
listed_again total text points rest s =
    let begins = count_begins (length points) s.count_bytes s.some s.count in
    let runs = flat_map run_text s.runs in
    let shape : text ++ rest ≡ begins.0 ∷ (begins.1 ++ runs ++ rest) = ap (λ (t : List ℕ). t ++ rest) (s.spelled ∙ ap (λ (t : List ℕ). t ++ runs) begins.2) in
    let read : listed_points_at total (begins.0 ∷ (begins.1 ++ runs ++ rest)) ≡ Some (points, rest) = subst (λ (t : List ℕ). listed_points_at total t ≡ Some (points, rest)) shape ((listed_read total).again text points rest s) in
    rw (shape, begins.3) read

points_again : (total : ℕ) (text points rest : List ℕ) → ReadsPoints total text points → points_at total (text ++ rest) ≡ Some (points, rest)
unfolding points_at
points_again total text points rest s =
    elim s [
      | inl all ↦ rw (all.0, all.1) refl
      | inr listed ↦ listed_again total text points rest listed
    ]

pub points_read : (total : ℕ) → IsReader (ReadsPoints total) (points_at total)
points_read total = record { takes = points_taken total; again = points_again total }
