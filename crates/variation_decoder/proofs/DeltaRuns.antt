-- The reader of packed deltas reads what packed deltas are.
use Rattle.std.proofs.Common.{◌≡◌, ℕ, ℤ, pos, ◌+◌, ◌-◌, ◌<◌, ◌≤◌, ◌^◌, false, cond, ltb, List, [], ◌∷◌, ◌++◌, length, map, Some, None, refl, sym, ap, subst, ◌∙◌, arith, w8}
use Rattle.std.specs.Int.{cast_unsigned}
use Rattle.std.specs.List.{flat_map, All}
use Rattle.std.proofs.lemmas.List.Elements.{All-nil, All-cons, All-head, All-tail}
use Rattle.std.proofs.lemmas.Bool.{ltb-false, le-ltb}
use Rattle.std.proofs.lemmas.Bool.Decides.{nat_tests}
use Rattle.variation_rules.specs.declared.runs.DeltaClass.{DeltaClass}
use Rattle.variation_rules.specs.declared.runs.DeltaClass.TheVariants.{Zeros, Bytes, Words}
use Rattle.variation_rules.specs.Fields.{signed_word}
use Rattle.variation_rules.specs.PackedDeltas.{DeltaRun, delta_bytes, HoldsDelta, IsDeltaRun, AreDeltaRuns, ReadsDeltas}
use Rattle.variation_decoder.specs.Reading.{many, byte_at}
use Rattle.variation_decoder.specs.Deltas.{delta_control, delta_at, delta_run_at, deltas_at}
use Rattle.variation_decoder.proofs.Readers.{IsReader, Then, Count, Many, Runs, joined, then_reads, done_reads, unless_reads, given_reads, same_reads, many_reads, filled_reads}
use Rattle.variation_decoder.proofs.FieldReaders.{Spells, one_byte, signed_byte, byte_reads, signed_byte_reads, signed_word_reads, spelled_many, many_spelled}
use Rattle.basics.specs.Optional.{◌>>=◌}

-- ---- one value

abbrev value_bytes : DeltaClass → ℤ → List ℕ
value_bytes Zeros value = []
value_bytes Bytes value = signed_byte value
value_bytes Words value = signed_word value

delta_reads : (class : DeltaClass) → IsReader (Spells (value_bytes class) (HoldsDelta class)) (delta_at class)
delta_reads Zeros = done_reads (pos 0)
delta_reads Bytes = signed_byte_reads
delta_reads Words = signed_word_reads

-- ---- one run

-- the control byte of a run of so many values
abbrev pub control_byte : DeltaClass → ℕ → ℕ
control_byte Zeros n = 128 + (n - 1)
control_byte Bytes n = n - 1
control_byte Words n = 64 + (n - 1)

zeros_mean : (byte n : ℕ) → delta_control byte ≡ Some (Zeros, n) → (byte ≡ 128 + (n - 1)) × (0 < n) × (n ≤ 64)
zeros_mean byte n e = grind (arith, nat_tests)

bytes_mean : (byte n : ℕ) → delta_control byte ≡ Some (Bytes, n) → (byte ≡ n - 1) × (0 < n) × (n ≤ 64)
bytes_mean byte n e = grind (arith, nat_tests)

words_mean : (byte n : ℕ) → delta_control byte ≡ Some (Words, n) → (byte ≡ 64 + (n - 1)) × (0 < n) × (n ≤ 64)
words_mean byte n e = grind (arith, nat_tests)

control_means : (byte : ℕ) (class : DeltaClass) (n : ℕ) → delta_control byte ≡ Some (class, n) → (byte ≡ control_byte class n) × (0 < n) × (n ≤ 64)
control_means byte Zeros n e = zeros_mean byte n e
control_means byte Bytes n e = bytes_mean byte n e
control_means byte Words n e = words_mean byte n e

zeros_again : (n : ℕ) → 0 < n → n ≤ 64 → delta_control (128 + (n - 1)) ≡ Some (Zeros, n)
zeros_again n some few = grind (arith, nat_tests)

bytes_again : (n : ℕ) → 0 < n → n ≤ 64 → delta_control (n - 1) ≡ Some (Bytes, n)
bytes_again n some few = grind (arith, nat_tests)

words_again : (n : ℕ) → 0 < n → n ≤ 64 → delta_control (64 + (n - 1)) ≡ Some (Words, n)
words_again n some few = grind (arith, nat_tests)

control_again : (class : DeltaClass) (n : ℕ) → 0 < n → n ≤ 64 → delta_control (control_byte class n) ≡ Some (class, n)
control_again Zeros n some few = zeros_again n some few
control_again Bytes n some few = bytes_again n some few
control_again Words n some few = words_again n some few

control_below : (class : DeltaClass) (n : ℕ) → 0 < n → n ≤ 64 → control_byte class n < 2 ^ 8
control_below Zeros n some few = omega arith
control_below Bytes n some few = omega arith
control_below Words n some few = omega arith

no_bytes : (values : List ℤ) → flat_map (value_bytes Zeros) values ≡ []
no_bytes [] = refl
no_bytes (value ∷ values) = no_bytes values

single_bytes : (values : List ℤ) → flat_map (value_bytes Bytes) values ≡ map (cast_unsigned w8) values
single_bytes [] = refl
single_bytes (value ∷ values) = ap (λ (bytes : List ℕ). cast_unsigned w8 value ∷ bytes) (single_bytes values)

run_bytes : (class : DeltaClass) (values : List ℤ) → delta_bytes class values ≡ control_byte class (length values) ∷ flat_map (value_bytes class) values
run_bytes Zeros values = ap (λ (bytes : List ℕ). (128 + (length values - 1)) ∷ bytes) (sym (no_bytes values))
run_bytes Bytes values = ap (λ (bytes : List ℕ). (length values - 1) ∷ bytes) (sym (single_bytes values))
run_bytes Words values = refl

-- the text is a run of the values
abbrev pub IsRunText : List ℕ → List ℤ → Type 0
IsRunText text values = (class : DeltaClass) × (text ≡ delta_bytes class values) × IsDeltaRun (record { class = class; values = values })

-- a control byte, with room for its values, and the values
abbrev ValuesOf : ℕ → DeltaClass × ℕ → List ℕ → List ℤ → Type 0
ValuesOf wanted control text values = (ltb wanted control.1 ≡ false) × Count (Spells (value_bytes control.0) (HoldsDelta control.0)) control.1 text values

abbrev RunOf : ℕ → ℕ → List ℕ → List ℤ → Type 0
RunOf wanted byte text values = (control : DeltaClass × ℕ) × (delta_control byte ≡ Some control) × ValuesOf wanted control text values

abbrev ControlledRun : ℕ → List ℕ → List ℤ → Type 0
ControlledRun wanted = Then (Spells one_byte (λ n. n < 2 ^ 8)) (RunOf wanted)

run_of : (wanted : ℕ) (text : List ℕ) (values : List ℤ) → ControlledRun wanted text values → IsRunText text values × (length values ≤ wanted)
run_of wanted text values s =
    let class = s.next.0.0 in let n = s.next.0.1 in
    let means = control_means s.first class n s.next.1 in
    let len : length values ≡ n = s.next.2.1.1 in
    let spelled = spelled_many (value_bytes class) (HoldsDelta class) s.back values s.next.2.1.0 in
    let control : s.first ≡ control_byte class (length values) = means.0 ∙ ap (control_byte class) (sym len) in
    let parts : text ≡ control_byte class (length values) ∷ flat_map (value_bytes class) values =
    s.split ∙ ap (λ (t : List ℕ). t ++ s.back) s.stands.0 ∙ ap (λ (t : List ℕ). s.first ∷ t) spelled.0 ∙ ap (λ (b : ℕ). b ∷ flat_map (value_bytes class) values) control in
    ((class, parts ∙ sym (run_bytes class values), record { some = omega arith; few = omega arith; held = spelled.1 }), omega (arith, ltb-false wanted n s.next.2.0))

of_run : (wanted : ℕ) (text : List ℕ) (values : List ℤ) → IsRunText text values × (length values ≤ wanted) → ControlledRun wanted text values
of_run wanted text values s =
    let class = s.0.0 in let n = length values in let run = s.0.2 in
    record {
      first = control_byte class n;
      prefix = control_byte class n ∷ [];
      back = flat_map (value_bytes class) values;
      split = s.0.1 ∙ run_bytes class values;
      stands = (refl, control_below class n run.some run.few);
      next = ((class, n), control_again class n run.some run.few, (le-ltb wanted n s.1, (many_spelled (value_bytes class) (HoldsDelta class) values run.held, refl)));
    }

run_reads : (wanted : ℕ) → IsReader (λ text values. IsRunText text values × (length values ≤ wanted)) (delta_run_at wanted)
unfolding delta_run_at
run_reads wanted =
    same_reads (ControlledRun wanted) (λ text values. IsRunText text values × (length values ≤ wanted)) (delta_run_at wanted) (run_of wanted) (of_run wanted)
    (then_reads (Spells one_byte (λ n. n < 2 ^ 8)) (RunOf wanted) byte_at (λ byte bytes. delta_control byte >>= λ control. cond (ltb wanted control.1) None (many (delta_at control.0) control.1 bytes)) byte_reads
    (λ prefix byte stands. given_reads (delta_control byte) (ValuesOf wanted) (λ control bytes. cond (ltb wanted control.1) None (many (delta_at control.0) control.1 bytes))
    (λ control. unless_reads (ltb wanted control.1) (Count (Spells (value_bytes control.0) (HoldsDelta control.0)) control.1) (many (delta_at control.0) control.1)
    (many_reads (Spells (value_bytes control.0) (HoldsDelta control.0)) (delta_at control.0) (delta_reads control.0) control.1))))

-- ---- the runs of a list

run_is_some : (text : List ℕ) (values : List ℤ) → IsRunText text values → 0 < length values
run_is_some text values run = run.2.some

abbrev run_text : DeltaRun → List ℕ
run_text run = delta_bytes run.class run.values

-- runs one after another are delta runs, and these are such
are_delta_runs : (text : List ℕ) (runs : List (List ℤ)) → Many IsRunText text runs → (delta_runs : List DeltaRun) × AreDeltaRuns delta_runs text (joined runs)
are_delta_runs text [] s = ([], record { each = All-nil IsDeltaRun; spelled = s; meant = refl })
are_delta_runs text (values ∷ runs) s =
    let more = are_delta_runs s.1 runs s.4 in
    let run : DeltaRun = record { class = s.3.0; values = values } in (
      run ∷ more.0,
      record {
        each = All-cons IsDeltaRun run more.0 s.3.2 more.1.each;
        spelled = s.2 ∙ ap (λ (t : List ℕ). t ++ s.1) s.3.1 ∙ ap (λ (t : List ℕ). run_text run ++ t) more.1.spelled;
        meant = ap (λ (xs : List ℤ). values ++ xs) more.1.meant;
      },
    )

of_delta_runs : (delta_runs : List DeltaRun) → All IsDeltaRun delta_runs → (runs : List (List ℤ)) × Many IsRunText (flat_map run_text delta_runs) runs × (flat_map (λ (run : DeltaRun). run.values) delta_runs ≡ joined runs)
of_delta_runs [] each = ([], refl, refl)
of_delta_runs (run ∷ delta_runs) each =
    let more = of_delta_runs delta_runs (All-tail IsDeltaRun run delta_runs each) in (
      run.values ∷ more.0,
      (run_text run, flat_map run_text delta_runs, refl, (run.class, refl, All-head IsDeltaRun run delta_runs each), more.1),
      ap (λ (xs : List ℤ). run.values ++ xs) more.2,
    )

deltas_of : (wanted : ℕ) (text : List ℕ) (values : List ℤ) → Runs IsRunText text values × (length values ≡ wanted) → ReadsDeltas text values × (length values ≡ wanted)
deltas_of wanted text values s =
    let are = are_delta_runs text s.0.0 s.0.1 in
    ((are.0, subst (λ (xs : List ℤ). AreDeltaRuns are.0 text xs) (sym s.0.2) are.1), s.1)

of_deltas : (wanted : ℕ) (text : List ℕ) (values : List ℤ) → ReadsDeltas text values × (length values ≡ wanted) → Runs IsRunText text values × (length values ≡ wanted)
of_deltas wanted text values s =
    let are = s.0.1 in let runs = of_delta_runs s.0.0 are.each in
    ((runs.0, subst (λ (t : List ℕ). Many IsRunText t runs.0) (sym are.spelled) runs.1, are.meant ∙ runs.2), s.1)

pub deltas_read : (wanted : ℕ) → IsReader (λ text values. ReadsDeltas text values × (length values ≡ wanted)) (deltas_at wanted)
deltas_read wanted =
    same_reads (λ text values. Runs IsRunText text values × (length values ≡ wanted)) (λ text values. ReadsDeltas text values × (length values ≡ wanted)) (deltas_at wanted) (deltas_of wanted) (of_deltas wanted)
    (filled_reads IsRunText delta_run_at run_is_some run_reads wanted wanted (omega arith))
