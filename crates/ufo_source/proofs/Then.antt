-- A step that reads, and one after it that doesn't.
use Rattle.std.proofs.Common.{◌≤◌, ℕ, List, Result, Ok, Err, sym, subst}
use Rattle.outside.specs.States.{SourcesState}
use Rattle.basics.specs.Reading.{◌>>=◌}
use Rattle.basics.specs.declared.fault.Fault.{Fault}
use Rattle.source_files.specs.Stops.{Answers, CountsStops, Names, NeverFails, Reads}
use Rattle.source_files.specs.declared.stop.ReadStop.{ReadStop}
use Rattle.source_files.specs.declared.stop.ReadStop.TheVariants.{Refused, ReadFault, NoMemory}

counts : {X : Type 0} (before after : ℕ) (result : Result X ReadStop) → NeverFails result → before ≤ after → CountsStops before after result
counts before after (Ok value) never le = le
counts before after (Err (Refused fault)) never le = le
counts before after (Err (ReadFault path)) never le = absurd never
counts before after (Err NoMemory) never le = le

names : {X : Type 0} (IsNamed : List ℕ → Type 0) (result : Result X ReadStop) → NeverFails result → Names IsNamed result
names IsNamed (Ok value) never = tt
names IsNamed (Err (Refused fault)) never = tt
names IsNamed (Err (ReadFault path)) never = absurd never
names IsNamed (Err NoMemory) never = tt

pub reads_then : {W U X V : Type 0} (old new : SourcesState) (IsNamed : List ℕ → Type 0) (seen : W → U) (view : X → V) (first : Result U Fault) (later : U → Result V Fault) (value : W) (result : Result X ReadStop)
    → Reads {X = W} old new IsNamed (Answers seen (Ok value) first) (Ok value) → Answers view result (later (seen value)) → NeverFails result → Reads old new IsNamed (Answers view result (first >>= later)) result
reads_then old new IsNamed seen view first later value result reads answers never = record {
  told = reads.told;
  same = reads.same;
  gives = λ told. subst (λ reading. Answers view result (reading >>= later)) (sym (reads.gives told)) answers;
  counted = counts old.faults new.faults result never reads.counted;
  named = names IsNamed result never;
  sure = λ sure. ((reads.sure sure).0, never);
}
