-- Why a step that reads files stops, and what every such step makes of the sources.
--
-- A step that reads, as a folder of glyphs or a document, is a function from the files to a value or the first fault:
-- its definition is in the words of `basics` (`>>=`, `each`, `all_pass`) over `tree_at` and `meant_at`. Its call carries
--     Reads (S.state sources.old) (S.state sources.new) IsNamed (Answers view result (DEFINITION (S.state sources.old).files ..)) result
-- where `view` makes the definition's value of the call's, mostly `λ value. value`. A step that reads nothing carries
-- Answers view result (DEFINITION ..) and NeverFails result. So `?` on each line of a step is the `>>=` of its definition.
-- A loop over files has GoesOn for its invariant, at the `drop` of what it walks.
use Rattle.std.specs.Prelude.{◌≡◌, ℕ, ◌≤◌, List, Result, Err}
use Rattle.outside.specs.Files.{HasRisen}
use Rattle.outside.specs.States.{SourcesState}
use Rattle.basics.specs.Reading.{GivesBy}
use Rattle.basics.specs.declared.fault.Fault.{Fault}
use Rattle.source_files.specs.declared.stop.ReadStop.{ReadStop}
use Rattle.source_files.specs.declared.stop.ReadStop.TheVariants.{Refused, ReadFault, NoMemory}

-- a fault is that of the reading; a device that fails and want of memory may come before it
abbrev pub StopsBy : {V : Type 0} → ReadStop → Result V Fault → Type 0
StopsBy (Refused fault) reading = reading ≡ Err fault
StopsBy (ReadFault _) reading = Unit {0}
StopsBy NoMemory reading = Unit {0}

-- it stops with this fault, or for want of memory
abbrev pub Refuses : Fault → ReadStop → Type 0
Refuses fault (Refused found) = found ≡ fault
Refuses fault (ReadFault _) = ⊥
Refuses fault NoMemory = Unit {0}

-- the call answered what is read, seen so, or stopped by it
abbrev pub Answers : {X V : Type 0} → (X → V) → Result X ReadStop → Result V Fault → Type 0
Answers view result reading = GivesBy StopsBy view result reading

-- the count of faults never falls, and rose where a file could not be read
abbrev pub CountsStops : {X : Type 0} → ℕ → ℕ → Result X ReadStop → Type 0
CountsStops before after (Err (ReadFault _)) = HasRisen before after
CountsStops before after _ = before ≤ after

-- the path of a file that could not be read is such a one
abbrev pub Names : {X : Type 0} → (List ℕ → Type 0) → Result X ReadStop → Type 0
Names IsNamed (Err (ReadFault path)) = IsNamed path
Names IsNamed _ = Unit {0}

-- every file could be read
abbrev pub NeverFails : {X : Type 0} → Result X ReadStop → Type 0
NeverFails (Err (ReadFault _)) = ⊥
NeverFails _ = Unit {0}

-- The states are those of the sources as the call begins and as it ends. IsNamed tells which paths a read fault may
-- name: that of the one file, or `Anywhere` where nothing is said of it. Gives is what the call gives of sources that
-- tell their files, mostly `Answers`.
pub record Reads {X : Type 0} (old new : SourcesState) (IsNamed : List ℕ → Type 0) (Gives : Type 0) (result : Result X ReadStop) : Type 0 where
  pub told : old.tells → new.tells
  pub same : new.files ≡ old.files
  pub gives : old.tells → Gives
  pub counted : CountsStops old.faults new.faults result
  pub named : Names IsNamed result
  pub sure : old.is_sure → new.is_sure × NeverFails result

-- any path
abbrev pub Anywhere : List ℕ → Type 0
Anywhere path = Unit {0}

-- Reading goes on: the states are those of the sources as the whole began and as they are now. Left says what the whole
-- gives in terms of what is left, mostly
--     each (reading old.files) all ≡ with_front done (each (reading old.files) (drop i all))
-- and a path that what is left may name is one that the whole may name.
pub record GoesOn (old now : SourcesState) (IsNamed IsNamedLater : List ℕ → Type 0) (Left : Type 0) : Type 0 where
  pub told : old.tells → now.tells
  pub same : now.files ≡ old.files
  pub left : old.tells → Left
  pub counted : old.faults ≤ now.faults
  pub named : (path : List ℕ) → IsNamedLater path → IsNamed path
  pub sure : old.is_sure → now.is_sure
