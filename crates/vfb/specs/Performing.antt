-- What every function that performs a command makes of the outside, before the line of how it ended is said.
use Rattle.std.specs.Prelude.{◌≡◌, ℕ, ◌≤◌, ◌⊎◌, List, ◌++◌, codes, Ok, Err}
use Rattle.outside.specs.Files.{Files, IsPrefix, HasRisen}
use Rattle.outside.specs.States.{SourcesState, OutputsState, SayState}
use Rattle.vfb.specs.Calls.{Call, Task}
use Rattle.vfb.specs.Product.{Product, written, IsCutAt, IsPathIn}
use Rattle.vfb.specs.Work.{IsReadBy, IsProductOf}
use Rattle.vfb.specs.Outcome.{IsAnswer, IsUsage, WritesNothing, IsWritten, Leaves, HasWork, LacksRoom, EndsBy}
use Rattle.vfb.specs.Ending.{shown_misuse, status_of}
use Rattle.vfb.specs.declared.status.Status.TheVariants as status
use Rattle.vfb.specs.declared.ending.Ending.{Ending}
use Rattle.vfb.specs.declared.ending.Ending.TheVariants.{Done, Usage, ReadFault, WriteFault}

-- a prefix of the text is said, where the count of faults of saying rose
abbrev pub SaysPrefix : Type 0 → List ℕ → List ℕ → List ℕ → Type 0
SaysPrefix risen text old new = risen × ((prefix : List ℕ) × IsPrefix prefix text × (new ≡ old ++ prefix))

-- the text that a product has said, and which path its ending names
abbrev pub SaysText : Product → Type 0 → List ℕ → List ℕ → Ending → Type 0
SaysText product risen old new Done = new ≡ old ++ product.text
SaysText product risen old new (WriteFault path) =
    (IsPathIn product.files path.now × (new ≡ old)) ⊎ ((path.now ≡ codes "-") × SaysPrefix risen product.text old new)
SaysText product risen old new _ = ⊥

-- where its ending is a write fault, it names the file that is cut short, or a dash where all are whole
abbrev pub CutsText : Product → Type 0 → Files → Files → List ℕ → List ℕ → Ending → Type 0
CutsText product risen old new said_old said_new Done = Unit {0}
CutsText product risen old new said_old said_new (WriteFault path) =
    (IsCutAt path.now product.files old new × (said_new ≡ said_old))
    ⊎ ((path.now ≡ codes "-") × (new ≡ written product.files old) × SaysPrefix risen product.text said_old said_new)
CutsText product risen old new said_old said_new _ = ⊥

-- the text that a command says itself, and which path its ending names
abbrev pub SaysItself : Task → Files → Type 0 → List ℕ → List ℕ → Ending → Type 0
SaysItself task files risen old new Done = (product : Product) × IsProductOf files task product × SaysText product risen old new Done
SaysItself task files risen old new (WriteFault path) =
    (product : Product) × IsProductOf files task product × SaysText product risen old new (WriteFault path)
SaysItself task files risen old new (ReadFault path) = IsReadBy (Unit {0}) files task.command path × (new ≡ old)
SaysItself task files risen old new _ = new ≡ old

abbrev pub IsSaidItself : Call → Files → Type 0 → List ℕ → List ℕ → Ending → Type 0
IsSaidItself (Err misuse) files risen old new (Usage found) = (shown_misuse found ≡ misuse) × (new ≡ old)
IsSaidItself (Err misuse) files risen old new _ = new ≡ old
IsSaidItself (Ok task) files risen old new ending = SaysItself task files risen old new ending

-- where an ending is a write fault, what its product leaves
abbrev pub IsCutItself : Call → Files → Type 0 → Files → Files → List ℕ → List ℕ → Ending → Type 0
IsCutItself (Err misuse) files risen old new said_old said_new (WriteFault path) = ⊥
IsCutItself (Ok task) files risen old new said_old said_new (WriteFault path) =
    (product : Product) × IsProductOf files task product × CutsText product risen old new said_old said_new (WriteFault path)
IsCutItself call files risen old new said_old said_new _ = Unit {0}

-- The states are those of the sources, of the outputs and of the place where text is said, each as the call begins
-- and, with a dash, as it ends. The fields are named as the clauses of `run` that rest on them; the last two serve the
-- line that is said after the command.
pub record Performs (sources sources' : SourcesState) (outputs outputs' : OutputsState) (say say' : SayState) (call : Call) (ending : Ending) : Type 0 where
  pub usage : IsUsage call (status_of ending)
  pub answer : sources.tells → IsAnswer call sources.files (status_of ending)
  pub read : status_of ending ≡ status.ReadFault → HasRisen sources.faults sources'.faults
  pub write : status_of ending ≡ status.WriteFault → HasRisen outputs.faults outputs'.faults ⊎ HasRisen say.faults say'.faults
  pub same : sources'.files ≡ sources.files
  pub unwritten : WritesNothing (status_of ending) → outputs'.files ≡ outputs.files
  pub written : sources.tells → outputs.tells → IsWritten call sources.files outputs.files outputs'.files (status_of ending)
  pub said_itself : sources.tells → say.tells → IsSaidItself call sources.files (HasRisen say.faults say'.faults) say.said say'.said ending
  pub cut : sources.tells → outputs.tells → say.tells → IsCutItself call sources.files (HasRisen say.faults say'.faults) outputs.files outputs'.files say.said say'.said ending
  pub leaves : sources.tells → outputs.tells → status_of ending ≡ status.Ok → Leaves call sources.files outputs'.files
  pub complete : sources.tells → HasWork call sources.files → (status_of ending ≡ status.ReadFault → ⊥) → (status_of ending ≡ status.WriteFault → ⊥) → EndsBy ⊥ (status_of ending)
  pub complete_sure : sources.tells → sources.is_sure → outputs.tells → outputs.is_sure → say.tells → say.is_sure → HasWork call sources.files → EndsBy (LacksRoom call sources.files outputs.room say.room say.said) (status_of ending)
  pub told : say.tells → say'.tells
  pub counted : say.faults ≤ say'.faults
