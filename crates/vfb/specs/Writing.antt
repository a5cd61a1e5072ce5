-- What every function that writes files makes of the outputs, and what one that writes a product makes of the outside.
use Rattle.std.specs.Prelude.{◌≡◌, ℕ, ◌≤◌, ◌⊎◌, List, length, Result, OnOk, OnErr, IfErr, IsSome, Some}
use Rattle.std.specs.Borrow.{Bor}
use Rattle.outside.specs.Files.{Files, put, Counts, Exceeds, HasRisen}
use Rattle.outside.specs.States.{OutputsState, SayState}
use Rattle.vfb.specs.Ending.{status_of}
use Rattle.vfb.specs.Outcome.{EndsBy, Overflows}
use Rattle.vfb.specs.Performing.{SaysText, CutsText}
use Rattle.vfb.specs.Product.{File, Product, written, IsCutShort, IsCutAt, IsCutIn, IsPathIn, Overfills}
use Rattle.vfb.specs.declared.ending.Ending.{Ending}
use Rattle.vfb.specs.declared.ending.Ending.TheVariants.{Done, WriteFault}

-- The states are those of the outputs as the call begins and as it ends. At Ok the path holds the bytes, and at an error
-- they are cut short.
pub record WritesFile {V E : Type 0} (old new : OutputsState) (path bytes : List ℕ) (result : Result V E) : Type 0 where
  pub told : old.tells → new.tells
  pub whole : old.tells → OnOk result (new.files ≡ put old.files path bytes)
  pub cut : old.tells → OnErr result (IsCutShort path bytes old.files new.files)
  pub counted : Counts old.faults new.faults result
  pub sure : old.is_sure → new.is_sure × (new.room ≡ old.room)
  pub full : old.is_sure → old.tells → OnErr result (Exceeds (old.room path) 0 (length bytes))

-- the path is begun and holds the bytes so far
pub record Holds (old now : OutputsState) (path bytes : List ℕ) : Type 0 where
  pub told : old.tells → now.tells
  pub is_begun : IsSome now.begun
  pub at : old.tells → now.begun ≡ Some path
  pub held : old.tells → now.files ≡ put old.files path bytes
  pub counted : old.faults ≤ now.faults
  pub sure : old.is_sure → now.is_sure × (now.room ≡ old.room)

-- At Ok all files are written, and at an error, which names the path of one, they are cut short there.
pub record WritesFiles {V : Type 0} (old new : OutputsState) (files : List File) (result : Result V (Bor (List ℕ))) : Type 0 where
  pub told : old.tells → new.tells
  pub whole : old.tells → OnOk result (new.files ≡ written files old.files)
  pub cut : old.tells → IfErr result (λ path. IsCutAt path.now files old.files new.files)
  pub named : IfErr result (λ path. IsPathIn files path.now)
  pub counted : Counts old.faults new.faults result
  pub sure : old.is_sure → new.is_sure × (new.room ≡ old.room)
  pub full : old.is_sure → old.tells → OnErr result (Overfills old.room files)

-- what the files hold
abbrev pub WritesText : Product → Files → Files → Ending → Type 0
WritesText product old new Done = new ≡ written product.files old
WritesText product old new (WriteFault path) = IsCutIn product.files old new
WritesText product old new _ = ⊥

-- the product is written and said, or a device failed
abbrev pub IsDelivery : Type 0 → Ending → Type 0
IsDelivery risen Done = Unit {0}
IsDelivery risen (WriteFault path) = risen
IsDelivery risen _ = ⊥

-- The states are those of the outputs and of the place where text is said, as the call begins and, with a dash, as it ends.
pub record WritesProduct (outputs outputs' : OutputsState) (say say' : SayState) (product : Product) (ending : Ending) : Type 0 where
  pub delivers : IsDelivery (HasRisen outputs.faults outputs'.faults ⊎ HasRisen say.faults say'.faults) ending
  pub written : outputs.tells → WritesText product outputs.files outputs'.files ending
  pub said : say.tells → SaysText product (HasRisen say.faults say'.faults) say.said say'.said ending
  pub cut : outputs.tells → say.tells → CutsText product (HasRisen say.faults say'.faults) outputs.files outputs'.files say.said say'.said ending
  pub full : outputs.tells → outputs.is_sure → say.tells → say.is_sure → EndsBy (Overflows product outputs.room say.room say.said) (status_of ending)
  pub told : say.tells → say'.tells
  pub counted : say.faults ≤ say'.faults
