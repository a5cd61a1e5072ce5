-- What a reader reads of a text is what is read of its file.
use Rattle.std.proofs.Common.{◌≡◌, List, ℕ, Result, Ok, Err, sym, ◌∙◌, ap, subst}
use Rattle.std.specs.Prelude.{IfOk}
use Rattle.basics.specs.Reading.{Gives}
use Rattle.basics.specs.declared.fault.Spot.{Spot}
use Rattle.basics.specs.declared.fault.Stop.{Stop}
use Rattle.basics.specs.declared.fault.Stop.TheVariants as stop
use Rattle.source_files.specs.Stops.{Answers}
use Rattle.source_files.specs.Trees.{IsInFile, in_file}
use Rattle.source_files.specs.declared.stop.ReadStop.{ReadStop}
use Rattle.source_files.specs.declared.stop.ReadStop.TheVariants.{Refused, ReadFault, NoMemory}

pub answers_in_file : {X V : Type 0} (view : X → V) (path : List ℕ) (answer : Result X Stop) (result : Result X ReadStop) (reading : Result V Spot)
    → Gives view answer reading → IsInFile path answer result → Answers view result (in_file path reading)
answers_in_file view path (Ok value) result reading gives is =
    subst (λ result. Answers view result (in_file path reading)) (sym is) (ap (in_file path) gives)
answers_in_file view path (Err (stop.At spot)) (Ok value) reading gives is = absurd is
answers_in_file view path (Err (stop.At spot)) (Err (Refused fault)) reading gives is = ap (in_file path) gives ∙ ap Err (sym is)
answers_in_file view path (Err (stop.At spot)) (Err (ReadFault named)) reading gives is = absurd is
answers_in_file view path (Err (stop.At spot)) (Err NoMemory) reading gives is = tt
answers_in_file view path (Err stop.NoMemory) result reading gives is =
    subst (λ result. Answers view result (in_file path reading)) (sym is) tt

-- and what holds of a value that it answers holds of it for the file
pub kept_in_file : {X : Type 0} (P : X → Type 0) (path : List ℕ) (answer : Result X Stop) (result : Result X ReadStop) → IfOk answer P → IsInFile path answer result → IfOk result P
kept_in_file P path (Ok value) result holds is = subst (λ result. IfOk result P) (sym is) holds
kept_in_file P path (Err (stop.At spot)) (Ok value) holds is = absurd is
kept_in_file P path (Err (stop.At spot)) (Err found) holds is = tt
kept_in_file P path (Err stop.NoMemory) result holds is = subst (λ result. IfOk result P) (sym is) tt
