-- Stops at a fault of one kind are stops at one of another.
use Rattle.std.proofs.Common.{Ok, Err}
use Rattle.std.specs.Prelude.{IfOk, Result}
use Rattle.compat.specs.Stops.{StopsAt}
use Rattle.compat.specs.declared.refusal.Refusal.{Refusal}
use Rattle.compat.specs.declared.refusal.FlattenStop.{FlattenStop}
use Rattle.compat.specs.declared.refusal.FlattenStop.TheVariants.{NoMemory, Refused}

pub stops_too : (P Q : Refusal → Type 0) (stop : FlattenStop) → ((refusal : Refusal) → P refusal → Q refusal) → StopsAt P stop → StopsAt Q stop
stops_too P Q NoMemory each stops = tt
stops_too P Q (Refused refusal) each stops = each refusal stops

pub if_ok_too : {X E : Type 0} (P Q : X → Type 0) (result : Result X E) → ((value : X) → P value → Q value) → IfOk result P → IfOk result Q
if_ok_too P Q (Ok value) each holds = each value holds
if_ok_too P Q (Err e) each holds = tt
