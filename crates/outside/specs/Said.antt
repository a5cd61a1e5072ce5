-- What every function that says a text makes of where it says it.
use Rattle.std.specs.Prelude.{◌≡◌, ◌+◌, ◌≤◌, ◌<◌, ℕ, List, ◌++◌, length, Result, OnOk, OnErr}
use Rattle.outside.specs.Files.{IsPrefix, HasRisen}
use Rattle.outside.specs.States.{SayState}

-- The states are those before and after the call, as the call begins and as it ends. The text is said whole at Ok, and cut short at an
-- error.
pub record Says {V E : Type 0} (old new : SayState) (text : List ℕ) (result : Result V E) : Type 0 where
  pub told : old.tells → new.tells
  pub counted : old.faults ≤ new.faults
  pub whole : old.tells → OnOk result (new.said ≡ old.said ++ text)
  pub prefix : old.tells → OnErr result (IsPrefix old.said new.said × IsPrefix new.said (old.said ++ text))
  pub risen : OnErr result (HasRisen old.faults new.faults)
  pub sure : old.is_sure → new.is_sure × (new.room ≡ old.room)
  pub full : old.is_sure → old.tells → OnErr result (old.room < length old.said + length text)
