-- Why a call on drawings stopped.
use Rattle.compat.specs.declared.refusal.Refusal.{Refusal}
use Rattle.compat.specs.declared.refusal.FlattenStop.{FlattenStop}
use Rattle.compat.specs.declared.refusal.FlattenStop.TheVariants.{NoMemory, Refused}

-- want of memory is free, and a fault is one of these
abbrev pub StopsAt : (Refusal → Type 0) → FlattenStop → Type 0
StopsAt IsFault NoMemory = Unit {0}
StopsAt IsFault (Refused refusal) = IsFault refusal
