-- Reading packed deltas, so many values of them.
use Rattle.std.specs.Prelude.{ℕ, ℤ, pos, ◌+◌, ◌-◌, List, Option, Some, None, if◌then◌else◌, nat_lt}
use Rattle.variation_decoder.specs.Reading.{many, filled, byte_at, signed_byte_at, signed_word_at}
use Rattle.variation_rules.specs.declared.runs.DeltaClass.{DeltaClass}
use Rattle.variation_rules.specs.declared.runs.DeltaClass.TheVariants.{Zeros, Bytes, Words}
use Rattle.basics.specs.Optional.{◌>>=◌}

-- the class of a run and the number of its values, by the control byte; no run has both high bits set
abbrev pub delta_control : ℕ → Option (DeltaClass × ℕ)
delta_control byte =
    if nat_lt byte 0x40 then Some (Bytes, byte + 1)
    else (if nat_lt byte 0x80 then Some (Words, byte - 0x40 + 1)
    else (if nat_lt byte 0xC0 then Some (Zeros, byte - 0x80 + 1)
    else None))

abbrev pub delta_at : DeltaClass → List ℕ → Option (ℤ × List ℕ)
delta_at Zeros bytes = Some (pos 0, bytes)
delta_at Bytes bytes = signed_byte_at bytes
delta_at Words bytes = signed_word_at bytes

-- a run of no more values than are wanted
unfoldable pub delta_run_at : ℕ → List ℕ → Option (List ℤ × List ℕ)
delta_run_at wanted bytes = do
  byte ← byte_at bytes
  control ← delta_control byte.0
  if nat_lt wanted control.1 then None else many (delta_at control.0) control.1 byte.1

abbrev pub deltas_at : ℕ → List ℕ → Option (List ℤ × List ℕ)
deltas_at wanted bytes = filled delta_run_at wanted bytes
