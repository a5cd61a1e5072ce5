-- Reading from left to right, as the plain reader does it: a reader gives the value at the start of the bytes
-- and the bytes after it, or None where no such value stands there. What bytes mean is not said here but in
-- PackedDeltas, PackedPoints and TupleVariations; the proofs show that reading finds just that.
use Rattle.std.specs.Prelude.{◌≡◌, ℕ, zero, suc, ℤ, ◌-◌, List, [], ◌∷◌, ◌++◌, length, Option, Some, None, Result, Ok, Err}
use Rattle.std.specs.Int.{w8, w16, from_be_bytes, cast_signed}
use Rattle.variation_decoder.specs.declared.refusal.Refusal.{Refusal}
use Rattle.variation_decoder.specs.declared.refusal.Refusal.TheVariants.{NoReading, NoMemory}
use Rattle.basics.specs.Optional.{◌>>=◌}

-- a call that refuses for want of a reading says that there is none; want of memory is free
abbrev pub Fails : {Y : Type 0} → Refusal → Option Y → Type 0
Fails NoReading reading = reading ≡ None
Fails NoMemory reading = Unit {0}

-- a call answers the value that reading gives, seen by view
abbrev pub Gives : {X Y : Type 0} → (X → Y) → Result X Refusal → Option Y → Type 0
Gives view (Ok x) reading = reading ≡ Some (view x)
Gives view (Err e) reading = Fails e reading

-- so many values, one after another
unfoldable pub many : {A : Type 0} → (List ℕ → Option (A × List ℕ)) → ℕ → List ℕ → Option (List A × List ℕ)
many at zero bytes = Some ([], bytes)
many at (suc n) bytes = do
  first ← at bytes
  more ← many at n first.1
  Some (first.0 ∷ more.0, more.1)

-- Runs until they hold so many values. A run is told how many are still wanted, and as each holds some, there
-- are at most as many runs as values.
unfoldable pub filled_by : {A : Type 0} → (ℕ → List ℕ → Option (List A × List ℕ)) → ℕ → ℕ → List ℕ → Option (List A × List ℕ)
filled_by run_at runs zero bytes = Some ([], bytes)
filled_by run_at zero (suc wanted) bytes = None
filled_by run_at (suc runs) (suc wanted) bytes = do
  run ← run_at (suc wanted) bytes
  more ← filled_by run_at runs (suc wanted - length run.0) run.1
  Some (run.0 ++ more.0, more.1)

abbrev pub filled : {A : Type 0} → (ℕ → List ℕ → Option (List A × List ℕ)) → ℕ → List ℕ → Option (List A × List ℕ)
filled run_at wanted bytes = filled_by run_at wanted wanted bytes

-- uint8
abbrev pub byte_at : List ℕ → Option (ℕ × List ℕ)
byte_at [] = None
byte_at (byte ∷ bytes) = Some (byte, bytes)

-- uint16
abbrev pub word_at : List ℕ → Option (ℕ × List ℕ)
word_at [] = None
word_at (high ∷ []) = None
word_at (high ∷ low ∷ bytes) = Some (from_be_bytes w16 (high ∷ low ∷ []), bytes)

-- int8
unfoldable pub signed_byte_at : List ℕ → Option (ℤ × List ℕ)
signed_byte_at bytes = byte_at bytes >>= λ byte. Some (cast_signed w8 byte.0, byte.1)

-- int16, and F2DOT14 by its raw number
unfoldable pub signed_word_at : List ℕ → Option (ℤ × List ℕ)
signed_word_at bytes = word_at bytes >>= λ number. Some (cast_signed w16 number.0, number.1)
