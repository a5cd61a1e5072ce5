-- Reading the bytes of a table (OpenType, "Data types"): fields, and arrays of records. A reading is of what stands
-- at the start of bytes, and gives nothing where that isn't there in whole; what stands at an offset is read after
-- drop. A reading is a function, so that bytes mean one thing at most.
use Rattle.std.specs.Prelude.{ℕ, zero, suc, ℤ, List, [], ◌∷◌, length, take, drop, Option, Some, None, if◌then◌else◌, nat_le}
use Rattle.std.specs.Int.{w16, w32, w64, cast_signed, from_be_bytes}
use Rattle.basics.specs.Optional.{◌>>=◌}

-- ---- fields

abbrev pub uint8 : List ℕ → Option ℕ
uint8 (a ∷ rest) = Some a
uint8 _ = None

abbrev pub uint16 : List ℕ → Option ℕ
uint16 (a ∷ b ∷ rest) = Some (from_be_bytes w16 (a ∷ b ∷ []))
uint16 _ = None

abbrev pub uint32 : List ℕ → Option ℕ
uint32 (a ∷ b ∷ c ∷ d ∷ rest) = Some (from_be_bytes w32 (a ∷ b ∷ c ∷ d ∷ []))
uint32 _ = None

abbrev pub uint64 : List ℕ → Option ℕ
uint64 (a ∷ b ∷ c ∷ d ∷ e ∷ f ∷ g ∷ h ∷ rest) = Some (from_be_bytes w64 (a ∷ b ∷ c ∷ d ∷ e ∷ f ∷ g ∷ h ∷ []))
uint64 _ = None

-- F2DOT14 by its raw number
abbrev pub int16 : List ℕ → Option ℤ
int16 bytes = uint16 bytes >>= λ n. Some (cast_signed w16 n)

-- Fixed by its raw number
abbrev pub int32 : List ℕ → Option ℤ
int32 bytes = uint32 bytes >>= λ n. Some (cast_signed w32 n)

-- LONGDATETIME
abbrev pub int64 : List ℕ → Option ℤ
int64 bytes = uint64 bytes >>= λ n. Some (cast_signed w64 n)

-- four letters
abbrev pub tag : List ℕ → Option (List ℕ)
tag (a ∷ b ∷ c ∷ d ∷ rest) = Some (a ∷ b ∷ c ∷ d ∷ [])
tag _ = None

-- ---- arrays

-- so many bytes
abbrev pub prefix_of : ℕ → List ℕ → Option (List ℕ)
prefix_of size bytes = if nat_le size (length bytes) then Some (take size bytes) else None

-- So many records of this size, one after another. A record is read from its own bytes alone.
abbrev pub records : {A : Type 0} → (List ℕ → Option A) → ℕ → ℕ → List ℕ → Option (List A)
records read size zero bytes = Some []
records read size (suc count) bytes = do
  own ← prefix_of size bytes
  first ← read own
  more ← records read size count (drop size bytes)
  Some (first ∷ more)

-- So many records of sizes of their own, one after another. A reading gives the record and its size.
abbrev pub sized_records : {A : Type 0} → (List ℕ → Option (A × ℕ)) → ℕ → List ℕ → Option (List A)
sized_records read zero bytes = Some []
sized_records read (suc count) bytes = do
  first ← read bytes
  more ← sized_records read count (drop first.1 bytes)
  Some (first.0 ∷ more)
