-- What reading a stream within a limit, and writing to one, answers where its bytes are known.
use Rattle.std.specs.Prelude.{◌≡◌, ℕ, ◌+◌, ◌^◌, ◌≤◌, List, length, Option, Some, None, Result, Ok, Err}
use Rattle.std.specs.Io.KnownBytes.{Appends}
use Rattle.outside.specs.Files.{IsPrefix}
use Rattle.outside.specs.Found.{Finds}
use Rattle.outside.specs.declared.traits.Found.{Found}
use Rattle.outside.specs.declared.traits.Found.TheVariants.{TooLong}

-- what is found is what the stream had left, if that is known
abbrev pub FindsKnown : Option (List ℕ) → ℕ → Found → Type 0
FindsKnown None limit found = Unit {0}
FindsKnown (Some bytes) limit found = Finds (Some bytes) limit found

-- no more bytes than 4,294,967,296 are counted
abbrev pub IsCounted : Found → Type 0
IsCounted (TooLong n) = n ≤ 2 ^ 32
IsCounted _ = Unit {0}

-- n is how many bytes there were: these, and what the stream had left, if that is known
abbrev pub CountsKnown : ℕ → Option (List ℕ) → ℕ → Type 0
CountsKnown before None n = Unit {0}
CountsKnown before (Some bytes) n = n ≡ before + length bytes

-- the stream grew by the bytes, or by a prefix of them where an error came
abbrev pub AppendsPrefix : {X E : Type 0} → Option (List ℕ) → Option (List ℕ) → List ℕ → Result X E → Type 0
AppendsPrefix old new bytes (Ok _) = Appends old new bytes
AppendsPrefix old new bytes (Err _) = (prefix : List ℕ) × IsPrefix prefix bytes × Appends old new prefix

-- a file is open before and after, and grew by the bytes, or by a prefix of them where an error came
abbrev pub GrowsFile : {F X E : Type 0} → (F → Option (List ℕ)) → Option F → Option F → List ℕ → Result X E → Type 0
GrowsFile contents (Some old) (Some new) bytes result = AppendsPrefix (contents old) (contents new) bytes result
GrowsFile contents _ _ bytes result = ⊥
