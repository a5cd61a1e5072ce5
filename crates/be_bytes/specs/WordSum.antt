-- The sum that a font's checksums are made of (OpenType, "Calculating checksums").
use Rattle.std.specs.Prelude.{ℕ, ◌+◌, List, [], ◌∷◌}
use Rattle.std.specs.Int.{w32, from_be_bytes}

-- the sum of the 32-bit words, the last one filled with zeros
abbrev pub word_sum : List ℕ → ℕ
word_sum [] = 0
word_sum (a ∷ []) = from_be_bytes w32 (a ∷ 0 ∷ 0 ∷ 0 ∷ [])
word_sum (a ∷ b ∷ []) = from_be_bytes w32 (a ∷ b ∷ 0 ∷ 0 ∷ [])
word_sum (a ∷ b ∷ c ∷ []) = from_be_bytes w32 (a ∷ b ∷ c ∷ 0 ∷ [])
word_sum (a ∷ b ∷ c ∷ d ∷ rest) = from_be_bytes w32 (a ∷ b ∷ c ∷ d ∷ []) + word_sum rest
