-- Big-endian fields (OpenType, "Data types").
use Rattle.std.specs.Prelude.{ℕ, ℤ, List}
use Rattle.std.specs.Int.{w16, to_be_bytes, cast_unsigned}

-- uint16
abbrev pub word : ℕ → List ℕ
word n = to_be_bytes w16 n

-- int16, and F2DOT14 by its raw number
abbrev pub signed_word : ℤ → List ℕ
signed_word z = to_be_bytes w16 (cast_unsigned w16 z)
