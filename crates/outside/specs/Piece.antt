-- The text of one piece of a line.
use Rattle.std.specs.Prelude.{ℕ, List, decimal}
use Rattle.std.specs.Fmt.{signed_decimal}
use Rattle.outside.specs.declared.line.Piece.{Piece}
use Rattle.outside.specs.declared.line.Piece.TheVariants.{Word, Text, Count, Number}

-- a text as it is, and a number in decimal digits, with a minus sign below 0
abbrev pub piece_text : Piece → List ℕ
piece_text (Word text) = text.now
piece_text (Text text) = text.now
piece_text (Count n) = decimal n
piece_text (Number n) = signed_decimal n
