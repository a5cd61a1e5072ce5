-- The classes of bytes in a source text, and runs of one class. Numbers are bytes: 60 is <, 62 >, 38 &, 47 /.
use Rattle.std.specs.Prelude.{ℕ, Bool, false, not, ◌&&◌, ◌||◌, List, [], ◌∷◌, ◌==◌, nat_le, nat_lt, ◌+◌, if◌then◌else◌}
use Rattle.std.specs.List.{list_all}
use Rattle.std.specs.Str.{is_utf8}
use Rattle.std.specs.Char.{is_ascii_alphabetic, is_ascii_digit}
use Rattle.basics.specs.Bytes.{is_blank}

-- a byte of a character that may stand in a source text: those below the space are the other three blanks
abbrev pub is_character : ℕ → Bool
is_character b = nat_le 32 b || ((b == 9) || ((b == 10) || (b == 13)))

-- a byte that stands for itself in content: neither < nor &
abbrev pub is_literal : ℕ → Bool
is_literal b = is_character b && (not (b == 60) && not (b == 38))

-- a letter, _, : or a byte of a character past ASCII
abbrev pub is_name_start : ℕ → Bool
is_name_start b = is_ascii_alphabetic b || ((b == 95) || ((b == 58) || nat_le 128 b))

-- also a digit, - or .
abbrev pub is_name_byte : ℕ → Bool
is_name_byte b = is_name_start b || (is_ascii_digit b || ((b == 45) || (b == 46)))

-- none of <, > and [
abbrev pub is_doctype_byte : ℕ → Bool
is_doctype_byte b = is_character b && (not (b == 60) && (not (b == 62) && not (b == 91)))

-- characters of a source text
abbrev pub is_text : List ℕ → Bool
is_text bytes = list_all is_character bytes && is_utf8 bytes

abbrev pub starts_blank : List ℕ → Bool
starts_blank [] = false
starts_blank (b ∷ bytes) = is_blank b

abbrev pub starts_name : List ℕ → Bool
starts_name [] = false
starts_name (b ∷ bytes) = is_name_start b

-- white space, and then characters other than <, > and [
abbrev pub is_doctype : List ℕ → Bool
is_doctype bytes = starts_blank bytes && (list_all is_doctype_byte bytes && is_utf8 bytes)

-- the number of a character that may stand in a source text: no control and no surrogate
abbrev pub is_allowed : ℕ → Bool
is_allowed n = is_character n && (nat_lt n 0xD800 || (nat_le 0xE000 n && nat_lt n 0x11_0000))

-- ---- what stands at the start
