-- How long a text is in UTF-16 (Unicode, "UTF-16"), in which the names of a font are written.
use Rattle.std.specs.Prelude.{ℕ, List, sum_by, nat_lt, if◌then◌else◌}
use Rattle.std.specs.Str.{chars}

-- how many units a character takes
abbrev pub unit_count : ℕ → ℕ
unit_count character = if nat_lt character 0x10000 then 1 else 2

-- how many units a text takes
unfoldable pub utf16_length : List ℕ → ℕ
utf16_length text = sum_by unit_count (chars text)
