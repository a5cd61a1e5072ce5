-- How the names that are made of the font information are made, and how long they are.
use Rattle.std.specs.Prelude.{ℕ, ◌≤◌, ◌&&◌, List, [], ◌∷◌, ◌++◌, length, if◌then◌else◌, nat_lt}
use Rattle.fontinfo.specs.declared.info.Info.{Info}
use Rattle.font_tables.specs.FontNames.{full_name, is_plain, postscript_name, unique_name}
use Rattle.font_text.specs.Utf16.{utf16_length}

-- a PostScript name with one more byte, where it can have that and isn't full
abbrev pub with_plain : List ℕ → ℕ → List ℕ
with_plain name byte = if nat_lt (length name) 63 && is_plain byte then name ++ byte ∷ [] else name

-- so many units of UTF-16 at most
pub record AreShort (info : Info) : Type 0 where
  pub postscript : utf16_length (postscript_name info) ≤ 63
  pub unique : utf16_length (unique_name info) ≤ 164
  pub full : utf16_length (full_name info) ≤ 201
