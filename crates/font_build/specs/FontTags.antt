-- The tags of the tables that a font has, as the numbers that their letters write.
use Rattle.std.specs.Prelude.{ℕ, Bool, List, [], ◌∷◌, if◌then◌else◌}
use Rattle.sfnt_write.specs.FontFile.{HEAD}

abbrev pub GSUB : ℕ
GSUB = 0x4753_5542

abbrev pub HVAR : ℕ
HVAR = 0x4856_4152

abbrev pub OS2 : ℕ
OS2 = 0x4F53_2F32

abbrev pub AVAR : ℕ
AVAR = 0x6176_6172

abbrev pub CMAP : ℕ
CMAP = 0x636D_6170

abbrev pub FVAR : ℕ
FVAR = 0x6676_6172

abbrev pub GLYF : ℕ
GLYF = 0x676C_7966

abbrev pub GVAR : ℕ
GVAR = 0x6776_6172

abbrev pub HHEA : ℕ
HHEA = 0x6868_6561

abbrev pub HMTX : ℕ
HMTX = 0x686D_7478

abbrev pub LOCA : ℕ
LOCA = 0x6C6F_6361

abbrev pub MAXP : ℕ
MAXP = 0x6D61_7870

abbrev pub NAME : ℕ
NAME = 0x6E61_6D65

abbrev pub POST : ℕ
POST = 0x706F_7374

-- of every font
abbrev pub plain_tags : List ℕ
plain_tags = HVAR ∷ OS2 ∷ AVAR ∷ CMAP ∷ FVAR ∷ GLYF ∷ GVAR ∷ HEAD ∷ HHEA ∷ HMTX ∷ LOCA ∷ MAXP ∷ NAME ∷ POST ∷ []

-- with substitutions or without
abbrev pub font_tags : Bool → List ℕ
font_tags substitutes = if substitutes then GSUB ∷ plain_tags else plain_tags
