-- The names of the font of a project, each with its id (OpenType, "name", "Name IDs").
use Rattle.std.specs.Prelude.{ℕ, ◌+◌, Bool, not, ◌&&◌, List, [], ◌∷◌, ◌++◌, map, filter, take, codes, Option, Some, None, nat_eq, nat_le}
use Rattle.std.specs.List.{list_any}
use Rattle.designspace.specs.declared.document.Designspace.{Designspace}
use Rattle.fontinfo.specs.declared.info.Info.{Info}
use Rattle.font_model.specs.declared.parts.Project.{Project}

-- ---- the PostScript name

-- the brackets and other marks that a PostScript name can't have
abbrev pub is_mark : ℕ → Bool
is_mark byte = list_any (λ mark. nat_eq mark byte) (codes "[](){}<>/%")

-- ASCII from 33 to 126 without those
abbrev pub is_plain : ℕ → Bool
is_plain byte = nat_le 33 byte && nat_le byte 126 && not (is_mark byte)

-- The family, a hyphen and the style: what of these a PostScript name can have, up to 63 bytes. The bytes of other
-- characters than ASCII are all above 126.
unfoldable pub postscript_name : Info → List ℕ
postscript_name info = take 63 (filter is_plain (info.family ++ (codes "-" ++ info.style)))

-- ---- the names

-- which version of which font it is
abbrev pub unique_name : Info → List ℕ
unique_name info = info.version ++ (codes ";" ++ postscript_name info)

abbrev pub full_name : Info → List ℕ
full_name info = info.family ++ (codes " " ++ info.style)

-- 0, the copyright
abbrev pub copyright_name : Option (List ℕ) → List (ℕ × List ℕ)
copyright_name None = []
copyright_name (Some text) = (0, text) ∷ []

-- 1 to 6, the family, the style, which font it is, its full name, its version and its PostScript name
abbrev pub info_names : Info → List (ℕ × List ℕ)
info_names info =
    (1, info.family) ∷ (2, info.style) ∷ (3, unique_name info) ∷ (4, full_name info) ∷ (5, info.version) ∷ (6, postscript_name info) ∷ []

-- each text with an id, which run on from the first
abbrev pub texts_from : ℕ → List (List ℕ) → List (ℕ × List ℕ)
texts_from id [] = []
texts_from id (text ∷ texts) = (id, text) ∷ texts_from (id + 1) texts

-- the label of each axis, and after them the name of each instance
abbrev pub labels_of : Designspace → List (List ℕ)
labels_of design = map (λ axis. axis.label) design.axes

abbrev pub instance_names_of : Designspace → List (List ℕ)
instance_names_of design = map (λ instance. instance.name) design.instances

abbrev pub design_texts : Designspace → List (List ℕ)
design_texts design = labels_of design ++ instance_names_of design

-- the first id that a font may give to names of its own
abbrev pub FIRST : ℕ
FIRST = 256

abbrev pub names_of : Project → List (ℕ × List ℕ)
names_of project = copyright_name project.info.copyright ++ (info_names project.info ++ texts_from FIRST (design_texts project.design))
