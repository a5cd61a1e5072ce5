-- What a font has of characters.
use Rattle.std.specs.Prelude.{◌≡◌, ℕ, List, Some}
use Rattle.cmap_name.specs.Characters.{Agree}
use Rattle.cmap_name.specs.Codes.{glyph_of}
use Rattle.font_build.specs.FontReading.{character_in}
use Rattle.font_build.specs.FontTags.{CMAP}
use Rattle.font_model.specs.declared.parts.Project.{Project}
use Rattle.sfnt_write.specs.Holds.{HasTable}

-- each character has the glyph that the project gives it, or else glyph 0; where there are two subtables, they agree
pub record HasCharacters (project : Project) (file : List ℕ) : Type 0 where
  pub glyphs : (c : ℕ) → character_in file c ≡ Some (glyph_of project.codes c)
  pub agree : HasTable file CMAP Agree
