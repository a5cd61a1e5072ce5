-- What else a font has: the fields of its tables, its names, and which tables there are.
use Rattle.std.specs.Prelude.{◌≡◌, ◌≢◌, ℕ, List, drop, length, All, Some}
use Rattle.be_bytes.specs.declared.field.Field.{Field}
use Rattle.font_build.specs.FontReading.{names_of_file, tags_in}
use Rattle.font_build.specs.FontTags.{HHEA, HMTX, MAXP, OS2, POST, font_tags}
use Rattle.font_model.specs.declared.parts.Project.{Project}
use Rattle.font_tables.specs.FontFacts.{facts_of, has_substitutions}
use Rattle.font_tables.specs.FontNames as font_names
use Rattle.plain_tables.specs.FixedFields.{AreRead, IsRead}
use Rattle.plain_tables.specs.FontHeader.{head_of, maxp_of}
use Rattle.plain_tables.specs.GlyphNames as glyph_names
use Rattle.plain_tables.specs.GlyphNames.{post_of}
use Rattle.plain_tables.specs.HorizontalMetrics.{hhea_of, metrics_in, metrics_of}
use Rattle.plain_tables.specs.StyleMetrics.{os2_of}
use Rattle.plain_tables.specs.declared.facts.Facts.{Facts}
use Rattle.sfnt_write.specs.FontFile.{HEAD, IsFontFile}
use Rattle.sfnt_write.specs.Holds.{HasTable}

-- where checksumAdjustment stands in `head`
abbrev pub ADJUSTMENT : ℕ
ADJUSTMENT = 8

-- each field is read at its offset, but the one at this offset
abbrev pub AreReadBut : ℕ → List (ℕ × Field) → List ℕ → Type 0
AreReadBut offset fields bytes = All (λ own. own.0 ≢ offset → IsRead own.1 (drop own.0 bytes)) fields

-- the tables of fixed fields, of a font that tells this; checksumAdjustment is that of the whole file
pub record TellsFacts (facts : Facts) (file : List ℕ) : Type 0 where
  pub head : HasTable file HEAD (AreReadBut ADJUSTMENT (head_of facts))
  pub hhea : HasTable file HHEA (AreRead (hhea_of facts))
  pub hmtx : HasTable file HMTX (λ bytes. metrics_in (length facts.names) (length facts.names) bytes ≡ Some (metrics_of facts))
  pub maxp : HasTable file MAXP (AreRead (maxp_of facts))
  pub os2 : HasTable file OS2 (AreRead (os2_of facts))
  pub post : HasTable file POST (AreRead (post_of facts))
  pub glyph_names : HasTable file POST (λ bytes. glyph_names.names_in bytes ≡ Some facts.names)

-- it is a font file, whose tables are exactly these and tell this
pub record HasFields (project : Project) (file : List ℕ) : Type 0 where
  pub is_font : IsFontFile file
  pub tags : tags_in file ≡ Some (font_tags (has_substitutions project.cells))
  pub facts : TellsFacts (facts_of project) file
  pub names : names_of_file file ≡ Some (font_names.names_of project)
