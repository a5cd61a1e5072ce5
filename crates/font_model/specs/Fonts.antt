-- The font that sources describe, as a plain value, and the project that stands for it.
use Rattle.std.specs.Prelude.{◌≡◌, ℕ, ℤ, ◌+◌, List, [], ◌∷◌, length, map}
use Rattle.std.specs.List.{AllZip}
use Rattle.fontinfo.specs.declared.info.Info.{Info}
use Rattle.glif.specs.declared.shape.Outline.{Outline}
use Rattle.region_support.specs.Coordinates.{coordinates_of, regions_in}
use Rattle.region_support.specs.Regions.{regions_of}
use Rattle.delta_solve.specs.GlyphModels.{IsModelOf}
use Rattle.rule_boxes.specs.Cells.{AreCells}
use Rattle.designspace.specs.declared.document.Designspace.{Designspace}
use Rattle.font_rules.specs.RuleNumbers.{AreAllNumbered, sets_of}
use Rattle.font_model.specs.declared.parts.Project.{Project}

-- The design space; what the default source says of the font; the names of the glyphs in glyph order; the glyph of each
-- code point; where the masters stand, in the order of masters; and for each glyph the outline of each master, in that
-- order too. An outline has no components: they are drawn into it.
pub record Font : Type 0 where
  pub design : Designspace
  pub info : Info
  pub names : List (List ℕ)
  pub codes : List (ℕ × ℕ)
  pub locations : List (List ℤ)
  pub glyphs : List (List Outline)

-- each name with its number, the first of them counted as this
abbrev pub numbered : ℕ → List (List ℕ) → List (List ℕ × ℕ)
numbered number [] = []
numbered number (name ∷ names) = (name, number) ∷ numbered (number + 1) names

-- the project of a font
pub record IsProjectOf (font : Font) (project : Project) : Type 0 where
  pub design : project.design ≡ font.design
  pub info : project.info ≡ font.info
  pub names : project.names.entries ≡ numbered 0 font.names
  pub codes : project.codes ≡ font.codes
  pub locations : coordinates_of project.sorted ≡ font.locations
  pub regions : regions_in project.supports ≡ regions_of font.locations
  pub models : AllZip (IsModelOf (regions_of font.locations) font.locations) font.glyphs project.models
  pub subs : AreAllNumbered (numbered 0 font.names) font.design.rules project.subs
  pub cells : AreCells (length font.design.axes) (sets_of font.design.rules) project.cells
