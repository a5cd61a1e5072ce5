-- What holds of a project that a font can be built of: how much it has of everything, and the range of its numbers.
use Rattle.std.specs.Prelude.{◌≡◌, ℕ, ◌+◌, ◌*◌, ◌<◌, ◌≤◌, List, length, map, All, sum_by}
use Rattle.fontinfo.specs.FontInfo.{AreNumbersWithin, AreTextsWithin}
use Rattle.glif.specs.Limits as outlines
use Rattle.cmap_name.specs.Codes.{AreCodes}
use Rattle.region_support.specs.Coordinates.{coordinates_of, regions_in}
use Rattle.region_support.specs.MasterOrder.{AreMasters}
use Rattle.region_support.specs.Regions.{AreNormalisedLocations, regions_of}
use Rattle.delta_solve.specs.declared.model.GlyphModel.{GlyphModel}
use Rattle.glyph_variations.specs.Conditions.{IsVariable, point_count}
use Rattle.rule_boxes.specs.Cells.{AreCells}
use Rattle.designspace.specs.Limits as documents
use Rattle.font_rules.specs.RuleNumbers.{AreAllNumbered, sets_of}
use Rattle.font_model.specs.declared.parts.Project.{Project}
use Rattle.font_model.specs.DefaultOutline.{default_outline}
use Rattle.font_model.specs.Fonts.{numbered}

-- a name takes 1 to 63 bytes
pub record IsGlyphName (name : List ℕ) : Type 0 where
  pub least : 1 ≤ length name
  pub greatest : length name ≤ 63

abbrev pub names_of : List (List ℕ × ℕ) → List (List ℕ)
names_of entries = map (λ entry. entry.0) entries

-- 1 to 32,510 names that differ, each with its position as its number
pub record AreGlyphNames (entries : List (List ℕ × ℕ)) : Type 0 where
  pub numbers : entries ≡ numbered 0 (names_of entries)
  pub once : outlines.AreDistinct (names_of entries)
  pub some : 1 ≤ length entries
  pub few : length entries ≤ 32510
  pub each : All IsGlyphName (names_of entries)

-- characters, by rising code points, with glyphs that are there
pub record AreGlyphCodes (glyphs : ℕ) (codes : List (ℕ × ℕ)) : Type 0 where
  pub characters : AreCodes codes
  pub there : All (λ code. code.1 < glyphs) codes

-- masters on so many axes, in their order, with the regions that are theirs
pub record AreFitMasters (axes : ℕ) (project : Project) : Type 0 where
  pub masters : AreMasters axes (coordinates_of project.sorted)
  pub normalised : AreNormalisedLocations (coordinates_of project.sorted)
  pub one_each : length project.sorted ≡ length project.design.sources
  pub regions : regions_in project.supports ≡ regions_of (coordinates_of project.sorted)

-- the model of a glyph over so many masters, whose default's drawing is within limits
pub record IsFitModel (masters : ℕ) (model : GlyphModel) : Type 0 where
  pub one_each : length model.tuples ≡ masters
  pub variable : IsVariable model.lengths model.tuples
  pub kinds : length model.on ≡ point_count model.tuples
  pub default : outlines.IsWithinLimits (default_outline model)

-- the points of a glyph and four more, once for each master
abbrev pub points_in : GlyphModel → ℕ
points_in model = (point_count model.tuples + 4) * length model.tuples

pub record IsFit (project : Project) : Type 0 where
  pub design : documents.IsWithinLimits project.design
  pub numbers : AreNumbersWithin project.info
  pub texts : AreTextsWithin project.info
  pub names : AreGlyphNames project.names.entries
  pub codes : AreGlyphCodes (length project.names.entries) project.codes
  pub masters : AreFitMasters (length project.design.axes) project
  pub model_each : length project.models ≡ length project.names.entries
  pub models : All (IsFitModel (length project.sorted)) project.models
  pub small : sum_by points_in project.models ≤ 16777216
  pub subs : AreAllNumbered project.names.entries project.design.rules project.subs
  pub cells : AreCells (length project.design.axes) (sets_of project.design.rules) project.cells
