-- What the bytes of a font mean, by readers that follow its table directory (OpenType). Each gives nothing where a table
-- that it reads isn't there or can't be read.
use Rattle.std.specs.Prelude.{ℕ, ◌*◌, ℤ, pos, ◌+ℤ◌, Bool, true, false, List, [], ◌∷◌, drop, map, Option, Some, None, if◌then◌else◌, nat_eq, slice_get}
use Rattle.std.specs.Ordering.{int_eq}
use Rattle.avar_fvar.specs.Axes.{FontAxes, axes_in}
use Rattle.avar_fvar.specs.SegmentMaps.{mapped_in}
use Rattle.basics.specs.Optional.{◌>>=◌}
use Rattle.be_bytes.specs.Reading.{int16, uint16}
use Rattle.cmap_name.specs.Characters.{glyph_of_character}
use Rattle.cmap_name.specs.Names.{names_in}
use Rattle.font_build.specs.FontTags.{AVAR, CMAP, FVAR, GLYF, HHEA, HMTX, HVAR, LOCA, MAXP, NAME}
use Rattle.glif.specs.declared.shape.Point.{Point}
use Rattle.glyf_loca.specs.Slices.{glyphs_in}
use Rattle.hvar.specs.Advances.{advance_movement, advances_in}
use Rattle.plain_tables.specs.HorizontalMetrics.{metrics_in}
use Rattle.sfnt_write.specs.FontFile.{HEAD, directory_in, table_in}

-- the tags of all tables, in the order of the directory
abbrev pub tags_in : List ℕ → Option (List ℕ)
tags_in file = directory_in file >>= λ directory. Some (map (λ own. own.tag) directory)

-- ---- glyphs

-- numGlyphs of `maxp`
abbrev pub glyph_count_in : List ℕ → Option ℕ
glyph_count_in file = table_in file MAXP >>= λ maxp. uint16 (drop 4 maxp)

-- indexToLocFormat of `head`: 0 for short offsets, 1 for long ones
abbrev pub form_of : ℤ → Option Bool
form_of form = if int_eq form (pos 0) then Some false else (if int_eq form (pos 1) then Some true else None)

abbrev pub long_offsets_in : List ℕ → Option Bool
long_offsets_in file = do
  head ← table_in file HEAD
  form ← int16 (drop 50 head)
  form_of form

-- the contours of each glyph, by `loca` and `glyf`
abbrev pub outlines_in : List ℕ → Option (List (List (List Point)))
outlines_in file = do
  count ← glyph_count_in file
  long ← long_offsets_in file
  loca ← table_in file LOCA
  glyf ← table_in file GLYF
  glyphs_in long count loca glyf

-- those of the glyph of this number
abbrev pub outline_in : List ℕ → ℕ → Option (List (List Point))
outline_in file glyph = outlines_in file >>= λ outlines. slice_get outlines glyph

-- numberOfHMetrics of `hhea`
abbrev pub metric_count_in : List ℕ → Option ℕ
metric_count_in file = table_in file HHEA >>= λ hhea. uint16 (drop 34 hhea)

-- the advance width and the left side bearing of a glyph, by `hmtx`
abbrev pub metric_in : List ℕ → ℕ → Option (ℕ × ℤ)
metric_in file glyph = do
  count ← glyph_count_in file
  whole ← metric_count_in file
  hmtx ← table_in file HMTX
  metrics ← metrics_in whole count hmtx
  slice_get metrics glyph

-- how far the advance of a glyph moves at a location, by `HVAR`, in 65536ths
abbrev pub movement_in : List ℕ → ℕ → List ℤ → Option ℤ
movement_in file glyph at = do
  hvar ← table_in file HVAR
  advances ← advances_in hvar
  advance_movement advances glyph at

-- the advance of a glyph at a location, in 65536ths of a font unit
abbrev pub advance_in : List ℕ → ℕ → List ℤ → Option ℤ
advance_in file glyph at = do
  metric ← metric_in file glyph
  movement ← movement_in file glyph at
  Some (pos (65536 * metric.0) +ℤ movement)

-- ---- characters

-- the glyph of a character, by `cmap`
abbrev pub character_in : List ℕ → ℕ → Option ℕ
character_in file c = table_in file CMAP >>= λ cmap. glyph_of_character cmap c

-- ---- names and axes

-- all names with their ids, by `name`
abbrev pub names_of_file : List ℕ → Option (List (ℕ × List ℕ))
names_of_file file = table_in file NAME >>= names_in

-- the first name of an id
abbrev pub text_of : ℕ → List (ℕ × List ℕ) → Option (List ℕ)
text_of id [] = None
text_of id (own ∷ others) = if nat_eq own.0 id then Some own.1 else text_of id others

abbrev pub name_in : List ℕ → ℕ → Option (List ℕ)
name_in file id = names_of_file file >>= text_of id

-- all axes and named instances, by `fvar`
abbrev pub axes_of_file : List ℕ → Option FontAxes
axes_of_file file = table_in file FVAR >>= axes_in

-- what a normalised value on an axis becomes, by the axis's segment map in `avar`
abbrev pub mapped_on : List ℕ → ℕ → ℤ → Option ℤ
mapped_on file axis v = table_in file AVAR >>= λ avar. mapped_in avar axis v
