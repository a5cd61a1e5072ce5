-- What holds of each source that is read, whatever the sources are.
use Rattle.std.specs.Prelude.{◌≡◌, ℕ, ◌+◌, ◌≤◌, false, List, [], ◌∷◌, ◌++◌, length, codes, All, Option, Some, None, IsSome, IfSome, if◌then◌else◌}
use Rattle.std.specs.List.{AllZip, flat_map, list_any}
use Rattle.std.specs.Str.{bytes_eq}
use Rattle.fontinfo.specs.FontInfo.{AreNumbersWithin, AreTextsWithin}
use Rattle.glif.specs.Limits.{AreDistinct, IsCodePoint, IsOffsetWithin, IsWithinLimits}
use Rattle.glif.specs.declared.shape.Drawing.{Drawing}
use Rattle.ufo_source.specs.declared.folder.Master.{Master}
use Rattle.ufo_source.specs.Contents.{Entry}
use Rattle.ufo_source.specs.Glyphs.{is_taken}

-- the outline and the offsets are within limits, and each code point is one that a glyph may have, and stands once
pub record IsDrawingWithin (drawing : Drawing) : Type 0 where
  pub outline : IsWithinLimits drawing.outline
  pub offsets : All IsOffsetWithin drawing.components
  pub codes : All IsCodePoint drawing.codes
  pub once : AreDistinct drawing.codes

-- the drawing, if there is one
abbrev pub IsGlyphWithin : Option Drawing → Type 0
IsGlyphWithin glyph = IfSome glyph IsDrawingWithin

-- the drawing has this name, if there is one; and as many glyphs as names, each so with the name at its position
abbrev pub HasName : List ℕ → Option Drawing → Type 0
HasName name glyph = IfSome glyph (λ drawing. drawing.name ≡ name)

abbrev pub AreNamed : List (List ℕ) → List (Option Drawing) → Type 0
AreNamed names glyphs = AllZip HasName names glyphs

-- ---- each source

pub record IsMasterWithin (master : Master) : Type 0 where
  pub numbers : AreNumbersWithin master.info
  pub texts : AreTextsWithin master.info
  pub drawings : All IsGlyphWithin master.glyphs
  pub counts : length master.glyphs ≡ length master.names

-- ---- a source that is read whole

-- ASCII that shows
pub record IsNameByte (byte : ℕ) : Type 0 where
  pub least : 33 ≤ byte
  pub greatest : byte ≤ 126

-- one to 63 bytes, each of them such
pub record IsGlyphName (name : List ℕ) : Type 0 where
  pub least : 1 ≤ length name
  pub greatest : length name ≤ 63
  pub bytes : All IsNameByte name

-- how many glyphs the font has of these names: one is made where there is no `.notdef`
abbrev pub count_of_names : List (List ℕ) → ℕ
count_of_names names = length names + (if list_any (λ name. bytes_eq name (codes ".notdef")) names then 0 else 1)

-- the code points of a glyph
abbrev pub codes_of : Option Drawing → List ℕ
codes_of None = []
codes_of (Some drawing) = drawing.codes

-- the code points of glyphs, in order
abbrev pub all_codes : List (Option Drawing) → List ℕ
all_codes glyphs = flat_map codes_of glyphs

-- few names of glyphs, each once; each glyph is there with its name, and no code point stands twice in all of them
pub record IsWhole (master : Master) : Type 0 where
  pub names : All IsGlyphName master.names
  pub few : count_of_names master.names ≤ 32510
  pub names_once : AreDistinct master.names
  pub there : All IsSome master.glyphs
  pub named : AreNamed master.names master.glyphs
  pub codes_once : AreDistinct (all_codes master.glyphs)

-- ---- a source of which some glyphs are wanted

-- the wanted names, with a glyph or none for each, and each that is there has its name
pub record IsPartOf (wanted : List (List ℕ)) (master : Master) : Type 0 where
  pub names : master.names ≡ wanted
  pub counts : length master.glyphs ≡ length wanted
  pub named : AreNamed wanted master.glyphs

-- ---- what the steps of reading keep

-- names that a font can hold, each once, and few enough
pub record AreGlyphNames (names : List (List ℕ)) : Type 0 where
  pub each : All IsGlyphName names
  pub few : count_of_names names ≤ 32510
  pub once : AreDistinct names

-- one more glyph, within limits and with this name, none of whose code points an earlier one has
pub record AddsGlyph (name : List ℕ) (before after : List (Option Drawing)) : Type 0 where
  pub drawing : Drawing
  pub within : IsDrawingWithin drawing
  pub named : drawing.name ≡ name
  pub fresh : All (λ code. is_taken before code ≡ false) drawing.codes
  pub added : after ≡ before ++ Some drawing ∷ []

-- a glyph of each name, and no code point twice in all of them
pub record AreAllGlyphs (names : List (List ℕ)) (glyphs : List (Option Drawing)) : Type 0 where
  pub within : All IsGlyphWithin glyphs
  pub there : All IsSome glyphs
  pub named : AreNamed names glyphs
  pub codes_once : AreDistinct (all_codes glyphs)

-- a glyph or none of each name
pub record AreGlyphsOf (names : List (List ℕ)) (glyphs : List (Option Drawing)) : Type 0 where
  pub within : All IsGlyphWithin glyphs
  pub named : AreNamed names glyphs

-- a glyph has the name of its entry, and there is none without an entry
abbrev pub IsOfEntry : Option Entry → Option Drawing → Type 0
IsOfEntry None glyph = glyph ≡ None
IsOfEntry (Some entry) glyph = HasName entry.0 glyph
