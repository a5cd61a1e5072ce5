-- The drawings of a layer's glyphs, each with its name in the layer's contents.
use Rattle.std.specs.Prelude.{ℕ, pos, Bool, false, ◌==◌, List, [], ◌∷◌, ◌++◌, find, Option, Some, None, Result, Ok, Err}
use Rattle.std.specs.List.{list_any}
use Rattle.outside.specs.Files.{Files}
use Rattle.basics.specs.Reading.{◌>>=◌, each, in_turn, spot_of}
use Rattle.basics.specs.declared.kinds.Kind.TheVariants.{DuplicateCode}
use Rattle.basics.specs.declared.fault.Fault.{Fault}
use Rattle.basics.specs.declared.fault.Spot.{Spot}
use Rattle.source_files.specs.Trees.{in_file, meant_at}
use Rattle.glif.specs.Texts.{drawing_of_text}
use Rattle.glif.specs.declared.shape.Drawing.{Drawing}
use Rattle.ufo_source.specs.Contents.{Entry, contents_path}
use Rattle.ufo_source.specs.Naming.{entry_named}
use Rattle.ufo_source.specs.Paths.{file_name, path_in}

-- the drawing of a file's text, or its first fault
unfoldable pub drawing_at : Files → List ℕ → Result Drawing Fault
drawing_at files path = meant_at drawing_of_text files path

-- the file's name is tested just before the file is read, and the name in the contents is the glyph's
unfoldable pub glyph_at : Files → List ℕ → List ℕ → Entry → Result Drawing Fault
glyph_at files folder layer entry =
    in_file (contents_path folder layer) (file_name entry.1) >>= λ _.
    drawing_at files (path_in folder (path_in layer entry.1)) >>= λ drawing.
    Ok (record drawing { name = entry.0 })

-- ---- all glyphs, of which no two have one code point

abbrev pub has_code : ℕ → Option Drawing → Bool
has_code code None = false
has_code code (Some drawing) = list_any (λ other. other == code) drawing.codes

abbrev pub is_taken : List (Option Drawing) → ℕ → Bool
is_taken glyphs code = list_any (has_code code) glyphs

abbrev pub code_or : List ℕ → Option ℕ → Result (Unit {0}) Spot
code_or name None = Ok tt
code_or name (Some code) = Err (spot_of DuplicateCode name 0 (pos code))

-- the first of its code points that an earlier glyph has is refused
abbrev pub new_codes : List (Option Drawing) → Drawing → Result (Unit {0}) Spot
new_codes glyphs drawing = code_or drawing.name (find (is_taken glyphs) drawing.codes)

-- the glyphs with one more
unfoldable pub with_glyph : Files → List ℕ → List ℕ → List (Option Drawing) → Entry → Result (List (Option Drawing)) Fault
with_glyph files folder layer glyphs entry =
    glyph_at files folder layer entry >>= λ drawing.
    in_file folder (new_codes glyphs drawing) >>= λ _.
    Ok (glyphs ++ Some drawing ∷ [])

abbrev pub all_glyphs : Files → List ℕ → List ℕ → List Entry → Result (List (Option Drawing)) Fault
all_glyphs files folder layer entries = in_turn (with_glyph files folder layer) [] entries

-- ---- glyphs by their names, none where the layer lacks one

abbrev pub glyph_or : Files → List ℕ → List ℕ → Option Entry → Result (Option Drawing) Fault
glyph_or files folder layer None = Ok None
glyph_or files folder layer (Some entry) = glyph_at files folder layer entry >>= λ drawing. Ok (Some drawing)

unfoldable pub glyph_named : Files → List ℕ → List ℕ → List Entry → List ℕ → Result (Option Drawing) Fault
glyph_named files folder layer entries name = glyph_or files folder layer (entry_named entries name)

abbrev pub wanted_glyphs : Files → List ℕ → List ℕ → List Entry → List (List ℕ) → Result (List (Option Drawing)) Fault
wanted_glyphs files folder layer entries names = each (glyph_named files folder layer entries) names
