-- The glyphs of a layer (UFO 3, "contents.plist"): the name of each with the name of its file.
use Rattle.std.specs.Prelude.{ℕ, pos, ◌+◌, ◌&&◌, Bool, List, [], length, codes, fold, Result, Ok, Err, nat_le, if◌then◌else◌}
use Rattle.std.specs.List.{list_all, list_any}
use Rattle.std.specs.Str.{bytes_eq}
use Rattle.std.specs.Cmp.Lexicographic.{slice_cmp}
use Rattle.std.specs.Ordering.{nat_cmp}
use Rattle.std.specs.BTreeMap.{insert_entry}
use Rattle.outside.specs.Files.{Files}
use Rattle.basics.specs.Reading.{◌>>=◌, all_pass, each, spot_of}
use Rattle.basics.specs.declared.kinds.Kind.TheVariants.{GlyphName, TooManyGlyphs}
use Rattle.basics.specs.declared.fault.Fault.{Fault}
use Rattle.basics.specs.declared.fault.Spot.{Spot}
use Rattle.source_files.specs.Trees.{in_file}
use Rattle.plist.specs.Values as value
use Rattle.plist.specs.Values.{PlainValue, as_dict, as_text}
use Rattle.ufo_source.specs.Paths.{path_in}
use Rattle.ufo_source.specs.PropertyLists.{of_kind, value_at}

-- a glyph's name and its file's
abbrev pub Entry : Type 0
Entry = List ℕ × List ℕ

unfoldable pub entry_of : value.Entry → Result Entry Spot
entry_of entry = of_kind (as_text entry.1) >>= λ file. Ok (entry.0, file)

abbrev pub entries_among : List value.Entry → Result (List Entry) Spot
entries_among entries = each entry_of entries

unfoldable pub contents_of : PlainValue → Result (List Entry) Spot
contents_of value = of_kind (as_dict value) >>= λ entries. entries_among entries

-- the file in the layer's folder, as named from the UFO folder
abbrev pub contents_name : List ℕ → List ℕ
contents_name layer = path_in layer (codes "contents.plist")

abbrev pub contents_path : List ℕ → List ℕ → List ℕ
contents_path folder layer = path_in folder (contents_name layer)

-- the glyphs of the layer with this folder, in the order of the file
unfoldable pub contents_at : Files → List ℕ → List ℕ → Result (List Entry) Fault
contents_at files folder layer =
    value_at files (contents_path folder layer) >>= λ value. in_file (contents_path folder layer) (contents_of value)

-- ---- what is asked of a source whose glyphs the font takes

-- one to 63 bytes, each a character of ASCII that shows
abbrev pub is_name_byte : ℕ → Bool
is_name_byte byte = nat_le 33 byte && nat_le byte 126

abbrev pub is_glyph_name : List ℕ → Bool
is_glyph_name name = nat_le 1 (length name) && (nat_le (length name) 63 && list_all is_name_byte name)

-- a name that isn't is told by its position
abbrev pub glyph_name : ℕ → Entry → Result (Unit {0}) Spot
glyph_name position entry = if is_glyph_name entry.0 then Ok tt else Err (spot_of GlyphName [] position (pos 0))

abbrev pub glyph_names : List Entry → Result (Unit {0}) Spot
glyph_names entries = all_pass glyph_name 0 entries

-- how many glyphs the font has of them: one is made where there is no `.notdef`
abbrev pub is_notdef : Entry → Bool
is_notdef entry = bytes_eq entry.0 (codes ".notdef")

abbrev pub glyph_count : List Entry → ℕ
glyph_count entries = length entries + (if list_any is_notdef entries then 0 else 1)

abbrev pub few_glyphs : List Entry → Result (Unit {0}) Spot
few_glyphs entries = if nat_le (glyph_count entries) 32510 then Ok tt else Err (spot_of TooManyGlyphs [] 0 (pos (glyph_count entries)))

-- the byte order of the glyphs' names
abbrev pub in_byte_order : List Entry → List Entry
in_byte_order entries = fold (λ ordered entry. insert_entry (slice_cmp nat_cmp) ordered entry.0 entry.1) [] entries

unfoldable pub all_contents_at : Files → List ℕ → List ℕ → Result (List Entry) Fault
all_contents_at files folder layer =
    contents_at files folder layer >>= λ entries.
    in_file (contents_path folder layer) (glyph_names entries) >>= λ _.
    in_file folder (few_glyphs entries) >>= λ _.
    Ok (in_byte_order entries)
