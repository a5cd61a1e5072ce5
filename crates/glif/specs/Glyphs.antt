-- The drawing of a GLIF, the glyph format of UFO 3, off its tree, or its first fault.
use Rattle.std.specs.Prelude.{ℕ, ℤ, pos, negsuc, Bool, ◌&&◌, ◌||◌, not, List, [], ◌∷◌, ◌++◌, length, codes, sum_by, Option, Some, None, unwrap_or, Result, Ok, Err, nat_le, nat_lt, ◌==◌, if◌then◌else◌}
use Rattle.std.specs.List.{list_all, list_any}
use Rattle.std.specs.Char.{is_ascii_hexdigit}
use Rattle.std.specs.Str.{bytes_eq}
use Rattle.std.specs.Str.Parse.{digits_value}
use Rattle.fixpoint.specs.DecimalText.{whole_of}
use Rattle.fixpoint.specs.declared.decimal.NumberFault.{NumberFault}
use Rattle.markup_rules.specs.Tree.{Tree, at_of, attribute_of, children_of, is_named}
use Rattle.basics.specs.Reading.{◌>>=◌, in_turn, spot_of}
use Rattle.basics.specs.declared.kinds.Kind.TheVariants.{BadCode, FormatVersion, NotGlif, TooManyPoints}
use Rattle.basics.specs.declared.fault.Spot.{Spot}
use Rattle.glif.specs.declared.shape.Component.{Component}
use Rattle.glif.specs.declared.shape.Drawing.{Drawing}
use Rattle.glif.specs.declared.shape.Point.{Point}
use Rattle.glif.specs.declared.outline.Shapes.{Shapes}
use Rattle.glif.specs.declared.glyph.Seen.{Seen}
use Rattle.attributes.specs.Attributes.{fault, fault_at, needed}
use Rattle.glif.specs.Numbers.{width}
use Rattle.glif.specs.Components.{component_of}
use Rattle.glif.specs.Contours.{contour_of}
use Rattle.glif.specs.FirstOutside.{point_count}

-- ---- the outline

abbrev pub no_shapes : Shapes
no_shapes = record { contours = []; components = [] }

abbrev pub with_contour : Shapes → Option (List Point) → Shapes
with_contour shapes None = shapes
with_contour shapes (Some points) = record shapes { contours = shapes.contours ++ points ∷ [] }

abbrev pub with_component : Shapes → Component → Shapes
with_component shapes component = record shapes { components = shapes.components ++ component ∷ [] }

-- what an element of the outline adds
unfoldable pub shape_of : Shapes → Tree → Result Shapes Spot
shape_of shapes tree =
    if is_named (codes "contour") tree then (contour_of tree >>= λ contour. Ok (with_contour shapes contour)) else
    (if is_named (codes "component") tree then (component_of tree >>= λ component. Ok (with_component shapes component)) else fault NotGlif tree)

-- at most 4,000 points in all, or else their count, which stands still at the greatest 64-bit number
abbrev pub few : Tree → Shapes → Result Shapes Spot
few tree shapes =
    if nat_le (sum_by length shapes.contours) 4000 then Ok shapes
    else Err (spot_of TooManyPoints [] (at_of tree) (pos (point_count shapes.contours)))

unfoldable pub outline_of : Tree → Result Shapes Spot
outline_of tree = in_turn shape_of no_shapes (children_of tree) >>= λ shapes. few tree shapes

-- ---- code points

-- a character that can stand in a text: no surrogate, and not U+FFFF
abbrev pub is_code : ℕ → Bool
is_code n = nat_le n 0x10FFFF && (not (nat_le 0xD800 n && nat_le n 0xDFFF) && not (n == 0xFFFF))

-- one to six hexadecimal digits
abbrev pub is_hexadecimal : List ℕ → Bool
is_hexadecimal text = nat_lt 0 (length text) && (nat_le (length text) 6 && list_all is_ascii_hexdigit text)

abbrev pub code_by : ℕ → Option (List ℕ) → Result ℕ Spot
code_by at None = fault_at BadCode [] at
code_by at (Some text) = if is_hexadecimal text && is_code (digits_value 16 text) then Ok (digits_value 16 text) else fault_at BadCode [] at

unfoldable pub code_of : Tree → Result ℕ Spot
code_of tree = code_by (at_of tree) (attribute_of (codes "hex") tree)

-- a code point that stands twice is kept once, where it stands first
abbrev pub with_code : List ℕ → ℕ → List ℕ
with_code points code = if list_any (λ other. other == code) points then points else points ++ code ∷ []

-- ---- the glyph

-- what the elements before have given: the width of the first `advance`, the code points, and the outline
abbrev pub nothing_seen : Seen
nothing_seen = record { width = None; codes = []; shapes = None }

-- the first `advance` counts, and no width in it is 0
abbrev pub advance_seen : Tree → Seen → Option ℤ → Result Seen Spot
advance_seen tree seen (Some width) = Ok seen
advance_seen tree seen None = width tree >>= λ units. Ok (record seen { width = Some units })

abbrev pub outline_seen : Tree → Seen → Option Shapes → Result Seen Spot
outline_seen tree seen (Some shapes) = fault NotGlif tree
outline_seen tree seen None = outline_of tree >>= λ shapes. Ok (record seen { shapes = Some shapes })

-- what an element of the glyph adds; others than these are passed over
unfoldable pub child_of : Seen → Tree → Result Seen Spot
child_of seen tree =
    if is_named (codes "advance") tree then advance_seen tree seen seen.width else
    (if is_named (codes "unicode") tree then (code_of tree >>= λ code. Ok (record seen { codes = with_code seen.codes code })) else
    (if is_named (codes "outline") tree then outline_seen tree seen seen.shapes else Ok seen))

-- a version that isn't read is told as a number, or as -1 where it is none
abbrev pub version_or : Result ℤ NumberFault → ℤ
version_or (Ok n) = n
version_or (Err _) = negsuc 0

abbrev pub version_of : Option (List ℕ) → ℤ
version_of None = negsuc 0
version_of (Some text) = version_or (whole_of text)

abbrev pub is_version : Option (List ℕ) → Bool
is_version None = Bool.false
is_version (Some text) = bytes_eq text (codes "1") || bytes_eq text (codes "2")

-- GLIF 1 and 2 are read
unfoldable pub format_of : Tree → Result (Unit {0}) Spot
format_of tree =
    let format = attribute_of (codes "format") tree in
    if is_version format then Ok tt else Err (spot_of FormatVersion [] 0 (version_of format))

abbrev pub drawn : List ℕ → Seen → Drawing
drawn name seen =
    let shapes = unwrap_or seen.shapes no_shapes in
    record {
      name = name;
      outline = record { advance = unwrap_or seen.width (pos 0); contours = shapes.contours };
      components = shapes.components;
      codes = seen.codes;
    }

-- the drawing that a tree means, or its first fault
unfoldable pub drawing_of : Tree → Result Drawing Spot
drawing_of tree =
    if is_named (codes "glyph") tree then (do
      format ← format_of tree
      name ← needed (codes "name") tree
      seen ← in_turn child_of nothing_seen (children_of tree)
      Ok (drawn name seen)) else fault NotGlif tree
