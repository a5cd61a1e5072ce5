-- How the two tables are written, byte for byte.
use Rattle.std.specs.Prelude.{◌≡◌, ℕ, ◌+◌, ◌-◌, ◌/◌, ◌%◌, ℤ, pos, ◌-ℤ◌, Bool, true, false, List, [], ◌∷◌, ◌++◌, length, map, replicate, if◌then◌else◌, nat_lt}
use Rattle.std.specs.List.{flat_map}
use Rattle.be_bytes.specs.Fields.{field_bytes, fields_bytes}
use Rattle.be_bytes.specs.declared.field.Field.{Field}
use Rattle.be_bytes.specs.declared.field.Field.TheVariants.{Int16, Uint8, Uint16, Uint32}
use Rattle.glif.specs.declared.shape.Outline.{Outline}
use Rattle.glif.specs.declared.shape.Point.{Point}
use Rattle.glyf_loca.specs.declared.extent.Bounds.{Bounds}
use Rattle.glyf_loca.specs.Bounds.{bounds_of, points_in, xs_of, ys_of}

-- ---- a glyph

-- numberOfContours, xMin, yMin, xMax, yMax
unfoldable pub header_fields : ℤ → Bounds → List Field
header_fields contours bounds = Int16 contours ∷ Int16 bounds.x_min ∷ Int16 bounds.y_min ∷ Int16 bounds.x_max ∷ Int16 bounds.y_max ∷ []

-- the index of each contour's last point, after so many points
abbrev pub lasts_from : ℕ → List (List Point) → List ℕ
lasts_from count [] = []
lasts_from count (own ∷ contours) = (count + length own - 1) ∷ lasts_from (count + length own) contours

abbrev pub last_bytes : ℕ → List ℕ
last_bytes last = field_bytes (Uint16 last)

-- 1 where the point is on the curve; no flag is repeated, and no coordinate is left out or in one byte
abbrev pub flag_of : Point → ℕ
flag_of point = if point.on then 1 else 0

abbrev pub flag_bytes : Point → List ℕ
flag_bytes point = field_bytes (Uint8 (flag_of point))

-- from each coordinate to the next one, the first step being from another
abbrev pub steps_from : ℤ → List ℤ → List ℕ
steps_from at [] = []
steps_from at (z ∷ zs) = field_bytes (Int16 (z -ℤ at)) ++ steps_from z zs

-- flags, x, y
abbrev pub point_bytes : List Point → List ℕ
point_bytes points = flat_map flag_bytes points ++ (steps_from (pos 0) (xs_of points) ++ steps_from (pos 0) (ys_of points))

-- the header, endPtsOfContours, instructionLength 0, and the points
abbrev pub record_bytes : List (List Point) → List ℕ
record_bytes contours =
    fields_bytes (header_fields (pos (length contours)) (bounds_of (points_in contours)))
    ++ (flat_map last_bytes (lasts_from 0 contours) ++ (field_bytes (Uint16 0) ++ point_bytes (points_in contours)))

-- filled with zeros to a multiple of four bytes
abbrev pub filled : List ℕ → List ℕ
filled bytes = bytes ++ replicate ((4 - length bytes % 4) % 4) 0

-- a glyph without contours has no bytes
abbrev pub glyph_bytes : List (List Point) → List ℕ
glyph_bytes [] = []
glyph_bytes (own ∷ contours) = filled (record_bytes (own ∷ contours))

-- ---- the tables

abbrev pub glyf_bytes : List (List (List Point)) → List ℕ
glyf_bytes glyphs = flat_map glyph_bytes glyphs

-- where each glyph ends, one after another from an offset on
abbrev pub ends_from : ℕ → List (List (List Point)) → List ℕ
ends_from at [] = []
ends_from at (own ∷ glyphs) = (at + length (glyph_bytes own)) ∷ ends_from (at + length (glyph_bytes own)) glyphs

-- an offset, or half of it in the short form
abbrev pub offset_field : Bool → ℕ → Field
offset_field true offset = Uint32 offset
offset_field false offset = Uint16 (offset / 2)

abbrev pub offset_bytes : Bool → ℕ → List ℕ
offset_bytes long offset = field_bytes (offset_field long offset)

abbrev pub loca_bytes : Bool → List (List (List Point)) → List ℕ
loca_bytes long glyphs = flat_map (offset_bytes long) (0 ∷ ends_from 0 glyphs)

-- offsets are short as long as all of them have half of 16 bits
pub record AreWritten (glyphs : List (List (List Point))) (glyf loca : List ℕ) (long : Bool) : Type 0 where
  pub glyf_is : glyf ≡ glyf_bytes glyphs
  pub long_is : long ≡ nat_lt 131070 (length glyf)
  pub loca_is : loca ≡ loca_bytes long glyphs

abbrev pub contours_of : List Outline → List (List (List Point))
contours_of outlines = map (λ outline. outline.contours) outlines
