-- What is appended, one part after another.
use Rattle.std.proofs.Common.{◌≡◌, ℕ, ℤ, pos, ◌+◌, ◌^◌, ◌<◌, ◌≤◌, List, [], ◌∷◌, ◌++◌, length, drop, map, take, get_or, refl, sym, ap, ◌∙◌, arith, length-append, length-take-le, append_assoc}
use Rattle.std.proofs.lemmas.List.{append-nil, drop_more, map-append, take_more}
use Rattle.std.proofs.lemmas.List.Concat.{flat_map-append}
use Rattle.std.proofs.lemmas.List.Elements.{All-take}
use Rattle.std.specs.Prelude.{◌-ℤ◌, All}
use Rattle.std.specs.List.{flat_map}
use Rattle.be_bytes.specs.Fields.{field_bytes, fields_bytes}
use Rattle.be_bytes.specs.declared.field.Field.{Field}
use Rattle.be_bytes.specs.declared.field.Field.TheVariants.{Int16, Uint16}
use Rattle.glif.specs.declared.shape.Outline.{Outline}
use Rattle.glif.specs.declared.shape.Point.{Point}
use Rattle.glif.specs.Limits.{IsPointWithin, IsWithinLimits}
use Rattle.glyf_loca.specs.declared.extent.Bounds.{Bounds}
use Rattle.glyf_loca.specs.declared.simple.Axis.{Axis}
use Rattle.glyf_loca.specs.declared.simple.Axis.TheVariants.{X, Y}
use Rattle.glyf_loca.specs.Axes.{coordinate_on, coordinates_on}
use Rattle.glyf_loca.specs.Bounds.{bounds_of, outline_bounds, points_in}
use Rattle.glyf_loca.specs.Layout.{contours_of, ends_from, glyf_bytes, glyph_bytes, header_fields, last_bytes, lasts_from, point_bytes, record_bytes, steps_from}
use Rattle.glyf_loca.proofs.BoundsLemmas.{IsCoordinate, x_within, y_within}
use Rattle.glyf_loca.proofs.SizeLemmas.{glyf_small}

-- ---- a step

pub coordinate_within : (axis : Axis) (point : Point) → IsPointWithin point → IsCoordinate (coordinate_on axis point)
coordinate_within X point own = x_within point own
coordinate_within Y point own = y_within point own

pub steps_more : (axis : Axis) (points : List Point) (i : ℕ) (d : Point) (before here step : ℤ) (out new_out whole : List ℕ) → i < length points → here ≡ coordinate_on axis (get_or points i d) → step ≡ here -ℤ before → out ++ steps_from before (coordinates_on axis (drop i points)) ≡ whole → new_out ≡ out ++ field_bytes (Int16 step)
    → new_out ++ steps_from here (coordinates_on axis (drop (i + 1) points)) ≡ whole
steps_more axis points i d before here step out new_out whole within here_is step_is completes grown =
    let rest : List ℕ = steps_from here (coordinates_on axis (drop (i + 1) points)) in
    ap (λ (bytes : List ℕ). bytes ++ rest) (grown ∙ ap (λ (z : ℤ). out ++ field_bytes (Int16 z)) step_is)
    ∙ append_assoc out (field_bytes (Int16 (here -ℤ before))) rest
    ∙ ap (λ (z : ℤ). out ++ (field_bytes (Int16 (z -ℤ before)) ++ steps_from z (coordinates_on axis (drop (i + 1) points)))) here_is
    ∙ ap (λ (ps : List Point). out ++ steps_from before (coordinates_on axis ps)) (sym (drop_more points i d within))
    ∙ completes

-- ---- a record

four_parts : (out a b c d : List ℕ) → (((out ++ a) ++ b) ++ c) ++ d ≡ out ++ (a ++ (b ++ (c ++ d)))
four_parts out a b c d = simp append_assoc

pub record_spelled : (contours : List (List Point)) (points : List Point) (bounds : Bounds) (count : ℤ) (fields : List Field) (out a b c d : List ℕ) → fields ≡ header_fields count bounds → count ≡ pos (length contours) → bounds ≡ bounds_of points → points ≡ points_in contours
    → a ≡ out ++ fields_bytes fields → b ≡ a ++ flat_map last_bytes (lasts_from 0 contours) → c ≡ b ++ field_bytes (Uint16 0) → d ≡ c ++ point_bytes points → d ≡ out ++ record_bytes contours
record_spelled contours points bounds count fields out a b c d fields_are count_is bounds_are points_are first second third fourth =
    let header : List ℕ = fields_bytes (header_fields (pos (length contours)) (bounds_of (points_in contours))) in
    let own_lasts : List ℕ = flat_map last_bytes (lasts_from 0 contours) in
    let size : List ℕ = field_bytes (Uint16 0) in
    let header_is : fields_bytes fields ≡ header =
    ap fields_bytes (fields_are ∙ ap (λ (z : ℤ). header_fields z bounds) count_is ∙ ap (header_fields (pos (length contours))) (bounds_are ∙ ap bounds_of points_are)) in
    let third_is : c ≡ ((out ++ header) ++ own_lasts) ++ size =
    third ∙ ap (λ (t : List ℕ). t ++ size) (second ∙ ap (λ (t : List ℕ). t ++ own_lasts) (first ∙ ap (λ (t : List ℕ). out ++ t) header_is)) in
    fourth ∙ ap (λ (t : List ℕ). t ++ point_bytes points) third_is ∙ ap (λ (ps : List Point). (((out ++ header) ++ own_lasts) ++ size) ++ point_bytes ps) points_are
    ∙ four_parts out header own_lasts size (point_bytes (points_in contours))

-- ---- the tables

-- what is written of glyphs so far
pub record Stand (outlines : List Outline) (glyf offsets : List ℕ) (bounds : List Bounds) : Type 0 where
  pub glyf_is : glyf ≡ glyf_bytes (contours_of outlines)
  pub offsets_are : offsets ≡ 0 ∷ ends_from 0 (contours_of outlines)
  pub bounds_are : bounds ≡ map outline_bounds outlines

glyf_more : (outlines : List Outline) (outline : Outline) → glyf_bytes (contours_of (outlines ++ outline ∷ [])) ≡ glyf_bytes (contours_of outlines) ++ glyph_bytes outline.contours
glyf_more outlines outline =
    ap glyf_bytes (map-append (λ (o : Outline). o.contours) outlines (outline ∷ []))
    ∙ flat_map-append glyph_bytes (contours_of outlines) (outline.contours ∷ [])
    ∙ ap (λ (bytes : List ℕ). glyf_bytes (contours_of outlines) ++ bytes) (append-nil (glyph_bytes outline.contours))

ends_more : (at : ℕ) (outlines : List Outline) (outline : Outline) → ends_from at (contours_of (outlines ++ outline ∷ [])) ≡ ends_from at (contours_of outlines) ++ (at + length (glyf_bytes (contours_of outlines) ++ glyph_bytes outline.contours)) ∷ []
ends_more at [] outline = refl
ends_more at (first ∷ outlines) outline =
    let own : List ℕ = glyph_bytes first.contours in
    let last : List ℕ = glyph_bytes outline.contours in
    let rest : List ℕ = glyf_bytes (contours_of outlines) in
    let sum : at + length own + length (rest ++ last) ≡ at + length ((own ++ rest) ++ last) = omega (arith, length-append rest last, length-append (own ++ rest) last, length-append own rest) in
    ap (λ (ends : List ℕ). (at + length own) ∷ ends) (ends_more (at + length own) outlines outline ∙ ap (λ (n : ℕ). ends_from (at + length own) (contours_of outlines) ++ n ∷ []) sum)

pub one_more : (outlines : List Outline) (outline : Outline) (glyf offsets new_glyf new_offsets : List ℕ) (bounds new_bounds : List Bounds) (own : Bounds) → Stand outlines glyf offsets bounds → new_glyf ≡ glyf ++ glyph_bytes outline.contours → new_offsets ≡ offsets ++ length new_glyf ∷ [] → new_bounds ≡ bounds ++ own ∷ [] → own ≡ outline_bounds outline → Stand (outlines ++ outline ∷ []) new_glyf new_offsets new_bounds
one_more outlines outline glyf offsets new_glyf new_offsets bounds new_bounds own stand grown further told is =
    let grown_is : new_glyf ≡ glyf_bytes (contours_of outlines) ++ glyph_bytes outline.contours = grown ∙ ap (λ (bytes : List ℕ). bytes ++ glyph_bytes outline.contours) stand.glyf_is in
    let size : length new_glyf ≡ 0 + length (glyf_bytes (contours_of outlines) ++ glyph_bytes outline.contours) = omega (arith, ap length grown_is) in
    record {
      glyf_is = grown_is ∙ sym (glyf_more outlines outline);
      offsets_are = further ∙ ap (λ (n : ℕ). offsets ++ n ∷ []) size
          ∙ ap (λ (before : List ℕ). before ++ (0 + length (glyf_bytes (contours_of outlines) ++ glyph_bytes outline.contours)) ∷ []) stand.offsets_are
          ∙ ap (λ (ends : List ℕ). 0 ∷ ends) (sym (ends_more 0 outlines outline));
      bounds_are = told ∙ ap (λ (b : Bounds). bounds ++ b ∷ []) is ∙ ap (λ (before : List Bounds). before ++ outline_bounds outline ∷ []) stand.bounds_are ∙ sym (map-append outline_bounds outlines (outline ∷ []));
    }

-- the outlines up to one, with that one
pub outlines_more : (outlines : List Outline) (i : ℕ) (outline : Outline) → i < length outlines → outline ≡ get_or outlines i outline → take (i + 1) outlines ≡ take i outlines ++ outline ∷ []
outlines_more outlines i outline within is = take_more outlines i outline within ∙ ap (λ (o : Outline). take i outlines ++ o ∷ []) (sym is)

pub next_small : (outlines : List Outline) (i : ℕ) (outline : Outline) (glyf new_glyf : List ℕ) → length outlines ≤ 32510 → All IsWithinLimits outlines → i < length outlines → outline ≡ get_or outlines i outline → glyf ≡ glyf_bytes (contours_of (take i outlines)) → new_glyf ≡ glyf ++ glyph_bytes outline.contours → length new_glyf < 2 ^ 32
next_small outlines i outline glyf new_glyf few each within is stands grown =
    let whole : new_glyf ≡ glyf_bytes (contours_of (take (i + 1) outlines)) =
    grown ∙ ap (λ (bytes : List ℕ). bytes ++ glyph_bytes outline.contours) stands ∙ sym (glyf_more (take i outlines) outline)
    ∙ ap (λ (some : List Outline). glyf_bytes (contours_of some)) (sym (outlines_more outlines i outline within is)) in
    omega (arith, ap length whole, glyf_small (take (i + 1) outlines) (All-take IsWithinLimits (i + 1) outlines each), length-take-le (i + 1) outlines (omega arith))
