-- What a glyph draws through its components: its own contours, and after them, component by component, what the base
-- draws, moved by the component's offset.
use Rattle.std.specs.Prelude.{◌≡◌, ℕ, ◌<◌, ◌≤◌, ℤ, pos, All, ◌+ℤ◌, List, [], ◌∷◌, ◌++◌, length, map, min, sum_by, Option, Some, None, if◌then◌else◌, nat_le, slice_get}
use Rattle.std.specs.Option.{option_map}
use Rattle.std.specs.List.{AllZip}
use Rattle.basics.specs.declared.fault.Spot.{Spot}
use Rattle.basics.specs.declared.fault.Stop.{Stop}
use Rattle.basics.specs.declared.fault.Stop.TheVariants.{NoMemory, At}
use Rattle.basics.specs.declared.kinds.Kind.{Kind}
use Rattle.basics.specs.declared.kinds.Kind.TheVariants.{CoordinateRange, TooManyPoints, ComponentCycle}
use Rattle.glif.specs.Limits.{IsOffsetWithin, IsWithinLimits}
use Rattle.glif.specs.FirstOutside.{first_given, point_outside}
use Rattle.glif.specs.declared.shape.Point.{Point}
use Rattle.glif.specs.declared.shape.Outline.{Outline}
use Rattle.glif.specs.declared.shape.Component.{Component}
use Rattle.glif.specs.declared.shape.Drawing.{Drawing}
use Rattle.compat.specs.Names.{number_of, references, first_dangling}
use Rattle.compat.specs.References.{HasNoCycle, IsFirstOnCycle}
use Rattle.compat.specs.declared.refusal.Refusal.{Refusal}

-- a point moved by a component's offset
abbrev pub moved : Component → Point → Point
moved component point = record { x = point.x +ℤ component.dx; y = point.y +ℤ component.dy; on = point.on }

abbrev pub moved_contours : Component → List (List Point) → List (List Point)
moved_contours component contours = map (map (moved component)) contours

-- the drawing of this name, the first where there are more
pub record IsNamed (drawings : List Drawing) (name : List ℕ) (drawing : Drawing) : Type 0 where
  pub number : ℕ
  pub named : number_of drawings name ≡ Some number
  pub stands : slice_get drawings number ≡ Some drawing

-- The contours that components draw. A list without components draws none; the first component draws its base's own
-- contours and those of the base's components, moved, and after them stand those of the others.
pub data AreDrawn (drawings : List Drawing) : List Component → List (List Point) → Type 0 where
  nothing : AreDrawn drawings [] []
  drawn : {component : Component} {more : List Component} {base : Drawing} {below beside : List (List Point)}
      → IsNamed drawings component.base base → AreDrawn drawings base.components below → AreDrawn drawings more beside
      → AreDrawn drawings (component ∷ more) (moved_contours component (base.outline.contours ++ below) ++ beside)

-- the contours that a drawing draws, with those of its components
pub record IsFlattened (drawings : List Drawing) (drawing : Drawing) (contours : List (List Point)) : Type 0 where
  pub below : List (List Point)
  pub drawn_below : AreDrawn drawings drawing.components below
  pub whole : contours ≡ drawing.outline.contours ++ below

-- how many points there are, shown as 1,000,000,000 where there are more
abbrev pub shown_count : List (List Point) → ℕ
shown_count contours = min (sum_by length contours) 1000000000

-- the first coordinate out of range, by contour and point, x before y
abbrev pub coordinate_outside : List (List Point) → Option ℤ
coordinate_outside contours = first_given (first_given point_outside) contours

-- at most 32,510 drawings, each within limits, and so its components' offsets
pub record AreFit (drawings : List Drawing) : Type 0 where
  pub few : length drawings ≤ 32510
  pub within : All (λ (drawing : Drawing). IsWithinLimits drawing.outline) drawings
  pub offsets : All (λ (drawing : Drawing). All IsOffsetWithin drawing.components) drawings

-- the fault of flattened contours: too many points, or else the first coordinate out of range
abbrev pub flat_fault : List (List Point) → Option (Kind × ℤ)
flat_fault contours =
    if nat_le (sum_by length contours) 4000 then option_map (λ value. (CoordinateRange, value)) (coordinate_outside contours)
    else Some (TooManyPoints, pos (shown_count contours))

-- a drawing's flattened outline has this fault, or none
pub record HasFlatFault (drawings : List Drawing) (drawing : Drawing) (fault : Option (Kind × ℤ)) : Type 0 where
  pub contours : List (List Point)
  pub flattened : IsFlattened drawings drawing contours
  pub is : flat_fault contours ≡ fault

abbrev pub refusal_of : ℕ → Kind × ℤ → Refusal
refusal_of number fault = record { drawing = number; kind = fault.0; at = 0; first = fault.1 }

-- The first fault of a list of drawings: a component whose base is no drawing; a drawing that reaches itself; the
-- flattened outline of a drawing.
pub data IsFirstRefusal (drawings : List Drawing) : Refusal → Type 0 where
  dangling : {refusal : Refusal} → first_dangling drawings ≡ Some refusal → IsFirstRefusal drawings refusal
  cycle : {number : ℕ} → first_dangling drawings ≡ None → IsFirstOnCycle (references drawings) number
      → IsFirstRefusal drawings (record { drawing = number; kind = ComponentCycle; at = 0; first = pos 0 })
  flat : {number : ℕ} {drawing : Drawing} {fault : Kind × ℤ} → first_dangling drawings ≡ None → HasNoCycle (references drawings)
      → slice_get drawings number ≡ Some drawing → HasFlatFault drawings drawing (Some fault)
      → ((other : ℕ) (before : Drawing) → other < number → slice_get drawings other ≡ Some before → HasFlatFault drawings before None)
      → IsFirstRefusal drawings (refusal_of number fault)

-- the flattened outline of a drawing, within limits
pub record IsFlatOutline (drawings : List Drawing) (drawing : Drawing) (outline : Outline) : Type 0 where
  pub advance : outline.advance ≡ drawing.outline.advance
  pub flattened : IsFlattened drawings drawing outline.contours
  pub within : flat_fault outline.contours ≡ None

-- drawings without a fault, and the flattened outline of each
pub record AreFlattened (drawings : List Drawing) (outlines : List Outline) : Type 0 where
  pub none_dangling : first_dangling drawings ≡ None
  pub no_cycle : HasNoCycle (references drawings)
  pub each : AllZip (IsFlatOutline drawings) drawings outlines

-- the spot of a refusal: its item is the name of the drawing
pub record IsSpotOf (drawings : List Drawing) (refusal : Refusal) (spot : Spot) : Type 0 where
  pub kind : spot.kind ≡ refusal.kind
  pub item : option_map (λ (drawing : Drawing). drawing.name) (slice_get drawings refusal.drawing) ≡ Some spot.item
  pub at : spot.at ≡ refusal.at
  pub also : spot.also ≡ 0
  pub first : spot.first ≡ refusal.first
  pub second : spot.second ≡ pos 0

abbrev pub IsStopOf : List Drawing → Refusal → Stop → Type 0
IsStopOf drawings refusal NoMemory = Unit {0}
IsStopOf drawings refusal (At spot) = IsSpotOf drawings refusal spot

-- a drawing's number and its fault, which is the first of all
abbrev pub IsRefused : List Drawing → ℕ → Stop → Type 0
IsRefused drawings number NoMemory = Unit {0}
IsRefused drawings number (At spot) =
    (refusal : Refusal) × IsFirstRefusal drawings refusal × (number ≡ refusal.drawing) × IsSpotOf drawings refusal spot
