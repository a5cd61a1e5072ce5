-- What is kept of a drawing's flattened outline while others are made from it.
use Rattle.std.specs.Prelude.{◌≡◌, ℕ, ◌+◌, ◌*◌, ◌<◌, ◌≤◌, min, ℤ, pos, ◌+ℤ◌, ◌≤ℤ◌, FitsSigned, List, [], ◌∷◌, ◌++◌, length, if◌then◌else◌, nat_le, sum_by, All, Option, Some, None, slice_get, slice_index_or}
use Rattle.std.specs.Int.{w32}
use Rattle.glif.specs.declared.shape.Point.{Point}
use Rattle.glif.specs.declared.shape.Outline.{Outline}
use Rattle.glif.specs.declared.shape.Component.{Component}
use Rattle.glif.specs.declared.shape.Drawing.{Drawing}
use Rattle.compat.specs.Flattened.{IsFlattened, shown_count, moved_contours, coordinate_outside, refusal_of}
use Rattle.compat.specs.declared.refusal.Refusal.{Refusal}
use Rattle.compat.specs.References.{bases_at}
use Rattle.std.specs.Option.{option_or, option_map}
use Rattle.basics.specs.declared.kinds.Kind.{Kind}
use Rattle.basics.specs.declared.kinds.Kind.TheVariants.{CoordinateRange, TooManyPoints}
use Rattle.compat.specs.declared.flat.Flat.{Flat}
use Rattle.compat.specs.declared.flat.Flat.TheVariants.{Unknown, Few, Many}

-- coordinates from -16384 times a number to 16384 times that number
pub record IsPointNear (bound : ℕ) (point : Point) : Type 0 where
  pub least_x : pos 0 ≤ℤ (point.x +ℤ pos (16384 * bound))
  pub greatest_x : point.x ≤ℤ pos (16384 * bound)
  pub least_y : pos 0 ≤ℤ (point.y +ℤ pos (16384 * bound))
  pub greatest_y : point.y ≤ℤ pos (16384 * bound)

abbrev pub AreNear : ℕ → List (List Point) → Type 0
AreNear bound contours = All (All (IsPointNear bound)) contours

-- the flattened contours with their count where they are few, else the count alone, at most 1,000,000,000
abbrev pub IsFlatOf : List Drawing → ℕ → Drawing → Flat → Type 0
IsFlatOf drawings bound drawing Unknown = ⊥
IsFlatOf drawings bound drawing (Few contours count) =
    IsFlattened drawings drawing contours × (sum_by length contours ≤ 4000) × AreNear bound contours × (count ≡ sum_by length contours)
IsFlatOf drawings bound drawing (Many count) =
    (contours : List (List Point)) × IsFlattened drawings drawing contours × (4000 < sum_by length contours) × (count ≡ shown_count contours)

-- that of the drawing of this number is kept
abbrev pub IsKept : List Drawing → ℕ → List Flat → ℕ → Type 0
IsKept drawings bound flats number =
    (drawing : Drawing) → slice_get drawings number ≡ Some drawing → IsFlatOf drawings bound drawing (slice_index_or flats number Unknown)

-- ---- how one is made of others

-- the points of a drawing's own contours and of what it refers to are in a point's range after the move
pub record CanMove (component : Component) (point : Point) : Type 0 where
  pub x : FitsSigned w32 (point.x +ℤ component.dx)
  pub y : FitsSigned w32 (point.y +ℤ component.dy)

abbrev pub flat_at : List Flat → ℕ → Flat
flat_at flats number = slice_index_or flats number Unknown

-- the contours that are kept
abbrev pub flat_contours : Flat → List (List Point)
flat_contours Unknown = []
flat_contours (Few contours count) = contours
flat_contours (Many count) = []

-- the count of points that is kept
abbrev pub flat_count : Flat → ℕ
flat_count Unknown = 0
flat_count (Few contours count) = count
flat_count (Many count) = count

-- how many points a drawing has with those to which it refers
abbrev pub joint_count : List Flat → List (List Point) → List ℕ → ℕ
joint_count flats own bases = min (shown_count own + sum_by (λ base. flat_count (flat_at flats base)) bases) 1000000000

-- the kept contours of the bases, moved, component by component
abbrev pub drawn_contours : List Flat → List Component → List ℕ → List (List Point)
drawn_contours flats (component ∷ components) (base ∷ bases) = moved_contours component (flat_contours (flat_at flats base)) ++ drawn_contours flats components bases
drawn_contours flats _ _ = []

abbrev pub AreMovable : List Flat → List Component → List ℕ → Type 0
AreMovable flats (component ∷ components) (base ∷ bases) = All (All (CanMove component)) (flat_contours (flat_at flats base)) × AreMovable flats components bases
AreMovable flats _ _ = Unit {0}

abbrev pub joined_flat : List Flat → Drawing → List ℕ → Flat
joined_flat flats drawing bases =
    if nat_le (joint_count flats drawing.outline.contours bases) 4000
    then Few (drawing.outline.contours ++ drawn_contours flats drawing.components bases) (joint_count flats drawing.outline.contours bases)
    else Many (joint_count flats drawing.outline.contours bases)

-- something is kept of every drawing
pub record AreKept (drawings : List Drawing) (flats : List Flat) : Type 0 where
  pub sizes : length flats ≡ length drawings
  pub bound : ℕ
  pub each : (number : ℕ) → number < length drawings → IsKept drawings bound flats number

-- what is kept of all to which a drawing refers is near enough to be moved
pub record HasBases (drawings : List Drawing) (graph : List (List ℕ)) (flats : List Flat) (number : ℕ) : Type 0 where
  pub bound : ℕ
  pub few : bound ≤ 32510
  pub kept : All (IsKept drawings bound flats) (bases_at graph number)

-- the drawing of this number joined with what is kept of its bases
abbrev pub IsJoined : List Drawing → List (List ℕ) → List Flat → ℕ → Flat → Type 0
IsJoined drawings graph flats number flat = (drawing : Drawing) → slice_get drawings number ≡ Some drawing → flat ≡ joined_flat flats drawing (bases_at graph number)

-- a count that is kept is at most 1,000,000,000
abbrev pub IsCounted : Flat → Type 0
IsCounted Unknown = Unit {0}
IsCounted (Few contours count) = Unit {0}
IsCounted (Many count) = count ≤ 1000000000

-- the fault of what is kept
abbrev pub kept_fault : Flat → Option (Kind × ℤ)
kept_fault Unknown = None
kept_fault (Few contours count) = option_map (λ value. (CoordinateRange, value)) (coordinate_outside contours)
kept_fault (Many count) = Some (TooManyPoints, pos count)

-- the first fault of what is kept of drawings of which the first has this number
abbrev pub fault_from : ℕ → List Flat → Option Refusal
fault_from number [] = None
fault_from number (flat ∷ flats) = option_or (option_map (refusal_of number) (kept_fault flat)) (fault_from (number + 1) flats)

-- contours are kept
abbrev pub IsFew : Flat → Type 0
IsFew Unknown = ⊥
IsFew (Few contours count) = Unit {0}
IsFew (Many count) = ⊥

-- the outlines of drawings with the contours that are kept of them
abbrev pub joined_outlines : List Drawing → List Flat → List Outline
joined_outlines (drawing ∷ drawings) (flat ∷ flats) = record { advance = drawing.outline.advance; contours = flat_contours flat } ∷ joined_outlines drawings flats
joined_outlines _ _ = []
