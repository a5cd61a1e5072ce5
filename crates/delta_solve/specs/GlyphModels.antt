-- The model of a glyph: the deltas of each of its numbers over all masters, or the first that doesn't fit 16 bits.
use Rattle.std.specs.Prelude.{◌≡◌, ℕ, ℤ, pos, negsuc, ◌+◌, ◌<◌, Bool, true, false, ◌&&◌, List, [], ◌∷◌, ◌++◌, length, map, flat_map, All, Option, Some, None, if◌then◌else◌, int_le, slice_index_or}
use Rattle.fixpoint.specs.declared.plane.Pair.{Pair}
use Rattle.glif.specs.declared.shape.Point.{Point}
use Rattle.glif.specs.declared.shape.Outline.{Outline}
use Rattle.variation_rules.specs.FontUnits.{IsFWord, AreFWords}
use Rattle.variation_rules.specs.PackedPoints.{count_from}
use Rattle.variation_rules.specs.declared.region.Triple.{Triple}
use Rattle.delta_solve.specs.Deltas.{next_delta, deltas_by, whole_rows}
use Rattle.delta_solve.specs.Outlines.{all_points, points_of, contour_lengths, x_at, y_at, x_of, y_of, advance_of}
use Rattle.glif.specs.Shapes.{contour_kinds}
use Rattle.delta_solve.specs.declared.model.GlyphTuple.{GlyphTuple}
use Rattle.delta_solve.specs.declared.model.GlyphModel.{GlyphModel}
use Rattle.delta_solve.specs.declared.model.DeltaStop.{DeltaStop}
use Rattle.delta_solve.specs.declared.model.DeltaStop.TheVariants.{DeltaRange, NoMemory}

-- the default's outline, which is the first
abbrev pub default_of : List Outline → Outline
default_of outlines = slice_index_or outlines 0 (record { advance = pos 0; contours = [] })

-- all outlines have the contours of the default's, with points of the same kinds
abbrev pub AreAlike : List Outline → Type 0
AreAlike outlines = All (λ outline. contour_kinds outline ≡ contour_kinds (default_of outlines)) outlines

-- the delta of the point of this number
abbrev pub delta_x : ℕ → GlyphTuple → ℤ
delta_x point tuple = x_at point tuple.deltas

abbrev pub delta_y : ℕ → GlyphTuple → ℤ
delta_y point tuple = y_at point tuple.deltas

abbrev pub delta_advance : GlyphTuple → ℤ
delta_advance tuple = tuple.advance

-- all deltas of the tuple fit 16 bits
pub record IsTupleWithin (tuple : GlyphTuple) : Type 0 where
  pub deltas : All AreFWords tuple.deltas
  pub advance : IsFWord tuple.advance

-- The tuples of outlines, one a master: the deltas of each coordinate and of the advance, taken by itself.
pub record AreTuplesBy (rows : List (List ℤ)) (outlines : List Outline) (tuples : List GlyphTuple) : Type 0 where
  pub one_each : length tuples ≡ length outlines
  pub points : All (λ (tuple : GlyphTuple). length tuple.deltas ≡ length (points_of (default_of outlines))) tuples
  pub xs : (point : ℕ) → point < length (points_of (default_of outlines)) → map (delta_x point) tuples ≡ deltas_by rows (map (x_of point) outlines)
  pub ys : (point : ℕ) → point < length (points_of (default_of outlines)) → map (delta_y point) tuples ≡ deltas_by rows (map (y_of point) outlines)
  pub advances : map delta_advance tuples ≡ deltas_by rows (map advance_of outlines)

-- the model of outlines by the masters' rows of scalars
pub record IsModelBy (rows : List (List ℤ)) (outlines : List Outline) (model : GlyphModel) : Type 0 where
  pub lengths : model.lengths ≡ contour_lengths (default_of outlines)
  pub on : model.on ≡ map (λ (point : Point). point.on) (all_points (default_of outlines))
  pub tuples : AreTuplesBy rows outlines model.tuples

-- the model of outlines of masters with these regions and locations
abbrev pub IsModelOf : List (List Triple) → List (List ℤ) → List Outline → GlyphModel → Type 0
IsModelOf regions locations outlines model = IsModelBy (whole_rows regions locations) outlines model

abbrev pub fits_word : ℤ → Bool
fits_word value = int_le (negsuc 32767) value && int_le value (pos 32767)

-- a delta that doesn't fit 16 bits
abbrev pub misfit : ℕ → ℕ → Bool → ℤ → Option DeltaStop
misfit master point y value = if fits_word value then None else Some (DeltaRange master point y value)

abbrev pub first_some : {A : Type 0} → List (Option A) → Option A
first_some [] = None
first_some (None ∷ more) = first_some more
first_some (Some a ∷ more) = Some a

-- of one number's deltas, the first counted as that of this master, each that doesn't fit
abbrev pub misfits_from : ℕ → List ℤ → List (Option DeltaStop)
misfits_from master [] = []
misfits_from master (delta ∷ deltas) = misfit master 0 false delta ∷ misfits_from (master + 1) deltas

abbrev pub number_fault : List ℤ → Option DeltaStop
number_fault deltas = first_some (misfits_from 0 deltas)

-- those of a master's point, x before y, where these are the deltas of each point
abbrev pub point_misfits : ℕ → (ℕ → ℤ) → (ℕ → ℤ) → ℕ → List (Option DeltaStop)
point_misfits master x y point = misfit master point false (x point) ∷ misfit master point true (y point) ∷ []

-- those of a master with so many points: point by point, and the advance last, as the second of the phantom points that
-- come after them
abbrev pub misfits_in : ℕ → ℕ → (ℕ → ℤ) → (ℕ → ℤ) → ℤ → List (Option DeltaStop)
misfits_in master points x y advance =
    flat_map (point_misfits master x y) (count_from points 0) ++ (misfit master (points + 1) false advance ∷ [])

-- the delta of a master among those of all
abbrev pub delta_at : List (List ℤ) → List ℤ → ℕ → ℤ
delta_at rows values master = slice_index_or (deltas_by rows values) master (pos 0)

-- those of a master, of the outlines of all
abbrev pub misfits_of : List (List ℤ) → List Outline → ℕ → List (Option DeltaStop)
misfits_of rows outlines master =
    misfits_in master (length (points_of (default_of outlines)))
    (λ point. delta_at rows (map (x_of point) outlines) master)
    (λ point. delta_at rows (map (y_of point) outlines) master)
    (delta_at rows (map advance_of outlines) master)

-- the first delta that doesn't fit, master by master in their order
abbrev pub fault_by : List (List ℤ) → List Outline → Option DeltaStop
fault_by rows outlines = first_some (flat_map (misfits_of rows outlines) (count_from (length outlines) 0))

abbrev pub delta_fault : List (List Triple) → List (List ℤ) → List Outline → Option DeltaStop
delta_fault regions locations outlines = fault_by (whole_rows regions locations) outlines

-- The call may stop so where this is the fault. Memory may always run out.
abbrev pub IsStopOf : Option DeltaStop → DeltaStop → Type 0
IsStopOf fault NoMemory = Unit {0}
IsStopOf fault (DeltaRange master point y value) = fault ≡ Some (DeltaRange master point y value)

-- the delta of a master's point, by its row and after the earlier tuples
abbrev pub next_x : List ℤ → List GlyphTuple → List Pair → ℕ → ℤ
next_x row earlier points point = next_delta row (x_at point points) (map (delta_x point) earlier)

abbrev pub next_y : List ℤ → List GlyphTuple → List Pair → ℕ → ℤ
next_y row earlier points point = next_delta row (y_at point points) (map (delta_y point) earlier)

abbrev pub next_advance : List ℤ → List GlyphTuple → ℤ → ℤ
next_advance row earlier advance = next_delta row advance (map delta_advance earlier)

-- the master's deltas
pub record AreNextDeltas (row : List ℤ) (earlier : List GlyphTuple) (points deltas : List Pair) : Type 0 where
  pub one_each : length deltas ≡ length points
  pub xs : (point : ℕ) → point < length points → x_at point deltas ≡ next_x row earlier points point
  pub ys : (point : ℕ) → point < length points → y_at point deltas ≡ next_y row earlier points point

-- and its tuple
pub record IsNextTuple (row : List ℤ) (earlier : List GlyphTuple) (outline : Outline) (tuple : GlyphTuple) : Type 0 where
  pub deltas : AreNextDeltas row earlier (points_of outline) tuple.deltas
  pub advance : tuple.advance ≡ next_advance row earlier (advance_of outline)

-- those of its points' deltas that don't fit
abbrev pub next_point_misfits : ℕ → List ℤ → List GlyphTuple → List Pair → List (Option DeltaStop)
next_point_misfits master row earlier points =
    flat_map (point_misfits master (next_x row earlier points) (next_y row earlier points)) (count_from (length points) 0)

-- and of all its deltas
abbrev pub next_misfits : ℕ → List ℤ → List GlyphTuple → Outline → List (Option DeltaStop)
next_misfits master row earlier outline =
    misfits_in master (length (points_of outline)) (next_x row earlier (points_of outline)) (next_y row earlier (points_of outline)) (next_advance row earlier (advance_of outline))
