-- Which points of a glyph a tuple variation names (OpenType, "gvar"): on each contour the least set from which all its
-- deltas are inferred, and the phantom points that move. The other points have the deltas that readers infer.
use Rattle.std.specs.Prelude.{◌≡◌, ℕ, pos, ◌+◌, ◌<◌, ◌≤◌, Bool, ◌&&◌, List, [], ◌∷◌, ◌++◌, length, map, take, drop, if◌then◌else◌, sum, All, unwrap_or, slice_index_or}
use Rattle.std.specs.Ordering.{int_eq}
use Rattle.fixpoint.specs.declared.plane.Pair.{Pair}
use Rattle.variation_rules.specs.FontUnits.{AreFWords}
use Rattle.variation_rules.specs.InferredDelta.{still}
use Rattle.variation_rules.specs.DrawnOutline.{FillsContours}
use Rattle.iup.specs.Arcs.{IsLeastSet, given_by}

-- a contour has 1 to 1,024 points
pub record IsCount (n : ℕ) : Type 0 where
  pub some : 0 < n
  pub few : n ≤ 1024

-- The outline of a default drawing, with contours of so many points each, and the deltas of its points.
pub record IsOutline (lengths : List ℕ) (points deltas : List Pair) : Type 0 where
  pub contours : All IsCount lengths
  pub whole : sum lengths ≡ length points
  pub few : length points ≤ 4000
  pub one_each : length deltas ≡ length points
  pub points_fit : All AreFWords points
  pub deltas_fit : All AreFWords deltas

-- The default drawing of a glyph and the deltas of its points, the four phantom points after the outline's.
pub record IsGlyph (lengths : List ℕ) (points deltas : List Pair) : Type 0 where
  pub contours : All IsCount lengths
  pub whole : sum lengths ≡ length points
  pub few : length points ≤ 4000
  pub phantom_points : length deltas ≡ length points + 4
  pub points_fit : All AreFWords points
  pub deltas_fit : All AreFWords deltas

-- The least sets of contours of so many points each; the first of these points is counted as this number.
abbrev pub AreLeastSets : ℕ → List ℕ → List Pair → List Pair → List ℕ → Type 0
AreLeastSets start [] points deltas named = named ≡ []
AreLeastSets start (n ∷ lengths) points deltas named =
    (set : List ℕ) × (more : List ℕ)
    × IsLeastSet (take n points) (take n deltas) set
    × (named ≡ map (λ point. start + point) set ++ more)
    × AreLeastSets (start + n) lengths (drop n points) (drop n deltas) more

abbrev pub is_still : Pair → Bool
is_still delta = int_eq delta.x (pos 0) && int_eq delta.y (pos 0)

-- the numbers, from this one on, of the deltas that aren't (0, 0)
abbrev pub moving_from : ℕ → List Pair → List ℕ
moving_from number [] = []
moving_from number (delta ∷ deltas) = if is_still delta then moving_from (number + 1) deltas else number ∷ moving_from (number + 1) deltas

-- The named points of a glyph: the least set of each contour, and the phantom points that move.
pub record AreExplicit (lengths : List ℕ) (points deltas : List Pair) (named : List ℕ) : Type 0 where
  pub outline : List ℕ
  pub least : AreLeastSets 0 lengths points (take (length points) deltas) outline
  pub all : named ≡ outline ++ moving_from (length points) (drop (length points) deltas)

-- a glyph has one list of explicit points
abbrev pub ExplicitOnce : Type 0
ExplicitOnce = (lengths : List ℕ) (points deltas : List Pair) (named other : List ℕ)
    → AreExplicit lengths points deltas named → AreExplicit lengths points deltas other → named ≡ other

-- what a tuple gives by them fills the contours with all deltas
abbrev pub ExplicitFills : Type 0
ExplicitFills = (lengths : List ℕ) (points deltas : List Pair) (named : List ℕ) → IsGlyph lengths points deltas
    → AreExplicit lengths points deltas named → FillsContours lengths points (given_by named deltas) (take (length points) deltas)

-- and each phantom point has its delta
abbrev pub ExplicitPhantoms : Type 0
ExplicitPhantoms = (lengths : List ℕ) (points deltas : List Pair) (named : List ℕ) (phantom : ℕ) → IsGlyph lengths points deltas
    → AreExplicit lengths points deltas named → length points ≤ phantom → phantom < length points + 4
    → unwrap_or (given_by named deltas phantom) still ≡ slice_index_or deltas phantom still
