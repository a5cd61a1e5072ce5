-- What tuple variations draw of a glyph at a location, as one value.
use Rattle.std.specs.Prelude.{◌≡◌, ℕ, ℤ, pos, ◌<◌, List, length, slice_index_or}
use Rattle.fixpoint.specs.declared.plane.Pair.{Pair}
use Rattle.variation_rules.specs.DrawnOutline.{Fills, drawn, drawn_advance}
use Rattle.variation_rules.specs.declared.drawing.DrawnGlyph.{DrawnGlyph}
use Rattle.variation_rules.specs.declared.drawing.DrawnPoint.{DrawnPoint}
use Rattle.variation_rules.specs.declared.tuple.TupleVariation.{TupleVariation}

-- the point at a place of the drawing
abbrev pub drawn_point : DrawnGlyph → ℕ → DrawnPoint
drawn_point glyph i = slice_index_or glyph.points i (record { x = pos 0; y = pos 0 })

-- over the deltas that fill the outline in each tuple, every point is where they draw it, and so is the advance
pub record IsDrawn (lengths : List ℕ) (points : List Pair) (advance : ℤ) (tuples : List TupleVariation) (at : List ℤ) (glyph : DrawnGlyph) : Type 0 where
  pub fills : List (List Pair)
  pub are_fills : Fills lengths points tuples fills
  pub one_each : length glyph.points ≡ length points
  pub x : (i : ℕ) → i < length points → (drawn_point glyph i).x ≡ drawn (λ (point : Pair). point.x) points at tuples fills i
  pub y : (i : ℕ) → i < length points → (drawn_point glyph i).y ≡ drawn (λ (point : Pair). point.y) points at tuples fills i
  pub advance_is : glyph.advance ≡ drawn_advance advance (length points) at tuples

-- at most one list of deltas fills the outline in each tuple
abbrev pub FillOnce : Type 0
FillOnce = (lengths : List ℕ) (points : List Pair) (tuples : List TupleVariation) (one other : List (List Pair)) → Fills lengths points tuples one → Fills lengths points tuples other → one ≡ other

-- and so a glyph has one drawing at most at a location
abbrev pub DrawOnce : Type 0
DrawOnce = (lengths : List ℕ) (points : List Pair) (advance : ℤ) (tuples : List TupleVariation) (at : List ℤ) (one other : DrawnGlyph) → IsDrawn lengths points advance tuples at one → IsDrawn lengths points advance tuples at other → one ≡ other
