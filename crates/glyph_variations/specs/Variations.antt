-- The tuple variations of a glyph (OpenType, "gvar"): for each master after the default its region and its deltas.
use Rattle.std.specs.Prelude.{◌≡◌, ℕ, ℤ, pos, ◌+◌, ◌*◌, Bool, List, [], ◌∷◌, ◌++◌, length, map, nat_lt, slice_index_or}
use Rattle.std.specs.Bool.{MatchBool}
use Rattle.std.specs.List.{count_by, list_all}
use Rattle.fixpoint.specs.declared.plane.Pair.{Pair}
use Rattle.variation_rules.specs.InferredDelta.{still}
use Rattle.variation_rules.specs.declared.region.Triple.{Triple}
use Rattle.variation_rules.specs.declared.tuple.TupleVariation.{TupleVariation}
use Rattle.delta_solve.specs.declared.model.GlyphTuple.{GlyphTuple}
use Rattle.explicit_points.specs.ExplicitPoints.{AreExplicit, is_still}

-- the deltas of the four phantom points (OpenType, "glyf"), of which the second stands at the advance
abbrev pub phantom_deltas : ℤ → List Pair
phantom_deltas advance = still ∷ record { x = advance; y = pos 0 } ∷ still ∷ still ∷ []

-- the deltas of all points of a glyph, the phantom points after the outline's
abbrev pub all_deltas : GlyphTuple → List Pair
all_deltas tuple = tuple.deltas ++ phantom_deltas tuple.advance

-- the deltas of these points
abbrev pub picked : List Pair → List ℕ → List Pair
picked deltas points = map (λ point. slice_index_or deltas point still) points

-- The tuple variation of a master, of a glyph with contours of so many points, which stand here in the default's
-- drawing, and with these deltas of all points: it names the explicit points alone.
pub record IsVariation (lengths : List ℕ) (points : List Pair) (region : List Triple) (deltas : List Pair) (own : TupleVariation) : Type 0 where
  pub region_is : own.region ≡ region
  pub explicit : AreExplicit lengths points deltas own.points
  pub deltas_are : own.deltas ≡ picked deltas own.points

-- nothing moves
abbrev pub is_still_tuple : GlyphTuple → Bool
is_still_tuple tuple = list_all is_still (all_deltas tuple)

-- those of the masters that move something, in their order
abbrev pub AreMoving : List ℕ → List Pair → List (List Triple) → List GlyphTuple → List TupleVariation → Type 0
AreMoving lengths points (region ∷ regions) (tuple ∷ tuples) found =
    MatchBool (is_still_tuple tuple) (AreMoving lengths points regions tuples found)
    ((own : TupleVariation) × (more : List TupleVariation) × IsVariation lengths points region (all_deltas tuple) own × (found ≡ own ∷ more) × AreMoving lengths points regions tuples more)
AreMoving lengths points _ _ found = found ≡ []

-- The tuple variations of a glyph: contours of so many points, the regions of the masters in their order, and their
-- tuples. The default's is the drawing that the others are drawn over.
abbrev pub AreVariations : List ℕ → List (List Triple) → List GlyphTuple → List TupleVariation → Type 0
AreVariations lengths (region ∷ regions) (default ∷ tuples) found = AreMoving lengths default.deltas regions tuples found
AreVariations lengths _ _ found = found ≡ []

-- a glyph has one list of them
abbrev pub VariationsOnce : Type 0
VariationsOnce = (lengths : List ℕ) (regions : List (List Triple)) (tuples : List GlyphTuple) (found other : List TupleVariation)
    → AreVariations lengths regions tuples found → AreVariations lengths regions tuples other → found ≡ other

-- how many of the points are the outline's, of which there are so many
abbrev pub explicit_in : ℕ → List ℕ → ℕ
explicit_in outline points = count_by (λ point. nat_lt point outline) points

-- the outline points that tuples name, and all outline points, added up over the tuples
abbrev pub explicit_points : ℕ → List TupleVariation → ℕ
explicit_points outline [] = 0
explicit_points outline (tuple ∷ tuples) = explicit_in outline tuple.points + explicit_points outline tuples

abbrev pub outline_points : ℕ → List TupleVariation → ℕ
outline_points outline tuples = outline * length tuples
