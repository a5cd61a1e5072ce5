-- The deltas of the support model (OpenType, "Algorithm for interpolation of instance values"): each master's delta
-- is what the masters before it leave of its value. Scalars are in 65536ths, and so are the model's values.
use Rattle.std.specs.Prelude.{◌≡◌, ℤ, pos, ◌+ℤ◌, ◌-ℤ◌, ◌*ℤ◌, List, [], ◌∷◌, ◌++◌, length, map}
use Rattle.fixpoint.specs.Rounding.{round_up, round_down}
use Rattle.variation_rules.specs.declared.region.Triple.{Triple}
use Rattle.variation_rules.specs.Scalar.{scalar_of}
use Rattle.region_support.specs.Regions.{AreTriangular}

-- the sum of the products of two lists, as far as both go
abbrev pub dot : List ℤ → List ℤ → ℤ
dot (a ∷ more) (b ∷ others) = (a *ℤ b) +ℤ dot more others
dot _ _ = pos 0

-- the scalar of each region at a location
abbrev pub scalars_at : List (List Triple) → List ℤ → List ℤ
scalars_at regions at = map (λ region. scalar_of 16 region at) regions

-- The value at a location that deltas give, one a region from the first on. Where there are fewer deltas than
-- regions, those regions count alone.
abbrev pub model_value : List (List Triple) → List ℤ → List ℤ → ℤ
model_value regions deltas at = dot (scalars_at regions at) deltas

-- The delta of a master after earlier ones: what their deltas leave of its value at its location, rounded to the
-- nearest number, a tie going down. The row has the scalars of regions at its location, at least of the masters
-- before it.
unfoldable pub next_delta : List ℤ → ℤ → List ℤ → ℤ
next_delta row value earlier = round_down ((pos 65536 *ℤ value) -ℤ dot row earlier) 65536

-- the deltas of masters with these rows and values, after earlier ones
abbrev pub deltas_after : List ℤ → List (List ℤ) → List ℤ → List ℤ
deltas_after earlier (row ∷ rows) (value ∷ values) =
    next_delta row value earlier ∷ deltas_after (earlier ++ (next_delta row value earlier ∷ [])) rows values
deltas_after earlier _ _ = []

-- the deltas of masters in their order: one row and one value each
abbrev pub deltas_by : List (List ℤ) → List ℤ → List ℤ
deltas_by rows values = deltas_after [] rows values

-- at each location the scalars of all regions
abbrev pub whole_rows : List (List Triple) → List (List ℤ) → List (List ℤ)
whole_rows regions locations = map (scalars_at regions) locations

-- The deltas of masters in their order: their regions, their locations, and one value each.
abbrev pub deltas_of : List (List Triple) → List (List ℤ) → List ℤ → List ℤ
deltas_of regions locations values = deltas_by (whole_rows regions locations) values

-- at each location the model's value, rounded to the nearest number, a tie going up, is the value there
abbrev pub ComeBack : List (List Triple) → List ℤ → List (List ℤ) → List ℤ → Type 0
ComeBack regions deltas (at ∷ ats) (value ∷ values) = (round_up (model_value regions deltas at) 65536 ≡ value) × ComeBack regions deltas ats values
ComeBack regions deltas _ _ = Unit {0}

-- where each master's own region is whole at its location and the later ones have no influence there, every value
-- comes back
abbrev pub MastersReturn : Type 0
MastersReturn = (regions : List (List Triple)) (locations : List (List ℤ)) (values : List ℤ)
    → AreTriangular regions locations → ComeBack regions (deltas_of regions locations values) locations values

-- One row a master: the scalars, at its location, of the regions of the masters before it.
abbrev pub rows_after : List (List Triple) → List (List Triple) → List (List ℤ) → List (List ℤ)
rows_after earlier (region ∷ regions) (at ∷ ats) = scalars_at earlier at ∷ rows_after (earlier ++ (region ∷ [])) regions ats
rows_after earlier _ _ = []

abbrev pub rows_of : List (List Triple) → List (List ℤ) → List (List ℤ)
rows_of regions locations = rows_after [] regions locations

-- later regions don't count: these rows give the same deltas as whole ones
abbrev pub RowsSuffice : Type 0
RowsSuffice = (regions : List (List Triple)) (locations : List (List ℤ)) (values : List ℤ) → length values ≡ length (rows_of regions locations)
    → deltas_by (rows_of regions locations) values ≡ deltas_of regions locations values
