-- A delta set of an item variation store, and what it comes to at a location (OpenType, "Algorithm for interpolation of
-- instance values").
use Rattle.std.specs.Prelude.{ℕ, ℤ, pos, ◌+ℤ◌, ◌*ℤ◌, List, [], ◌∷◌, Option, Some, None, slice_get}
use Rattle.basics.specs.Optional.{◌>>=◌}
use Rattle.variation_rules.specs.declared.region.Triple.{Triple}
use Rattle.variation_rules.specs.Scalar.{scalar_of}
use Rattle.item_var_store.specs.Store.{Store}

-- the deltas of a row, each with its column's region, which the index picks
abbrev pub with_regions : List (List Triple) → List ℕ → List ℤ → Option (List (List Triple × ℤ))
with_regions regions [] [] = Some []
with_regions regions [] (_ ∷ _) = None
with_regions regions (_ ∷ _) [] = None
with_regions regions (index ∷ indexes) (delta ∷ deltas) = do
  region ← slice_get regions index
  more ← with_regions regions indexes deltas
  Some ((region, delta) ∷ more)

-- the delta set of the row of number inner, in the item variation data of number outer
abbrev pub delta_set_in : Store → ℕ → ℕ → Option (List (List Triple × ℤ))
delta_set_in store outer inner = do
  own ← slice_get store.item_data outer
  row ← slice_get own.rows inner
  with_regions store.regions own.indexes row

-- the sum of the deltas, each times the scalar of its region at the location, in 65536ths
abbrev pub value_of : List (List Triple × ℤ) → List ℤ → ℤ
value_of [] at = pos 0
value_of (own ∷ more) at = (scalar_of 16 own.0 at *ℤ own.1) +ℤ value_of more at

-- the value of a row at a location
abbrev pub value_in : Store → ℕ → ℕ → List ℤ → Option ℤ
value_in store outer inner at = delta_set_in store outer inner >>= λ pairs. Some (value_of pairs at)

-- the sum over regions of the scalar at a location times the number of the region's column, in 65536ths
abbrev pub weighted_sum : List (List Triple) → List ℤ → List ℤ → ℤ
weighted_sum (region ∷ regions) (number ∷ numbers) at = (scalar_of 16 region at *ℤ number) +ℤ weighted_sum regions numbers at
weighted_sum _ _ at = pos 0
