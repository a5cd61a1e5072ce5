-- Rows that can be written, and what it means that bytes have them.
use Rattle.std.specs.Prelude.{◌≡◌, ℕ, ℤ, ◌≤◌, List, length, All, Some, FitsSigned, slice_get}
use Rattle.std.specs.Int.{w16}
use Rattle.std.specs.List.{zip}
use Rattle.basics.specs.Optional.{◌>>=◌}
use Rattle.arrayvec.specs.ArrayVec.{ArrayVec, array_vec_len}
use Rattle.variation_rules.specs.declared.region.Triple.{Triple}
use Rattle.region_support.specs.Regions.{IsNormalisedTriple}
use Rattle.item_var_store.specs.DeltaSets.{delta_set_in, value_in, weighted_sum}
use Rattle.item_var_store.specs.Store.{Store, store_in}

-- rows of deltas of 16 bits, one for each of some regions on one to eight axes
pub record AreRows (axes : ℕ) (regions : List (ArrayVec Triple)) (rows : List (List ℤ)) : Type 0 where
  pub some_axes : 1 ≤ axes
  pub few_axes : axes ≤ 8
  pub axis_each : All (λ region. array_vec_len region ≡ axes) regions
  pub normalised : All (λ region. All IsNormalisedTriple region.items) regions
  pub few_regions : length regions ≤ 32767
  pub one_each : All (λ row. length row ≡ length regions) rows
  pub words : All (λ row. All (FitsSigned w16) row) rows
  pub few_rows : length rows ≤ 65535

-- A store of these axes and regions, in whose first item variation data row g is the one of number g, each number with
-- its region, in their order. There are no more rows. At every location a row's value is the sum over the regions.
pub record HasRows (axes : ℕ) (regions : List (List Triple)) (rows : List (List ℤ)) (store : Store) : Type 0 where
  pub axes_are : store.axes ≡ axes
  pub regions_are : store.regions ≡ regions
  pub row_is : (g : ℕ) → delta_set_in store 0 g ≡ (slice_get rows g >>= λ row. Some (zip regions row))
  pub value_is : (g : ℕ) (row at : List ℤ) → slice_get rows g ≡ Some row → value_in store 0 g at ≡ Some (weighted_sum regions row at)

-- the bytes are read as such a store
pub record MeansRows (axes : ℕ) (regions : List (List Triple)) (rows : List (List ℤ)) (bytes : List ℕ) : Type 0 where
  pub store : Store
  pub read : store_in bytes ≡ Some store
  pub has : HasRows axes regions rows store
