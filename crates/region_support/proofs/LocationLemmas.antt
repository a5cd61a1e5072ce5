-- What the locations in their order have of the locations as they are listed.
use Rattle.std.proofs.Common.{◌≡◌, sym, ◌∙◌, subst, ℕ, zero, suc, ℤ, ◌+◌, ◌<◌, List, [], ◌∷◌, length, arith}
use Rattle.std.specs.Prelude.{All}
use Rattle.std.specs.List.{AllByRecursion}
use Rattle.std.proofs.lemmas.List.Elements.{All-from_recursion, recursion_from_All}
use Rattle.std.proofs.lemmas.List.Sorted.{All-permutation, length_permutation}
use Rattle.arrayvec.specs.ArrayVec.{ArrayVec, array_vec_len}
use Rattle.variation_rules.specs.PackedPoints.{count_from}
use Rattle.region_support.specs.MasterOrder.{AreMasters, axes_of}
use Rattle.region_support.specs.Coordinates.{coordinates_of}
use Rattle.region_support.specs.Regions.{IsNormalised, AreNormalisedLocations}
use Rattle.region_support.specs.Sorting.{locations_at, IsOrder}
use Rattle.region_support.proofs.SortLemmas.{coordinate_lists_moved}

-- each number is one of a location
count_below : (n first : ℕ) → AllByRecursion (λ k. k < first + n) (count_from n first)
count_below zero first = tt
count_below (suc n) first = (omega arith, raised (first + 1 + n) (first + suc n) (omega arith) (count_from n (first + 1)) (count_below n (first + 1)))
  where
    raised : (a b : ℕ) → a ≡ b → (ks : List ℕ) → AllByRecursion (λ k. k < a) ks → AllByRecursion (λ k. k < b) ks
    raised a b e ks each = subst (λ (m : ℕ). AllByRecursion (λ k. k < m) ks) e each

pub number_below : (coordinate_lists : List (List ℤ)) (order : List ℕ) → IsOrder coordinate_lists order → All (λ k. k < length coordinate_lists) order
number_below coordinate_lists order is =
    All-permutation (λ k. k < length coordinate_lists) (count_from (length coordinate_lists) 0) order is.all
    (All-from_recursion (λ k. k < length coordinate_lists) (count_from (length coordinate_lists) 0) (subst (λ (m : ℕ). AllByRecursion (λ k. k < m) (count_from (length coordinate_lists) 0)) (omega arith) (count_below (length coordinate_lists) 0)))

-- and there are as many
pub order_length : (coordinate_lists : List (List ℤ)) (order : List ℕ) → IsOrder coordinate_lists order → length (locations_at coordinate_lists order) ≡ length coordinate_lists
order_length coordinate_lists order is = length_permutation coordinate_lists (locations_at coordinate_lists order) (coordinate_lists_moved coordinate_lists order is.all)

masters_axes : (axes : ℕ) (locations : List (List ℤ)) → AreMasters axes locations → axes_of locations ≡ axes
masters_axes axes [] masters = absurd masters.default_first
masters_axes axes (at ∷ later) masters = masters.equal_lengths.0

pub ordered_masters : (coordinate_lists : List (List ℤ)) (order : List ℕ) → IsOrder coordinate_lists order → AreMasters (axes_of (locations_at coordinate_lists order)) (locations_at coordinate_lists order)
ordered_masters coordinate_lists order is =
    subst (λ (axes : ℕ). AreMasters axes (locations_at coordinate_lists order)) (sym (masters_axes (axes_of coordinate_lists) (locations_at coordinate_lists order) is.rising)) is.rising

pub ordered_normalised : (coordinate_lists : List (List ℤ)) (order : List ℕ) → IsOrder coordinate_lists order → AreNormalisedLocations coordinate_lists → AreNormalisedLocations (locations_at coordinate_lists order)
ordered_normalised coordinate_lists order is each =
    recursion_from_All (AllByRecursion IsNormalised) (locations_at coordinate_lists order) (All-permutation (AllByRecursion IsNormalised) coordinate_lists (locations_at coordinate_lists order) (coordinate_lists_moved coordinate_lists order is.all) (All-from_recursion (AllByRecursion IsNormalised) coordinate_lists each))

-- locations with so many axes each have as many as the first
pub same_axes : (axes : ℕ) (locations : List (ArrayVec ℤ)) → All (λ at. array_vec_len at ≡ axes) locations → All (λ at. array_vec_len at ≡ axes_of (coordinates_of locations)) locations
same_axes axes [] each = λ k d below. absurd (omega arith)
same_axes axes (at ∷ more) each = λ k d below. each k d below ∙ sym (each zero at (omega arith))
