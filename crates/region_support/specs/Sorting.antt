-- What putting the masters of a design space in order answers: their numbers in order, or why there is no order.
-- Locations are numbered from 0 as they are listed.
use Rattle.std.specs.Prelude.{ℕ, ℤ, Bool, List, [], ◌∷◌, ◌++◌, length, map, Option, Some, None, if◌then◌else◌, IsPermutation, position, slice_index_or, option_map}
use Rattle.std.specs.List.{list_any}
use Rattle.std.specs.Ordering.{int_eq, is_lt}
use Rattle.std.specs.Cmp.Lexicographic.{pointwise}
use Rattle.variation_rules.specs.PackedPoints.{count_from}
use Rattle.region_support.specs.MasterOrder.{is_default, compare_masters, AreMasters, axes_of}
use Rattle.region_support.specs.declared.sorting.ModelStop.{ModelStop}
use Rattle.region_support.specs.declared.sorting.ModelStop.TheVariants.{NoDefault, SameLocation}

abbrev pub location_at : List (List ℤ) → ℕ → List ℤ
location_at locations number = slice_index_or locations number []

-- the locations of these numbers, in their order
abbrev pub locations_at : List (List ℤ) → List ℕ → List (List ℤ)
locations_at locations numbers = map (location_at locations) numbers

-- whether the first of two numbers names the location that comes first
abbrev pub is_before : List (List ℤ) → ℕ → ℕ → Bool
is_before locations a b = is_lt (compare_masters locations (location_at locations a) (location_at locations b))

-- a number put before the first one whose location comes after its own
abbrev pub with_number : List (List ℤ) → ℕ → List ℕ → List ℕ
with_number locations number [] = number ∷ []
with_number locations number (other ∷ others) =
    if is_before locations number other then number ∷ other ∷ others else other ∷ with_number locations number others

abbrev pub sorted_numbers : List (List ℤ) → List ℕ → List ℕ
sorted_numbers locations [] = []
sorted_numbers locations (number ∷ numbers) = with_number locations number (sorted_numbers locations numbers)

-- the numbers of the locations, in the order of masters
abbrev pub order_of : List (List ℤ) → List ℕ
order_of locations = sorted_numbers locations (count_from (length locations) 0)

-- The same without a way to find it: every number stands in it once, and the locations in this order are those of
-- masters in theirs.
pub record IsOrder (locations : List (List ℤ)) (order : List ℕ) : Type 0 where
  pub all : IsPermutation (count_from (length locations) 0) order
  pub rising : AreMasters (axes_of locations) (locations_at locations order)

abbrev pub is_same_location : List ℤ → List ℤ → Bool
is_same_location a b = pointwise int_eq a b

abbrev pub repeat_or : ℕ → Option ℕ → Option (ℕ × ℕ) → Option (ℕ × ℕ)
repeat_or number (Some first) later = Some (first, number)
repeat_or number None later = later

-- the first of the later locations that equals an earlier one: the number of the first such one, and its own
abbrev pub first_repeat : List (List ℤ) → List (List ℤ) → Option (ℕ × ℕ)
first_repeat earlier [] = None
first_repeat earlier (at ∷ later) =
    repeat_or (length earlier) (position (is_same_location at) earlier) (first_repeat (earlier ++ (at ∷ [])) later)

-- why there is no order: no location is the default, or else two are equal
abbrev pub model_fault : List (List ℤ) → Option ModelStop
model_fault locations =
    if list_any is_default locations then option_map (λ pair. SameLocation pair.0 pair.1) (first_repeat [] locations) else Some NoDefault
