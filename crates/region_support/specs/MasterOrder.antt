-- The order of the masters of a design space: those that stand on one axis first, and a master after all that
-- its region may be cut by. A location is a list of normalised coordinates, one an axis.
use Rattle.std.specs.Prelude.{◌≡◌, ℕ, ℤ, pos, ◌+◌, Bool, true, not, ◌&&◌, List, [], ◌∷◌, length, map, filter, if◌then◌else◌, unsigned_abs, int_lt, nat_eq, slice_index_or}
use Rattle.std.specs.List.{list_any, list_all, AllByRecursion}
use Rattle.std.specs.Ordering.{nat_cmp, bool_cmp, int_eq, ordering_then}
use Rattle.std.specs.Cmp.Lexicographic.{slice_cmp}
use Rattle.std.specs.declared.cmp.Ordering.{Ordering}
use Rattle.std.specs.declared.cmp.Ordering.TheVariants.{Less}

abbrev pub is_zero : ℤ → Bool
is_zero value = int_eq value (pos 0)

-- the values other than 0
abbrev pub values_of : List ℤ → List ℤ
values_of at = filter (λ value. not (is_zero value)) at

-- the axes on which the values aren't 0, the first one counted as this number
abbrev pub axes_from : ℕ → List ℤ → List ℕ
axes_from axis [] = []
axes_from axis (value ∷ values) = if is_zero value then axes_from (axis + 1) values else axis ∷ axes_from (axis + 1) values

-- on how many axes the location isn't at the default
abbrev pub rank : List ℤ → ℕ
rank at = length (values_of at)

-- the location's value on the axis of this number
abbrev pub value_on : ℕ → List ℤ → ℤ
value_on axis at = slice_index_or at axis (pos 0)

-- the value is one of the axis's points: a master stands at it on this axis alone
abbrev pub is_axis_point : List (List ℤ) → ℕ → ℤ → Bool
is_axis_point locations axis value = list_any (λ other. nat_eq (rank other) 1 && int_eq (value_on axis other) value) locations

-- on how many axes the location has a value other than 0 that is one of the axis's points
abbrev pub points_from : List (List ℤ) → ℕ → List ℤ → ℕ
points_from locations axis [] = 0
points_from locations axis (value ∷ values) =
    (if not (is_zero value) && is_axis_point locations axis value then 1 else 0) + points_from locations (axis + 1) values

-- above the default
abbrev pub is_above : ℤ → Bool
is_above value = int_lt (pos 0) value

-- What orders two locations among all of them: fewer axes first, then more axis points, then the axes, then the
-- sides, the lower one first, then the distances from the default. Lists are compared item by item.
abbrev pub compare_masters : List (List ℤ) → List ℤ → List ℤ → Ordering
compare_masters locations a b =
    ordering_then (nat_cmp (rank a) (rank b))
    (ordering_then (nat_cmp (points_from locations 0 b) (points_from locations 0 a))
    (ordering_then (slice_cmp nat_cmp (axes_from 0 a) (axes_from 0 b))
    (ordering_then (slice_cmp bool_cmp (map is_above (values_of a)) (map is_above (values_of b)))
    (slice_cmp nat_cmp (map unsigned_abs (values_of a)) (map unsigned_abs (values_of b))))))

-- each location comes before all later ones
abbrev pub RisesBy : (List ℤ → List ℤ → Ordering) → List (List ℤ) → Type 0
RisesBy compare [] = Unit {0}
RisesBy compare (at ∷ later) = AllByRecursion (λ other. compare at other ≡ Less) later × RisesBy compare later

-- all coordinates are 0
abbrev pub is_default : List ℤ → Bool
is_default at = list_all is_zero at

abbrev pub StartsWithDefault : List (List ℤ) → Type 0
StartsWithDefault [] = ⊥
StartsWithDefault (at ∷ _) = is_default at ≡ true

-- how many axes the locations have
abbrev pub axes_of : List (List ℤ) → ℕ
axes_of [] = 0
axes_of (at ∷ _) = length at

-- The locations are those of masters in their order: the default first, no two equal, the rest by the order above.
pub record AreMasters (axes : ℕ) (locations : List (List ℤ)) : Type 0 where
  pub default_first : StartsWithDefault locations
  pub equal_lengths : AllByRecursion (λ at. length at ≡ axes) locations
  pub rising : RisesBy (compare_masters locations) locations
