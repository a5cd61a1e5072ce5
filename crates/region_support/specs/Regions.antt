-- The region of each master: a box around its location, as wide as the masters reach, cut by the masters before it.
use Rattle.std.specs.Prelude.{◌≡◌, ℕ, ℤ, pos, ◌+◌, ◌*◌, ◌^◌, ◌-ℤ◌, neg_ℤ, ◌≤ℤ◌, Bool, true, not, ◌&&◌, ◌||◌, List, [], ◌∷◌, ◌++◌, map, fold, if◌then◌else◌, unsigned_abs, int_lt, nat_lt}
use Rattle.std.specs.List.{AllByRecursion}
use Rattle.std.specs.Ordering.{int_eq}
use Rattle.std.specs.Int.{int_min, int_max}
use Rattle.variation_rules.specs.declared.region.Triple.{Triple}
use Rattle.variation_rules.specs.Scalar.{is_ignored, scalar_of}
use Rattle.region_support.specs.MasterOrder.{is_zero, value_on}

-- the least and the greatest value of any master on an axis, 0 among them
abbrev pub least_on : List (List ℤ) → ℕ → ℤ
least_on locations axis = fold int_min (pos 0) (map (value_on axis) locations)

abbrev pub greatest_on : List (List ℤ) → ℕ → ℤ
greatest_on locations axis = fold int_max (pos 0) (map (value_on axis) locations)

-- an axis that is left out
abbrev pub no_axis : Triple
no_axis = record { start = pos 0; peak = pos 0; end = pos 0 }

-- from the default over the master's value to the farthest master on that side; an axis with the value 0 is left out
abbrev pub first_triple : ℤ → ℤ → ℤ → Triple
first_triple least greatest value =
    if int_lt (pos 0) value then (record { start = pos 0; peak = value; end = greatest })
    else (if int_lt value (pos 0) then (record { start = least; peak = value; end = pos 0 })
    else no_axis)

-- the region before any cut, the first axis counted as this number
abbrev pub first_from : List (List ℤ) → ℕ → List ℤ → List Triple
first_from locations axis [] = []
first_from locations axis (value ∷ values) =
    first_triple (least_on locations axis) (greatest_on locations axis) value ∷ first_from locations (axis + 1) values

-- another master's value is the peak or strictly inside the axis as it stands; where the axis is left out it is 0
abbrev pub is_within : Triple → ℤ → Bool
is_within t value =
    if is_zero t.peak then is_zero value
    else (not (is_zero value) && (int_eq value t.peak || (int_lt t.start value && int_lt value t.end)))

-- the other master has the same axes, and lies within on each
abbrev pub cuts : List Triple → List ℤ → Bool
cuts (t ∷ ts) (value ∷ values) = is_within t value && cuts ts values
cuts _ _ = true

-- how far from the peak to the end on its side the value lies, as a fraction; 0 at the peak
abbrev pub ratio : Triple → ℤ → ℕ × ℕ
ratio t value =
    if int_lt t.peak value then (unsigned_abs (value -ℤ t.peak), unsigned_abs (t.end -ℤ t.peak))
    else (if int_lt value t.peak then (unsigned_abs (t.peak -ℤ value), unsigned_abs (t.peak -ℤ t.start))
    else (0, 1))

abbrev pub is_below : ℕ × ℕ → ℕ × ℕ → Bool
is_below a b = nat_lt (a.0 * b.1) (b.0 * a.1)

-- the greatest ratio of any axis
abbrev pub greatest_ratio : List Triple → List ℤ → ℕ × ℕ
greatest_ratio (t ∷ ts) (value ∷ values) =
    if is_below (ratio t value) (greatest_ratio ts values) then greatest_ratio ts values else ratio t value
greatest_ratio _ _ = (0, 1)

-- the end on the value's side becomes the value, where the axis has the greatest ratio
abbrev pub cut_triple : ℕ × ℕ → Triple → ℤ → Triple
cut_triple greatest t value =
    if is_below (ratio t value) greatest then t
    else (if int_lt t.peak value then (record t { end = value })
    else (if int_lt value t.peak then (record t { start = value }) else t))

abbrev pub cut_triples : ℕ × ℕ → List Triple → List ℤ → List Triple
cut_triples greatest (t ∷ ts) (value ∷ values) = cut_triple greatest t value ∷ cut_triples greatest ts values
cut_triples greatest ts _ = ts

-- the region after one earlier master
abbrev pub cut_by : List Triple → List ℤ → List Triple
cut_by region other = if cuts region other then cut_triples (greatest_ratio region other) region other else region

-- the region after the earlier masters, each of which meets it as cut so far
abbrev pub cut_by_all : List Triple → List (List ℤ) → List Triple
cut_by_all region [] = region
cut_by_all region (other ∷ others) = cut_by_all (cut_by region other) others

-- the regions of masters in their order, after earlier ones; all of them are the masters
abbrev pub regions_after : List (List ℤ) → List (List ℤ) → List (List ℤ) → List (List Triple)
regions_after all earlier [] = []
regions_after all earlier (at ∷ later) = cut_by_all (first_from all 0 at) earlier ∷ regions_after all (earlier ++ (at ∷ [])) later

-- the region of each master
abbrev pub regions_of : List (List ℤ) → List (List Triple)
regions_of locations = regions_after locations [] locations

-- own region one, later regions nothing
abbrev pub EndsTheRow : List (List Triple) → List ℤ → Type 0
EndsTheRow [] at = Unit {0}
EndsTheRow (own ∷ later) at = ((coordinate_lists : ℕ) → scalar_of coordinate_lists own at ≡ pos (2 ^ coordinate_lists)) × AllByRecursion (λ region. (coordinate_lists : ℕ) → scalar_of coordinate_lists region at ≡ pos 0) later

-- at each master's location its own region is whole, and every later one has no influence
abbrev pub AreTriangular : List (List Triple) → List (List ℤ) → Type 0
AreTriangular regions [] = Unit {0}
AreTriangular [] (at ∷ ats) = ⊥
AreTriangular (region ∷ regions) (at ∷ ats) = EndsTheRow (region ∷ regions) at × AreTriangular regions ats

-- an axis that the scalar leaves out is 0 throughout
abbrev pub IsNoneIfIgnored : Triple → Type 0
IsNoneIfIgnored t = is_ignored t ≡ true → t ≡ no_axis

abbrev pub AreNoneIfIgnored : List (List Triple) → Type 0
AreNoneIfIgnored regions = AllByRecursion (λ region. AllByRecursion IsNoneIfIgnored region) regions

-- the first region, the default's, is whole everywhere
abbrev pub FirstIsWhole : List (List Triple) → Type 0
FirstIsWhole [] = Unit {0}
FirstIsWhole (region ∷ regions) = (coordinate_lists : ℕ) (at : List ℤ) → scalar_of coordinate_lists region at ≡ pos (2 ^ coordinate_lists)

-- a normalised coordinate: from -1 to 1 in F2DOT14
abbrev pub IsNormalised : ℤ → Type 0
IsNormalised z = (neg_ℤ (pos 16384) ≤ℤ z) × (z ≤ℤ pos 16384)

abbrev pub IsNormalisedTriple : Triple → Type 0
IsNormalisedTriple t = IsNormalised t.start × IsNormalised t.peak × IsNormalised t.end

abbrev pub AreNormalisedLocations : List (List ℤ) → Type 0
AreNormalisedLocations locations = AllByRecursion (λ at. AllByRecursion IsNormalised at) locations

abbrev pub AreNormalisedRegions : List (List Triple) → Type 0
AreNormalisedRegions regions = AllByRecursion (λ region. AllByRecursion IsNormalisedTriple region) regions
