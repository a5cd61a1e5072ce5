-- Regions of normalised locations are normalised: each of their numbers is 0 or a master's value.
use Rattle.std.proofs.Common.{sym, subst, ℕ, zero, suc, ℤ, pos, ◌+◌, Bool, true, false, cond, inl, inr, List, [], ◌∷◌, ◌++◌, map, fold, arith}
use Rattle.std.specs.Prelude.{int_lt}
use Rattle.std.specs.List.{AllByRecursion}
use Rattle.std.specs.Int.{int_min, int_max}
use Rattle.std.proofs.lemmas.Int.{ints}
use Rattle.variation_rules.specs.declared.region.Triple.{Triple}
use Rattle.region_support.specs.MasterOrder.{value_on}
use Rattle.region_support.specs.Regions.{least_on, greatest_on, first_triple, first_from, greatest_ratio, cut_triple, cut_triples, cut_by, cut_by_all, regions_after, regions_of, IsNormalised, IsNormalisedTriple, AreNormalisedLocations, AreNormalisedRegions}
use Rattle.region_support.proofs.AxisLemmas.{cut_tells}
use Rattle.region_support.proofs.InfluenceLemmas.{cut_by_tells}
use Rattle.region_support.proofs.RegionLaw.{first_tells}

zero_normal : IsNormalised (pos 0)
zero_normal = (omega (arith, ints), omega (arith, ints))

either_normal : (b : Bool) (x y : ℤ) → IsNormalised x → IsNormalised y → IsNormalised (cond b x y)
either_normal true x y first second = first
either_normal false x y first second = second

value_normal : (axis : ℕ) (at : List ℤ) → AllByRecursion IsNormalised at → IsNormalised (value_on axis at)
value_normal axis [] each = zero_normal
value_normal zero (v ∷ vs) each = each.0
value_normal (suc axis) (v ∷ vs) each = value_normal axis vs each.1

least_from : (least : ℤ) (axis : ℕ) (all : List (List ℤ)) → IsNormalised least → AreNormalisedLocations all → IsNormalised (fold int_min least (map (value_on axis) all))
least_from least axis [] start each = start
least_from least axis (at ∷ all) start each =
    least_from (int_min least (value_on axis at)) axis all (either_normal (int_lt (value_on axis at) least) (value_on axis at) least (value_normal axis at each.0) start) each.1

greatest_from : (greatest : ℤ) (axis : ℕ) (all : List (List ℤ)) → IsNormalised greatest → AreNormalisedLocations all → IsNormalised (fold int_max greatest (map (value_on axis) all))
greatest_from greatest axis [] start each = start
greatest_from greatest axis (at ∷ all) start each =
    greatest_from (int_max greatest (value_on axis at)) axis all (either_normal (int_lt (value_on axis at) greatest) greatest (value_on axis at) start (value_normal axis at each.0)) each.1

first_normal : (least greatest value : ℤ) → IsNormalised least → IsNormalised greatest → IsNormalised value → IsNormalisedTriple (first_triple least greatest value)
first_normal least greatest value low high own =
    let P : Triple → Type 0 = IsNormalisedTriple in
    elim (first_tells least greatest value) [
      | inl above ↦ subst P (sym above.1) (zero_normal, own, high)
      | inr (inl below) ↦ subst P (sym below.1) (low, own, zero_normal)
      | inr (inr none) ↦ subst P (sym none.1) (zero_normal, zero_normal, zero_normal)
    ]

first_from_normal : (all : List (List ℤ)) (axis : ℕ) (vs : List ℤ) → AreNormalisedLocations all → AllByRecursion IsNormalised vs → AllByRecursion IsNormalisedTriple (first_from all axis vs)
first_from_normal all axis [] each own = tt
first_from_normal all axis (v ∷ vs) each own = (
  first_normal (least_on all axis) (greatest_on all axis) v (least_from (pos 0) axis all zero_normal each) (greatest_from (pos 0) axis all zero_normal each) own.0,
  first_from_normal all (axis + 1) vs each own.1,
)

cut_normal : (g : ℕ × ℕ) (t : Triple) (v : ℤ) → IsNormalisedTriple t → IsNormalised v → IsNormalisedTriple (cut_triple g t v)
cut_normal g t v triple value =
    let P : Triple → Type 0 = IsNormalisedTriple in
    elim (cut_tells g t v) [
      | inl same ↦ subst P (sym same.0) triple
      | inr (inl high) ↦ subst P (sym high.1) (triple.0, triple.1, value)
      | inr (inr low) ↦ subst P (sym low.1) (value, triple.1, triple.2)
    ]

cuts_normal : (g : ℕ × ℕ) (ts : List Triple) (vs : List ℤ) → AllByRecursion IsNormalisedTriple ts → AllByRecursion IsNormalised vs → AllByRecursion IsNormalisedTriple (cut_triples g ts vs)
cuts_normal g [] vs region other = tt
cuts_normal g (t ∷ ts) [] region other = region
cuts_normal g (t ∷ ts) (v ∷ vs) region other = (cut_normal g t v region.0 other.0, cuts_normal g ts vs region.1 other.1)

cut_by_normal : (region : List Triple) (other : List ℤ) → AllByRecursion IsNormalisedTriple region → AllByRecursion IsNormalised other → AllByRecursion IsNormalisedTriple (cut_by region other)
cut_by_normal region other own each =
    let P : List Triple → Type 0 = AllByRecursion IsNormalisedTriple in
    elim (cut_by_tells region other) [
      | inl cut ↦ subst P (sym cut.1) (cuts_normal (greatest_ratio region other) region other own each)
      | inr apart ↦ subst P (sym apart.1) own
    ]

cut_all_normal : (region : List Triple) (others : List (List ℤ)) → AllByRecursion IsNormalisedTriple region → AreNormalisedLocations others → AllByRecursion IsNormalisedTriple (cut_by_all region others)
cut_all_normal region [] own each = own
cut_all_normal region (other ∷ others) own each = cut_all_normal (cut_by region other) others (cut_by_normal region other own each.0) each.1

one_more : (at : List ℤ) (earlier : List (List ℤ)) → AreNormalisedLocations earlier → AllByRecursion IsNormalised at → AreNormalisedLocations (earlier ++ (at ∷ []))
one_more at [] each own = (own, tt)
one_more at (other ∷ earlier) each own = (each.0, one_more at earlier each.1 own)

after_normal : (all earlier later : List (List ℤ)) → AreNormalisedLocations all → AreNormalisedLocations earlier → AreNormalisedLocations later → AreNormalisedRegions (regions_after all earlier later)
after_normal all earlier [] each before rest = tt
after_normal all earlier (at ∷ later) each before rest = (
  cut_all_normal (first_from all 0 at) earlier (first_from_normal all 0 at each rest.0) before,
  after_normal all (earlier ++ (at ∷ [])) later each (one_more at earlier before rest.0) rest.1,
)

-- The regions of normalised masters are normalised.
pub regions_normalised : (locations : List (List ℤ)) → AreNormalisedLocations locations → AreNormalisedRegions (regions_of locations)
regions_normalised locations each = after_normal locations [] locations each tt each
