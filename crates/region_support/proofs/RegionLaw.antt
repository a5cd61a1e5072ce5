-- The law of the regions: at a master's location its own region is whole and every later one is nothing.
use Rattle.std.proofs.Common.{◌≡◌, ◌≢◌, refl, sym, ◌∙◌, ap, subst, ℕ, suc, ℤ, pos, ◌≤ℤ◌, ◌<ℤ◌, ◌+◌, ◌≤◌, ◌^◌, true, ◌⊎◌, inl, inr, List, [], ◌∷◌, ◌++◌, map, length, zero-add, add-zero, arith}
use Rattle.std.specs.List.{AllByRecursion}
use Rattle.std.proofs.Common.{Less, Equal}
use Rattle.std.specs.Cmp.{first_so, second_so}
use Rattle.std.proofs.lemmas.Cmp.{tied_itself}
use Rattle.std.proofs.lemmas.Int.{ints, fold-int_max_bounds, fold-int_min_bounds}
use Rattle.std.proofs.lemmas.List.Elements.{recursion_from_All}
use Rattle.variation_rules.specs.declared.region.Triple.{Triple}
use Rattle.variation_rules.specs.Scalar.{scaled, scalar_from, scalar_of}
use Rattle.region_support.specs.MasterOrder.{is_zero, is_default, StartsWithDefault, value_on, rank, compare_masters, RisesBy, AreMasters}
use Rattle.region_support.specs.Regions.{no_axis, IsNoneIfIgnored, AreNoneIfIgnored, FirstIsWhole, least_on, greatest_on, first_triple, first_from, cut_by, cut_by_all, regions_after, regions_of, AreTriangular}
use Rattle.region_support.proofs.OrderLemmas.{compare_total, less_rank}
use Rattle.region_support.proofs.AxisLemmas.{IsShaped, shaped_none, none_leaves}
use Rattle.region_support.proofs.InfluenceLemmas.{IsWellFormed, IsExcluded, own_whole, excluded_nothing, meets, meets_formed, meets_keeps}

-- the location is one of the list
abbrev pub IsAmong : List ℤ → List (List ℤ) → Type 0
IsAmong at [] = ⊥
IsAmong at (other ∷ others) = (other ≡ at) ⊎ IsAmong at others

among_more : (at : List ℤ) (xs ys : List (List ℤ)) → IsAmong at xs → IsAmong at (xs ++ ys)
among_more at [] ys here = absurd here
among_more at (x ∷ xs) ys (inl here) = inl here
among_more at (x ∷ xs) ys (inr there) = inr (among_more at xs ys there)

among_last : (at : List ℤ) (xs : List (List ℤ)) → IsAmong at (xs ++ (at ∷ []))
among_last at [] = inl refl
among_last at (x ∷ xs) = inr (among_last at xs)

-- what holds of a value of each location holds of that of one of them
among_all : (P : ℤ → Type 0) (f : List ℤ → ℤ) (at : List ℤ) (all : List (List ℤ)) → AllByRecursion P (map f all) → IsAmong at all → P (f at)
among_all P f at [] each here = absurd here
among_all P f at (x ∷ xs) each (inl here) = subst (λ (w : List ℤ). P (f w)) here each.0
among_all P f at (x ∷ xs) each (inr there) = among_all P f at xs each.1 there

-- all masters' values on an axis lie between the least and the greatest
least_low : (at : List ℤ) (axis : ℕ) (all : List (List ℤ)) → IsAmong at all → least_on all axis ≤ℤ value_on axis at
least_low at axis all here =
    among_all (λ z. least_on all axis ≤ℤ z) (value_on axis) at all (recursion_from_All (λ z. least_on all axis ≤ℤ z) (map (value_on axis) all) (fold-int_min_bounds (pos 0) (map (value_on axis) all) (least_on all axis) refl).1) here

greatest_high : (at : List ℤ) (axis : ℕ) (all : List (List ℤ)) → IsAmong at all → value_on axis at ≤ℤ greatest_on all axis
greatest_high at axis all here =
    among_all (λ z. z ≤ℤ greatest_on all axis) (value_on axis) at all (recursion_from_All (λ z. z ≤ℤ greatest_on all axis) (map (value_on axis) all) (fold-int_max_bounds (pos 0) (map (value_on axis) all) (greatest_on all axis) refl).1) here

-- the form of an axis before any cut
pub first_tells : (least greatest value : ℤ) → ((pos 0 <ℤ value) × (first_triple least greatest value ≡ record { start = pos 0; peak = value; end = greatest }))
    ⊎ (((value <ℤ pos 0) × (first_triple least greatest value ≡ record { start = least; peak = value; end = pos 0 }))
    ⊎ ((value ≡ pos 0) × (first_triple least greatest value ≡ no_axis)))
first_tells least greatest value = grind (arith, ints)

first_shaped : (least greatest value : ℤ) → least ≤ℤ value → value ≤ℤ greatest → ((first_triple least greatest value).peak ≡ value) × IsShaped (first_triple least greatest value)
first_shaped least greatest value low high =
    let P : Triple → Type 0 = λ t. (t.peak ≡ value) × IsShaped t in
    elim (first_tells least greatest value) [
      | inl above ↦ subst P (sym above.1) (refl, inr (inl (record { start = omega (arith, ints); peak = above.0; end = high })))
      | inr (inl below) ↦ subst P (sym below.1) (refl, inr (inr (record { start = low; peak = below.0; end = omega (arith, ints) })))
      | inr (inr none) ↦ subst P (sym none.1) (sym none.0, inl refl)
    ]

-- and of the region
first_formed : (all : List (List ℤ)) (axis : ℕ) (at vs : List ℤ) → IsAmong at all → ((k : ℕ) → value_on (axis + k) at ≡ value_on k vs) → IsWellFormed vs (first_from all axis vs)
first_formed all axis at [] here values = tt
first_formed all axis at (v ∷ vs) here values =
    let own : value_on axis at ≡ v = ap (λ (n : ℕ). value_on n at) (sym (add-zero axis)) ∙ values 0 in
    let low = subst (λ (z : ℤ). least_on all axis ≤ℤ z) own (least_low at axis all here) in
    let high = subst (λ (z : ℤ). z ≤ℤ greatest_on all axis) own (greatest_high at axis all here) in
    let form = first_shaped (least_on all axis) (greatest_on all axis) v low high in
    (form.0, form.1, first_formed all (axis + 1) at vs here (λ k. ap (λ (n : ℕ). value_on n at) (next axis k) ∙ values (suc k)))
  where
    next : (a k : ℕ) → a + 1 + k ≡ a + suc k
    next a k = omega arith

cut_all_formed : (at : List ℤ) (region : List Triple) (others : List (List ℤ)) → IsWellFormed at region → IsWellFormed at (cut_by_all region others)
cut_all_formed at region [] formed = formed
cut_all_formed at region (other ∷ others) formed = cut_all_formed at (cut_by region other) others (meets_formed at region other formed)

cut_all_keeps : (at : List ℤ) (region : List Triple) (others : List (List ℤ)) (vs : List ℤ) → IsWellFormed at region → IsExcluded region vs → IsExcluded (cut_by_all region others) vs
cut_all_keeps at region [] vs formed out = out
cut_all_keeps at region (other ∷ others) vs formed out = cut_all_keeps at (cut_by region other) others vs (meets_formed at region other formed) (meets_keeps at region other vs formed out)

-- an earlier master is excluded after all cuts
excluded : (at : List ℤ) (region : List Triple) (others : List (List ℤ)) (vs : List ℤ) → IsWellFormed at region → length vs ≡ length at → vs ≢ at → rank vs ≤ rank at → IsAmong vs others → IsExcluded (cut_by_all region others) vs
excluded at region [] vs formed same differs few here = absurd here
excluded at region (other ∷ others) vs formed same differs few (inl here) =
    let P : List ℤ → Type 0 = λ o. IsExcluded (cut_by region o) vs in
    cut_all_keeps at (cut_by region other) others vs (meets_formed at region other formed) (subst P (sym here) (meets at region vs formed same differs few))
excluded at region (other ∷ others) vs formed same differs few (inr there) =
    excluded at (cut_by region other) others vs (meets_formed at region other formed) same differs few there

-- what the law uses of the order: later masters have no fewer axes, and other locations
abbrev pub IsLater : List ℤ → List ℤ → Type 0
IsLater at other = (rank at ≤ rank other) × (length at ≡ length other) × (at ≢ other)

abbrev pub AreLater : List (List ℤ) → Type 0
AreLater [] = Unit {0}
AreLater (at ∷ later) = AllByRecursion (λ other. IsLater at other) later × AreLater later

abbrev AreAmong : List (List ℤ) → List (List ℤ) → Type 0
AreAmong [] all = Unit {0}
AreAmong (at ∷ ats) all = IsAmong at all × AreAmong ats all

region_formed : (all earlier : List (List ℤ)) (at : List ℤ) → IsAmong at all → IsWellFormed at (cut_by_all (first_from all 0 at) earlier)
region_formed all earlier at here = cut_all_formed at (first_from all 0 at) earlier (first_formed all 0 at at here (λ k. ap (λ (n : ℕ). value_on n at) (zero-add k)))

later_nothing : (all earlier : List (List ℤ)) (at : List ℤ) (later : List (List ℤ)) → IsAmong at earlier → AllByRecursion (λ other. IsLater at other) later → AreAmong later all
    → AllByRecursion (λ region. (coordinate_lists : ℕ) → scalar_of coordinate_lists region at ≡ pos 0) (regions_after all earlier later)
later_nothing all earlier at [] before after here = tt
later_nothing all earlier at (other ∷ later) before after here = (
  λ coordinate_lists. excluded_nothing (pos (2 ^ coordinate_lists)) (cut_by_all (first_from all 0 other) earlier) at
      (excluded other (first_from all 0 other) earlier at (first_formed all 0 other other here.0 (λ k. ap (λ (n : ℕ). value_on n other) (zero-add k))) after.0.1 after.0.2 after.0.0 before),
  later_nothing all (earlier ++ (other ∷ [])) at later (among_more at earlier (other ∷ []) before) after.1 here.1,
)

triangular_after : (all earlier later : List (List ℤ)) → AreLater later → AreAmong later all → AreTriangular (regions_after all earlier later) later
triangular_after all earlier [] after here = tt
triangular_after all earlier (at ∷ later) after here = (
  (
    λ coordinate_lists. own_whole (pos (2 ^ coordinate_lists)) at (cut_by_all (first_from all 0 at) earlier) (region_formed all earlier at here.0),
    later_nothing all (earlier ++ (at ∷ [])) at later (among_last at earlier) after.0 here.1,
  ),
  triangular_after all (earlier ++ (at ∷ [])) later after.1 here.1,
)

-- a location isn't before itself
compare_itself : (all : List (List ℤ)) (at : List ℤ) → compare_masters all at at ≡ Equal
compare_itself all at = tied_itself (compare_total all) at

-- and one that is before another has no more axes
compare_later : (all : List (List ℤ)) (a b : List ℤ) → compare_masters all a b ≡ Less → length a ≡ length b → IsLater a b
compare_later all a b less same = (
  less_rank all a b less,
  same,
  λ e. not_less (sym (compare_itself all a) ∙ (ap (λ (w : List ℤ). compare_masters all a w) e ∙ less)),
)
  where
    not_less : Equal ≡ Less → ⊥
    not_less e = cc

later_each : (axes : ℕ) (all : List (List ℤ)) (at : List ℤ) (later : List (List ℤ)) → length at ≡ axes → AllByRecursion (λ other. length other ≡ axes) later → AllByRecursion (λ other. compare_masters all at other ≡ Less) later → AllByRecursion (λ other. IsLater at other) later
later_each axes all at [] own same rising = tt
later_each axes all at (other ∷ later) own same rising =
    (compare_later all at other rising.0 (own ∙ sym same.0), later_each axes all at later own same.1 rising.1)

later_all : (axes : ℕ) (all locations : List (List ℤ)) → AllByRecursion (λ at. length at ≡ axes) locations → RisesBy (compare_masters all) locations → AreLater locations
later_all axes all [] same rising = tt
later_all axes all (at ∷ later) same rising =
    (later_each axes all at later same.0 same.1 rising.0, later_all axes all later same.1 rising.1)

among_prefix : (at : List ℤ) (locations all : List (List ℤ)) → AreAmong locations all → AreAmong locations (at ∷ all)
among_prefix at [] all here = tt
among_prefix at (other ∷ others) all here = (inr here.0, among_prefix at others all here.1)

all_among : (locations : List (List ℤ)) → AreAmong locations locations
all_among [] = tt
all_among (at ∷ later) = (inl refl, among_prefix at later later (all_among later))

-- Masters in their order have the law.
pub regions_law : (axes : ℕ) (locations : List (List ℤ)) → AreMasters axes locations → AreTriangular (regions_of locations) locations
regions_law axes locations masters =
    triangular_after locations [] locations (later_all axes locations locations masters.equal_lengths masters.rising) (all_among locations)

-- each axis of a region that the scalar leaves out is 0 throughout
formed_none : (at : List ℤ) (region : List Triple) → IsWellFormed at region → AllByRecursion IsNoneIfIgnored region
formed_none [] [] formed = tt
formed_none [] (t ∷ ts) formed = absurd formed
formed_none (p ∷ ps) [] formed = absurd formed
formed_none (p ∷ ps) (t ∷ ts) formed = (shaped_none t formed.1, formed_none ps ts formed.2)

none_after : (all earlier later : List (List ℤ)) → AreAmong later all → AreNoneIfIgnored (regions_after all earlier later)
none_after all earlier [] here = tt
none_after all earlier (at ∷ later) here = (
  formed_none at (cut_by_all (first_from all 0 at) earlier) (region_formed all earlier at here.0),
  none_after all (earlier ++ (at ∷ [])) later here.1,
)

pub none_if_ignored : (locations : List (List ℤ)) → AreNoneIfIgnored (regions_of locations)
none_if_ignored locations = none_after locations [] locations (all_among locations)

-- and a region has one axis for each of its location
formed_length : (at : List ℤ) (region : List Triple) → IsWellFormed at region → length region ≡ length at
formed_length [] [] formed = refl
formed_length [] (t ∷ ts) formed = absurd formed
formed_length (p ∷ ps) [] formed = absurd formed
formed_length (p ∷ ps) (t ∷ ts) formed = ap (λ (n : ℕ). suc n) (formed_length ps ts formed.2)

lengths_after : (axes : ℕ) (all earlier later : List (List ℤ)) → AreAmong later all → AllByRecursion (λ at. length at ≡ axes) later → AllByRecursion (λ region. length region ≡ axes) (regions_after all earlier later)
lengths_after axes all earlier [] here same = tt
lengths_after axes all earlier (at ∷ later) here same = (
  formed_length at (cut_by_all (first_from all 0 at) earlier) (region_formed all earlier at here.0) ∙ same.0,
  lengths_after axes all (earlier ++ (at ∷ [])) later here.1 same.1,
)

pub same_lengths : (axes : ℕ) (locations : List (List ℤ)) → AreMasters axes locations → AllByRecursion (λ region. length region ≡ axes) (regions_of locations)
same_lengths axes locations masters = lengths_after axes locations [] locations (all_among locations) masters.equal_lengths

is_zero_tells : (v : ℤ) → is_zero v ≡ true → v ≡ pos 0
is_zero_tells v zero = grind (arith, ints)

-- and there is one region for each location
count_after : (all earlier later : List (List ℤ)) → length (regions_after all earlier later) ≡ length later
count_after all earlier [] = refl
count_after all earlier (at ∷ later) = ap (λ (n : ℕ). suc n) (count_after all (earlier ++ (at ∷ [])) later)

pub regions_count : (locations : List (List ℤ)) → length (regions_of locations) ≡ length locations
regions_count locations = count_after locations [] locations

-- the region of the default has no axis, and so is whole everywhere
default_leaves : (all : List (List ℤ)) (axis : ℕ) (default at : List ℤ) (s : ℤ) → is_default default ≡ true → scalar_from s (first_from all axis default) at ≡ s
default_leaves all axis [] at s none = refl
default_leaves all axis (v ∷ vs) [] s none = refl
default_leaves all axis (v ∷ vs) (a ∷ at) s none =
    let zero_here : v ≡ pos 0 = is_zero_tells v (first_so (is_zero v) (is_default vs) none) in
    let own : first_triple (least_on all axis) (greatest_on all axis) v ≡ no_axis = ap (λ (z : ℤ). first_triple (least_on all axis) (greatest_on all axis) z) zero_here in
    ap (λ (t : Triple). scalar_from (scaled s t a) (first_from all (axis + 1) vs) at) own
    ∙ (ap (λ (z : ℤ). scalar_from z (first_from all (axis + 1) vs) at) (none_leaves s a)
    ∙ default_leaves all (axis + 1) vs at s (second_so (is_zero v) (is_default vs) none))

first_whole_after : (all locations : List (List ℤ)) → StartsWithDefault locations → FirstIsWhole (regions_after all [] locations)
first_whole_after all [] starts = tt
first_whole_after all (default ∷ later) starts = λ coordinate_lists at. default_leaves all 0 default at (pos (2 ^ coordinate_lists)) starts

pub first_is_whole : (axes : ℕ) (locations : List (List ℤ)) → AreMasters axes locations → FirstIsWhole (regions_of locations)
first_is_whole axes locations masters = first_whole_after locations locations masters.default_first
