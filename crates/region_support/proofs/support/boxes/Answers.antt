use Rattle.std.proofs.Common.{◌≡◌, ◌≤◌, ◌++◌, ℕ, ℤ, List, [], ◌∷◌, length, take, drop, append-nil, sym, ◌∙◌, ap, subst, arith}
use Rattle.std.specs.List.{AllByRecursion}
use Rattle.std.proofs.lemmas.List.{drop_all, length-map}
use Rattle.std.proofs.lemmas.List.Elements.{All-from_recursion}
use Rattle.arrayvec.specs.ArrayVec.{ArrayVec, array_vec_len}
use Rattle.variation_rules.specs.declared.region.Triple.{Triple}
use Rattle.region_support.specs.MasterOrder.{axes_of}
use Rattle.region_support.specs.Coordinates.{coordinates_of, regions_in}
use Rattle.region_support.specs.Regions.{regions_after, regions_of, AreTriangular, FirstIsWhole, AreNoneIfIgnored, AreNormalisedRegions}
use Rattle.region_support.proofs.RegionLaw.{regions_law, none_if_ignored, same_lengths, first_is_whole, regions_count}
use Rattle.region_support.proofs.RangeLemmas.{regions_normalised}
use Rattle.region_support.proofs.support.boxes.Goals as goal

-- where no master is left, all regions are there
value_of : (supports : List (ArrayVec Triple)) (masters sorted : List (ArrayVec ℤ)) (index : ℕ) → length masters ≤ index
    → regions_in supports ++ regions_after (coordinates_of masters) (coordinates_of (take index masters)) (coordinates_of (drop index masters)) ≡ regions_of (coordinates_of masters) → masters ≡ sorted → regions_in supports ≡ regions_of (coordinates_of sorted)
value_of supports masters sorted index ended whole same =
    let P : List (ArrayVec ℤ) → Type 0 = λ left. regions_in supports ++ regions_after (coordinates_of masters) (coordinates_of (take index masters)) (coordinates_of left) ≡ regions_of (coordinates_of masters) in
    sym (append-nil (regions_in supports)) ∙ (subst P (drop_all index masters ended) whole ∙ ap (λ (m : List (ArrayVec ℤ)). regions_of (coordinates_of m)) same)

-- what holds of the lengths of regions holds of those of the supports
support_lengths : (axes : ℕ) (supports : List (ArrayVec Triple)) → AllByRecursion (λ region. length region ≡ axes) (regions_in supports) → AllByRecursion (λ support. array_vec_len support ≡ axes) supports
support_lengths axes [] each = tt
support_lengths axes (support ∷ supports) each = (each.0, support_lengths axes supports each.1)

pub returns-clause-count : goal.returns-clause-count
returns-clause-count c =
    let coordinate_lists = coordinates_of c.args.sorted.now in
    let value : regions_in c.loop-index.supports ≡ regions_of coordinate_lists = value_of c.loop-index.supports c.as_slice-masters.result.now c.args.sorted.now c.loop-index.index (omega arith) c.loop-index.invariant c.as_slice-masters.ensures in
    sym (length-map c.loop-index.supports (λ (support : ArrayVec Triple). support.items)) ∙ (ap length value ∙ (regions_count coordinate_lists ∙ length-map c.args.sorted.now (λ (at : ArrayVec ℤ). at.items)))

pub returns-clause-lengths : goal.returns-clause-lengths
returns-clause-lengths c =
    let coordinate_lists = coordinates_of c.args.sorted.now in
    let value : regions_in c.loop-index.supports ≡ regions_of coordinate_lists = value_of c.loop-index.supports c.as_slice-masters.result.now c.args.sorted.now c.loop-index.index (omega arith) c.loop-index.invariant c.as_slice-masters.ensures in
    let P : List (List Triple) → Type 0 = AllByRecursion (λ region. length region ≡ axes_of coordinate_lists) in
    All-from_recursion (λ support. array_vec_len support ≡ axes_of coordinate_lists) c.loop-index.supports
    (support_lengths (axes_of coordinate_lists) c.loop-index.supports (subst P (sym value) (same_lengths (axes_of coordinate_lists) coordinate_lists c.requires.masters)))

pub returns-clause-triangular : goal.returns-clause-triangular
returns-clause-triangular c =
    let coordinate_lists = coordinates_of c.args.sorted.now in
    let value : regions_in c.loop-index.supports ≡ regions_of coordinate_lists = value_of c.loop-index.supports c.as_slice-masters.result.now c.args.sorted.now c.loop-index.index (omega arith) c.loop-index.invariant c.as_slice-masters.ensures in
    subst (λ (rs : List (List Triple)). AreTriangular rs coordinate_lists) (sym value) (regions_law (axes_of coordinate_lists) coordinate_lists c.requires.masters)

pub returns-clause-default : goal.returns-clause-default
returns-clause-default c =
    let coordinate_lists = coordinates_of c.args.sorted.now in
    let value : regions_in c.loop-index.supports ≡ regions_of coordinate_lists = value_of c.loop-index.supports c.as_slice-masters.result.now c.args.sorted.now c.loop-index.index (omega arith) c.loop-index.invariant c.as_slice-masters.ensures in
    subst (λ (rs : List (List Triple)). FirstIsWhole rs) (sym value) (first_is_whole (axes_of coordinate_lists) coordinate_lists c.requires.masters)

pub returns-clause-none : goal.returns-clause-none
returns-clause-none c =
    let coordinate_lists = coordinates_of c.args.sorted.now in
    let value : regions_in c.loop-index.supports ≡ regions_of coordinate_lists = value_of c.loop-index.supports c.as_slice-masters.result.now c.args.sorted.now c.loop-index.index (omega arith) c.loop-index.invariant c.as_slice-masters.ensures in
    subst (λ (rs : List (List Triple)). AreNoneIfIgnored rs) (sym value) (none_if_ignored coordinate_lists)

pub returns-clause-normalised : goal.returns-clause-normalised
returns-clause-normalised c normal =
    let coordinate_lists = coordinates_of c.args.sorted.now in
    let value : regions_in c.loop-index.supports ≡ regions_of coordinate_lists = value_of c.loop-index.supports c.as_slice-masters.result.now c.args.sorted.now c.loop-index.index (omega arith) c.loop-index.invariant c.as_slice-masters.ensures in
    subst (λ (rs : List (List Triple)). AreNormalisedRegions rs) (sym value) (regions_normalised coordinate_lists normal)
