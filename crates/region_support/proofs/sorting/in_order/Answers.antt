use Rattle.std.proofs.Common.{◌≡◌, ◌+◌, ◌<◌, ◌≤◌, ◌++◌, ℕ, ℤ, List, [], ◌∷◌, length, drop, get_or, refl, sym, ◌∙◌, ap, subst, add-one, drop-cons, append_assoc, append-nil, arith}
use Rattle.std.specs.List.{AllZip}
use Rattle.std.proofs.lemmas.List.{drop_all, get_or-map, length-map, map-append}
use Rattle.arrayvec.specs.ArrayVec.{ArrayVec}
use Rattle.region_support.specs.MasterOrder.{AreMasters, axes_of}
use Rattle.region_support.specs.Coordinates.{coordinates_of}
use Rattle.region_support.specs.Regions.{AreNormalisedLocations}
use Rattle.region_support.specs.Sorting.{location_at, locations_at, IsOrder}
use Rattle.region_support.proofs.LocationLemmas.{number_below, order_length, ordered_masters, ordered_normalised}
use Rattle.region_support.proofs.sorting.in_order.Goals as goal

-- a copy has the same items
copied : (xs ys : List ℤ) → AllZip (λ x y. y ≡ x) xs ys → ys ≡ xs
copied [] [] each = refl
copied [] (y ∷ ys) each = absurd each
copied (x ∷ xs) [] each = absurd each
copied (x ∷ xs) (y ∷ ys) each = let head = each.0 in let rest = copied xs ys each.1 in λ i. head i ∷ rest i

-- one number more
step : (before : List (List ℤ)) (locations : List (ArrayVec ℤ)) (numbers : List ℕ) (i : ℕ) (at : List ℤ) → i < length numbers → at ≡ location_at (coordinates_of locations) (get_or numbers i 0)
    → (before ++ (at ∷ [])) ++ locations_at (coordinates_of locations) (drop (i + 1) numbers) ≡ before ++ locations_at (coordinates_of locations) (drop i numbers)
step before locations numbers i at here is =
    let head : drop i numbers ≡ get_or numbers i 0 ∷ drop (i + 1) numbers = rw (add-one, drop-cons numbers i 0) refl in
    append_assoc before (at ∷ []) (locations_at (coordinates_of locations) (drop (i + 1) numbers))
    ∙ ap (λ (l : List (List ℤ)). before ++ l) (ap (λ (w : List ℤ). w ∷ locations_at (coordinates_of locations) (drop (i + 1) numbers)) is ∙ sym (ap (locations_at (coordinates_of locations)) head))

-- each number that is met is one of a location
bound : (listed locations : List (ArrayVec ℤ)) (numbers order : List ℕ) → IsOrder (coordinates_of listed) order → locations ≡ listed → numbers ≡ order → (i : ℕ) → i < length numbers → get_or numbers i 0 < length locations
bound listed locations numbers order is same_locations same_numbers i here =
    let inside : i < length order = subst (λ (l : List ℕ). i < length l) same_numbers here in
    let below : get_or order i 0 < length (coordinates_of listed) = number_below (coordinates_of listed) order is i 0 inside in
    omega (arith, below, length-map listed (λ (at : ArrayVec ℤ). at.items), ap length same_locations, ap (λ (l : List ℕ). get_or l i 0) same_numbers)

pub bounds-locations-number : goal.bounds-locations-number
bounds-locations-number c =
    bound c.args.locations.now c.as_slice-locations.result.now c.as_slice-numbers.result.now c.args.order.now c.requires c.as_slice-locations.ensures c.as_slice-numbers.ensures c.loop-number.number-index c.loop-number-test.true

pub loop-number-preserved : goal.loop-number-preserved
loop-number-preserved c =
    let locations = c.as_slice-locations.result.now in
    let numbers = c.as_slice-numbers.result.now in
    let i = c.loop-number.number-index in
    let below = bound c.args.locations.now locations numbers c.args.order.now c.requires c.as_slice-locations.ensures c.as_slice-numbers.ensures i c.loop-number-test.true in
    let same : c.in_ok-at.at.items ≡ c.index-locations-number.result.items = copied c.index-locations-number.result.items c.in_ok-at.at.items c.in_ok-at.ensures.cases in
    let coordinates : c.in_ok-at.at.items ≡ location_at (coordinates_of locations) (get_or numbers i 0) =
    same ∙ (ap (λ (at : ArrayVec ℤ). at.items) c.index-locations-number.is ∙ sym (get_or-map (λ (at : ArrayVec ℤ). at.items) locations (get_or numbers i 0) c.index-locations-number.result [] below)) in
    let pushed : coordinates_of c.push.new.self ≡ coordinates_of c.loop-number.sorted ++ (c.in_ok-at.at.items ∷ []) =
    ap coordinates_of c.in_ok-push.ensures.ok ∙ map-append (λ (at : ArrayVec ℤ). at.items) c.loop-number.sorted (c.in_ok-at.at ∷ []) in
    ap (λ (l : List (List ℤ)). l ++ locations_at (coordinates_of locations) (drop (i + 1) numbers)) pushed
    ∙ (step (coordinates_of c.loop-number.sorted) locations numbers i c.in_ok-at.at.items c.loop-number-test.true coordinates ∙ c.loop-number.invariant)

-- where no number is left, all locations are there
value_of : (sorted locations listed : List (ArrayVec ℤ)) (numbers order : List ℕ) (i : ℕ) → length numbers ≤ i → locations ≡ listed → numbers ≡ order
    → coordinates_of sorted ++ locations_at (coordinates_of locations) (drop i numbers) ≡ locations_at (coordinates_of locations) numbers → coordinates_of sorted ≡ locations_at (coordinates_of listed) order
value_of sorted locations listed numbers order i ended same_locations same_numbers whole =
    sym (append-nil (coordinates_of sorted)) ∙ (sym (ap (λ (left : List ℕ). coordinates_of sorted ++ locations_at (coordinates_of locations) left) (drop_all i numbers ended)) ∙ (whole ∙ (λ k. locations_at (coordinates_of (same_locations k)) (same_numbers k))))

pub returns-clause-masters : goal.returns-clause-masters
returns-clause-masters c =
    let coordinate_lists = coordinates_of c.args.locations.now in
    let value : coordinates_of c.loop-number.sorted ≡ locations_at coordinate_lists c.args.order.now = value_of c.loop-number.sorted c.as_slice-locations.result.now c.args.locations.now c.as_slice-numbers.result.now c.args.order.now c.loop-number.number-index c.loop-number-test.false c.as_slice-locations.ensures c.as_slice-numbers.ensures c.loop-number.invariant in
    subst (λ (ls : List (List ℤ)). AreMasters (axes_of ls) ls) (sym value) (ordered_masters coordinate_lists c.args.order.now c.requires)

pub returns-clause-count : goal.returns-clause-count
returns-clause-count c =
    let coordinate_lists = coordinates_of c.args.locations.now in
    let value : coordinates_of c.loop-number.sorted ≡ locations_at coordinate_lists c.args.order.now = value_of c.loop-number.sorted c.as_slice-locations.result.now c.args.locations.now c.as_slice-numbers.result.now c.args.order.now c.loop-number.number-index c.loop-number-test.false c.as_slice-locations.ensures c.as_slice-numbers.ensures c.loop-number.invariant in
    sym (length-map c.loop-number.sorted (λ (at : ArrayVec ℤ). at.items)) ∙ (ap length value ∙ (order_length coordinate_lists c.args.order.now c.requires ∙ length-map c.args.locations.now (λ (at : ArrayVec ℤ). at.items)))

pub returns-clause-normalised : goal.returns-clause-normalised
returns-clause-normalised c each =
    let coordinate_lists = coordinates_of c.args.locations.now in
    let value : coordinates_of c.loop-number.sorted ≡ locations_at coordinate_lists c.args.order.now = value_of c.loop-number.sorted c.as_slice-locations.result.now c.args.locations.now c.as_slice-numbers.result.now c.args.order.now c.loop-number.number-index c.loop-number-test.false c.as_slice-locations.ensures c.as_slice-numbers.ensures c.loop-number.invariant in
    subst (λ (ls : List (List ℤ)). AreNormalisedLocations ls) (sym value) (ordered_normalised coordinate_lists c.args.order.now c.requires each)
