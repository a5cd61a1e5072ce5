-- The first fault of what is kept is that of the drawings, and an order leaves no cycle.
use Rattle.std.proofs.Common.{◌≡◌, ◌<◌, ℕ, zero, suc, ◌+◌, ℤ, pos, Bool, true, false, List, [], ◌∷◌, ◌++◌, length, take, drop, append_assoc, get_or, Option, Some, None, refl, sym, ◌∙◌, ap, subst, arith}
use Rattle.std.specs.Prelude.{All, Contains, sum_by, nat_le, slice_index}
use Rattle.std.specs.Option.{option_or, option_map}
use Rattle.std.specs.List.{AllZip}
use Rattle.std.proofs.lemmas.Bool.{le-leb, lt-leb}
use Rattle.std.proofs.lemmas.Option.{slice_get-get_or, slice_get_within, same_Some}
use Rattle.std.proofs.lemmas.List.{get_or_default, drop_more}
use Rattle.std.proofs.lemmas.List.Elements.{All-nil, All-cons, All-from_get_or, All-head, All-tail, All-contains}
use Rattle.basics.specs.declared.kinds.Kind.{Kind}
use Rattle.basics.specs.declared.kinds.Kind.TheVariants.{CoordinateRange, TooManyPoints}
use Rattle.glif.specs.declared.shape.Point.{Point}
use Rattle.glif.specs.declared.shape.Outline.{Outline}
use Rattle.glif.specs.declared.shape.Drawing.{Drawing}
use Rattle.compat.specs.References.{bases_at, Reaches, direct, onward, HasNoCycle, IsOrder}
use Rattle.compat.specs.Names.{number_of, references, dangling_in, dangling_refusal, dangling_from, first_dangling}
use Rattle.compat.specs.Flattened.{shown_count, coordinate_outside, flat_fault, HasFlatFault, refusal_of, IsFirstRefusal, dangling, cycle, flat as flat_refusal, IsFlatOutline, AreFlattened}
use Rattle.compat.specs.Flats.{IsFlatOf, AreKept, flat_contours, IsCounted, IsFew, kept_fault, fault_from, joined_outlines}
use Rattle.compat.specs.declared.refusal.Refusal.{Refusal}
use Rattle.compat.specs.declared.flat.Flat.{Flat}
use Rattle.compat.specs.declared.flat.Flat.TheVariants.{Unknown, Few, Many}
use Rattle.compat.proofs.Kept.{blank}
use Rattle.compat.proofs.Made.{stands_before, same_size}
use Rattle.compat.proofs.Marking.{reaches_known}

-- ---- no cycle

goes_back : (graph : List (List ℕ)) (order : List ℕ) → IsOrder graph order → {from to : ℕ} → Reaches graph from to → (index : ℕ) → index < length order → slice_index order index ≡ from
    → (before : ℕ) × (before < index) × (before < length order) × (slice_index order before ≡ to)
goes_back graph order is {from} {to} (direct refers) index less here =
    stands_before order index to (All-contains (Contains (take index order)) (bases_at graph (slice_index order index)) to (is.before index less) (subst (λ n. Contains (bases_at graph n) to) (sym here) refers))
goes_back graph order is {from} {to} (onward {next} refers more) index less here =
    let first = stands_before order index next (All-contains (Contains (take index order)) (bases_at graph (slice_index order index)) next (is.before index less) (subst (λ n. Contains (bases_at graph n) next) (sym here) refers)) in
    let then = goes_back graph order is more first.0 first.2 first.3 in
    (then.0, omega (arith, then.1, first.1), then.2, then.3)

never_back : (graph : List (List ℕ)) (order : List ℕ) → IsOrder graph order → (number : ℕ) → Reaches graph number number → (end index : ℕ) → index < end → index < length order → slice_index order index ≡ number → ⊥
never_back graph order is number reaches zero index less within here = omega (arith, less)
never_back graph order is number reaches (suc end) index less within here =
    let back = goes_back graph order is reaches index within here in
    never_back graph order is number reaches end back.0 (omega (arith, less, back.1)) back.2 back.3

pub no_cycle : (graph : List (List ℕ)) (order : List ℕ) → IsOrder graph order → HasNoCycle graph
no_cycle graph order is number reaches =
    let stands = is.each number (reaches_known graph reaches) in
    never_back graph order is number reaches (length order) stands.0 stands.1 stands.1 (get_or_default order stands.0 0 number stands.1 ∙ stands.2)

-- ---- faults

flat_fault_few : (contours : List (List Point)) (test : Bool) → nat_le (sum_by length contours) 4000 ≡ test → test ≡ true → flat_fault contours ≡ option_map (λ value. (CoordinateRange, value)) (coordinate_outside contours)
flat_fault_few contours test is holds = rw (is ∙ holds) refl

flat_fault_many : (contours : List (List Point)) → nat_le (sum_by length contours) 4000 ≡ false → flat_fault contours ≡ Some (TooManyPoints, pos (shown_count contours))
flat_fault_many contours is = rw is refl

has_fault : (drawings : List Drawing) (bound : ℕ) (drawing : Drawing) (flat : Flat) → IsFlatOf drawings bound drawing flat → HasFlatFault drawings drawing (kept_fault flat)
has_fault drawings bound drawing Unknown kept = absurd kept
has_fault drawings bound drawing (Few contours points) kept = record { contours = contours; flattened = kept.0; is = flat_fault_few contours _ refl (le-leb _ _ kept.1) }
has_fault drawings bound drawing (Many count) kept = record { contours = kept.0; flattened = kept.1; is = flat_fault_many kept.0 (lt-leb _ _ kept.2) ∙ ap (λ n. Some (TooManyPoints, pos n)) (sym kept.3) }

is_counted : (drawings : List Drawing) (bound : ℕ) (drawing : Drawing) (flat : Flat) → IsFlatOf drawings bound drawing flat → IsCounted flat
is_counted drawings bound drawing Unknown kept = absurd kept
is_counted drawings bound drawing (Few contours points) kept = tt
is_counted drawings bound drawing (Many count) kept = let c = kept.3 in omega (arith, c)

pub all_counted : (drawings : List Drawing) (flats : List Flat) → AreKept drawings flats → All IsCounted flats
all_counted drawings flats kept =
    All-from_get_or IsCounted flats Unknown (λ number less.
    let known : number < length drawings = omega (arith, less, kept.sizes) in
    is_counted drawings kept.bound (get_or drawings number blank) (get_or flats number Unknown) (kept.each number known (get_or drawings number blank) (slice_get-get_or drawings number blank known)))

or_none_left : {A : Type 0} (a b : Option A) → option_or a b ≡ None → a ≡ None
or_none_left None b none = refl
or_none_left (Some x) b none = cc

or_none_right : {A : Type 0} (a b : Option A) → option_or a b ≡ None → b ≡ None
or_none_right None b none = none
or_none_right (Some x) b none = cc

map_none : {A B : Type 0} (f : A → B) (a : Option A) → option_map f a ≡ None → a ≡ None
map_none f None none = refl
map_none f (Some x) none = cc

pub no_fault : (count : ℕ) (flats : List Flat) → fault_from count flats ≡ None → All (λ flat. kept_fault flat ≡ None) flats
no_fault count [] none = All-nil (λ flat. kept_fault flat ≡ None)
no_fault count (flat ∷ flats) none =
    All-cons (λ flat. kept_fault flat ≡ None) flat flats (map_none (refusal_of count) (kept_fault flat) (or_none_left _ _ none)) (no_fault (count + 1) flats (or_none_right _ _ none))

-- where the first fault is, and which
record IsFoundAt (count : ℕ) (flats : List Flat) (refusal : Refusal) : Type 0 where
  index : ℕ
  within : index < length flats
  fault : Kind × ℤ
  is : refusal ≡ refusal_of (count + index) fault
  found : kept_fault (get_or flats index Unknown) ≡ Some fault
  before : (other : ℕ) → other < index → kept_fault (get_or flats other Unknown) ≡ None

before_step : (first : Flat) (flats : List Flat) (index : ℕ) → kept_fault first ≡ None → ((other : ℕ) → other < index → kept_fault (get_or flats other Unknown) ≡ None)
    → (other : ℕ) → other < suc index → kept_fault (get_or (first ∷ flats) other Unknown) ≡ None
before_step first flats index none before zero less = none
before_step first flats index none before (suc other) less = before other (omega (arith, less))

found_step : (count : ℕ) (first : Flat) (flats : List Flat) (refusal : Refusal) → (fault_from (count + 1) flats ≡ Some refusal → IsFoundAt (count + 1) flats refusal)
    → (fault : Option (Kind × ℤ)) → kept_fault first ≡ fault → option_or (option_map (refusal_of count) fault) (fault_from (count + 1) flats) ≡ Some refusal → IsFoundAt count (first ∷ flats) refusal
found_step count first flats refusal more (Some fault) is some = record {
  index = 0;
  within = omega arith;
  fault = fault;
  is = sym (same_Some _ _ some) ∙ ap (λ n. refusal_of n fault) (omega arith);
  found = is;
  before = λ other less. absurd (omega (arith, less));
}
found_step count first flats refusal more None is some =
    let rest = more some in
    let less = rest.within in
    record {
      index = suc rest.index;
      within = omega (arith, less);
      fault = rest.fault;
      is = rest.is ∙ ap (λ n. refusal_of n rest.fault) (omega arith);
      found = rest.found;
      before = λ other less. before_step first flats rest.index is rest.before other less;
    }

found_at : (count : ℕ) (flats : List Flat) (refusal : Refusal) → fault_from count flats ≡ Some refusal → IsFoundAt count flats refusal
found_at count [] refusal some = cc
found_at count (first ∷ flats) refusal some = found_step count first flats refusal (found_at (count + 1) flats refusal) (kept_fault first) refl some

pub first_refusal : (drawings : List Drawing) (flats : List Flat) (refusal : Refusal) → AreKept drawings flats → first_dangling drawings ≡ None → HasNoCycle (references drawings) → fault_from 0 flats ≡ Some refusal → IsFirstRefusal drawings refusal
first_refusal drawings flats refusal kept none acyclic some =
    let at = found_at 0 flats refusal some in
    let within = at.within in
    let known : at.index < length drawings = omega (arith, within, kept.sizes) in
    let here = slice_get-get_or drawings at.index blank known in
    let number : 0 + at.index ≡ at.index = omega arith in
    subst (IsFirstRefusal drawings) (sym (at.is ∙ ap (λ n. refusal_of n at.fault) number))
    (flat_refusal none acyclic here
    (subst (HasFlatFault drawings (get_or drawings at.index blank)) at.found (has_fault drawings kept.bound (get_or drawings at.index blank) (get_or flats at.index Unknown) (kept.each at.index known (get_or drawings at.index blank) here)))
    (λ other drawing less stands. subst (HasFlatFault drawings drawing) (at.before other less)
    (has_fault drawings kept.bound drawing (get_or flats other Unknown) (kept.each other (slice_get_within drawings other drawing stands) drawing stands))))

-- ---- the outlines

few_of : (drawings : List Drawing) (bound : ℕ) (drawing : Drawing) (flat : Flat) → IsFlatOf drawings bound drawing flat → kept_fault flat ≡ None → IsFew flat
few_of drawings bound drawing Unknown kept none = absurd kept
few_of drawings bound drawing (Few contours points) kept none = tt
few_of drawings bound drawing (Many count) kept none = cc

pub all_few : (drawings : List Drawing) (flats : List Flat) → AreKept drawings flats → fault_from 0 flats ≡ None → All IsFew flats
all_few drawings flats kept none =
    All-from_get_or IsFew flats Unknown (λ number less.
    let known : number < length drawings = omega (arith, less, kept.sizes) in
    few_of drawings kept.bound (get_or drawings number blank) (get_or flats number Unknown) (kept.each number known (get_or drawings number blank) (slice_get-get_or drawings number blank known)) (no_fault 0 flats none number Unknown less))

flat_outline : (drawings : List Drawing) (bound : ℕ) (drawing : Drawing) (flat : Flat) → IsFlatOf drawings bound drawing flat → kept_fault flat ≡ None → IsFlatOutline drawings drawing (record { advance = drawing.outline.advance; contours = flat_contours flat })
flat_outline drawings bound drawing Unknown kept none = absurd kept
flat_outline drawings bound drawing (Few contours points) kept none = record { advance = refl; flattened = kept.0; within = flat_fault_few contours _ refl (le-leb _ _ kept.1) ∙ none }
flat_outline drawings bound drawing (Many count) kept none = cc

zip_outlines : (all : List Drawing) (bound : ℕ) (drawings : List Drawing) (flats : List Flat) → length flats ≡ length drawings
    → ((number : ℕ) → number < length drawings → IsFlatOf all bound (get_or drawings number blank) (get_or flats number Unknown)) → All (λ flat. kept_fault flat ≡ None) flats
    → AllZip (IsFlatOutline all) drawings (joined_outlines drawings flats)
zip_outlines all bound [] [] same kept none = tt
zip_outlines all bound [] (flat ∷ flats) same kept none = cc
zip_outlines all bound (drawing ∷ drawings) [] same kept none = cc
zip_outlines all bound (drawing ∷ drawings) (flat ∷ flats) same kept none = (
  flat_outline all bound drawing flat (kept 0 (omega arith)) (All-head (λ flat. kept_fault flat ≡ None) flat flats none),
  zip_outlines all bound drawings flats (omega (arith, same)) (λ number less. kept (suc number) (omega (arith, less))) (All-tail (λ flat. kept_fault flat ≡ None) flat flats none),
)

pub are_flattened : (drawings : List Drawing) (flats : List Flat) (outlines : List Outline) → AreKept drawings flats → first_dangling drawings ≡ None → HasNoCycle (references drawings) → fault_from 0 flats ≡ None → outlines ≡ joined_outlines drawings flats → AreFlattened drawings outlines
are_flattened drawings flats outlines kept none acyclic clean is = record {
  none_dangling = none;
  no_cycle = acyclic;
  each = subst (AllZip (IsFlatOutline drawings) drawings) (sym is)
      (zip_outlines drawings kept.bound drawings flats kept.sizes (λ number less. kept.each number less (get_or drawings number blank) (slice_get-get_or drawings number blank less)) (no_fault 0 flats clean));
}

-- ---- taking one after the other

pub outlines_more : (drawings : List Drawing) (i : ℕ) (drawing : Drawing) (kept : Flat) (flats rest : List Flat) (outlines new_outlines whole : List Outline) (outline : Outline) (contours : List (List Point)) → i < length drawings → drawing ≡ get_or drawings i drawing → flats ≡ kept ∷ rest
    → contours ≡ flat_contours kept → outline ≡ record { advance = drawing.outline.advance; contours = contours } → outlines ++ joined_outlines (drop i drawings) flats ≡ whole → new_outlines ≡ outlines ++ outline ∷ []
    → new_outlines ++ joined_outlines (drop (i + 1) drawings) rest ≡ whole
outlines_more drawings i drawing kept flats rest outlines new_outlines whole outline contours less is next contours_are outline_is before longer =
    let here : drop i drawings ≡ drawing ∷ drop (i + 1) drawings = drop_more drawings i drawing less ∙ ap (λ (d : Drawing). d ∷ drop (i + 1) drawings) (sym is) in
    let both = subst (λ f. outlines ++ joined_outlines (drawing ∷ drop (i + 1) drawings) f ≡ whole) next (subst (λ d. outlines ++ joined_outlines d flats ≡ whole) here before) in
    rw (longer, outline_is, contours_are, append_assoc) both

pub first_few : (kept : Flat) (flats rest : List Flat) → flats ≡ kept ∷ rest → All IsFew flats → IsFew kept × All IsFew rest
first_few kept flats rest next few = let all = subst (All IsFew) next few in (All-head IsFew kept rest all, All-tail IsFew kept rest all)

-- ---- which drawing has the fault

dangling_known_step : (count rest : ℕ) (refusal : Refusal) (found : Option ℕ) (more : Option Refusal) → (more ≡ Some refusal → refusal.drawing < count + 1 + rest) → option_or (option_map (dangling_refusal count) found) more ≡ Some refusal → refusal.drawing < count + suc rest
dangling_known_step count rest refusal (Some index) more less some = let is = ap (λ (r : Refusal). r.drawing) (same_Some _ _ some) in omega (arith, is)
dangling_known_step count rest refusal None more less some = let l = less some in omega (arith, l)

dangling_known : (number : List ℕ → Option ℕ) (count : ℕ) (drawings : List Drawing) (refusal : Refusal) → dangling_from number count drawings ≡ Some refusal → refusal.drawing < count + length drawings
dangling_known number count [] refusal some = cc
dangling_known number count (drawing ∷ drawings) refusal some =
    dangling_known_step count (length drawings) refusal (dangling_in number drawing) (dangling_from number (count + 1) drawings) (dangling_known number (count + 1) drawings refusal) some

pub refusal_known : (drawings : List Drawing) (refusal : Refusal) → IsFirstRefusal drawings refusal → refusal.drawing < length drawings
refusal_known drawings refusal (dangling found) = let less = dangling_known (number_of drawings) 0 drawings refusal found in omega (arith, less)
refusal_known drawings refusal (cycle none first) = let less = reaches_known (references drawings) first.on_cycle in let sizes = same_size drawings (references drawings) refl in omega (arith, less, sizes)
refusal_known drawings refusal (flat_refusal {number} {drawing} none acyclic stands fault before) = slice_get_within drawings number drawing stands
