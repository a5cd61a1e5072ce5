-- Gathering the masters of a glyph.
use Rattle.std.proofs.Common.{◌≡◌, ℕ, zero, suc, ℤ, All, Option, Some, None, Ok, Err, subst, ◌+◌, ◌<◌, ◌≤◌, ◌≢◌, List, [], ◌∷◌, ◌++◌, length, map, take, drop, get_or, add-one, drop-cons, refl, sym, ◌∙◌, ap, arith}
use Rattle.std.specs.List.{AllPairs}
use Rattle.std.specs.Prelude.{nat_eq}
use Rattle.std.proofs.lemmas.Bool.Decides.{Decides-eqb, nat_tests}
use Rattle.std.proofs.lemmas.List.{get_or_default, take_more, map-append, length-map, get_or-map}
use Rattle.std.proofs.lemmas.Map.Keys.{IsDistinct-IsPermutation}
use Rattle.std.proofs.lemmas.Map.Made.{AllPairs-from_IsDistinct, IsDistinct-from_AllPairs}
use Rattle.variation_rules.specs.PackedPoints.{count_from}
use Rattle.arrayvec.specs.ArrayVec.{ArrayVec, array_vec_len}
use Rattle.region_support.specs.Coordinates.{coordinates_of}
use Rattle.region_support.specs.MasterOrder.{axes_of}
use Rattle.region_support.specs.Sorting.{IsOrder}
use Rattle.glif.specs.Shapes.{contour_kinds}
use Rattle.delta_solve.specs.GlyphModels.{default_of}
use Rattle.glif.specs.Limits.{IsWithinLimits}
use Rattle.basics.specs.Reading.{◌>>=◌}
use Rattle.region_support.specs.Sorting.{location_at, locations_at}
use Rattle.region_support.specs.Regions.{AreNormalisedLocations}
use Rattle.region_support.proofs.LocationLemmas.{number_below, order_length, ordered_masters, ordered_normalised}
use Rattle.compat.specs.Differences.{outline_difference}
use Rattle.compat.specs.declared.compared.Difference.{Difference}
use Rattle.compat.proofs.Alike.{none_alike}
use Rattle.commands.specs.Proper.{AreLocated, locations_of_drawings}
use Rattle.vfb.specs.Making.{shown}
use Rattle.source_files.specs.Stops.{StopsBy}
use Rattle.source_files.specs.declared.stop.ReadStop.{ReadStop}
use Rattle.source_files.specs.declared.stop.ReadStop.TheVariants.{Refused, ReadFault, NoMemory}
use Rattle.commands.specs.Command.{Located}
use Rattle.glif.specs.declared.shape.Outline.{Outline}
use Rattle.glif.specs.declared.shape.Drawing.{Drawing}
use Rattle.vfb.specs.Masters.{Masters, AreGathered, ordered, difference_fault, all_alike, drawing_numbered, default_drawing, nothing_drawn, masters_in, gathered}
use Rattle.commands.specs.Words.{seen}
use Rattle.commands.specs.declared.located.Located as words
use Rattle.vfb.specs.declared.masters.Masters as code

-- ---- lists that grow by one item

-- one item more is seen as that of the list it is taken from
pub pushed_as : {A B C : Type 0} (f : A → C) (g : B → C) (xs : List A) (i : ℕ) (d x : A) (prefix new : List B) (y : B) → i < length xs → x ≡ get_or xs i d → g y ≡ f x
    → map g prefix ≡ map f (take i xs) → new ≡ prefix ++ (y ∷ []) → map g new ≡ map f (take (i + 1) xs)
pushed_as f g xs i d x prefix new y below is same before grown =
    ap (map g) grown ∙ (map-append g prefix (y ∷ [])
    ∙ (ap (λ items. items ++ (g y ∷ [])) before ∙ (ap (λ z. map f (take i xs) ++ (z ∷ [])) (same ∙ ap f is)
    ∙ sym (ap (map f) (take_more xs i d below) ∙ map-append f (take i xs) (get_or xs i d ∷ [])))))

map_map : {A B C : Type 0} (f : A → B) (g : B → C) (xs : List A) → map g (map f xs) ≡ map (λ x. g (f x)) xs
map_map f g [] = refl
map_map f g (x ∷ xs) = ap (λ rest. g (f x) ∷ rest) (map_map f g xs)

-- the locations of the drawings as the words name them
pub locations_seen : (drawings : List words.Located) → map (λ (one : words.Located). one.at.items) drawings ≡ locations_of_drawings (map seen drawings)
locations_seen drawings = sym (map_map seen (λ (one : Located). one.at) drawings)

-- every location has as many axes as the first
pub locations_on_axes : (listed : List (ArrayVec ℤ)) (drawings : List Located) → coordinates_of listed ≡ locations_of_drawings drawings
    → All (λ (located : Located). length located.at ≡ axes_of (locations_of_drawings drawings)) drawings → All (λ at. array_vec_len at ≡ axes_of (coordinates_of listed)) listed
locations_on_axes listed drawings same on_axes k at below =
    let none : Located = record { path = []; at = [] } in
    let inside : k < length drawings = omega (arith, simp length-map at (ap length same)) in
    let here : (get_or listed k at).items ≡ (get_or drawings k none).at =
    sym (get_or-map (λ (at : ArrayVec ℤ). at.items) listed k at [] below) ∙ (ap (λ (all : List (List ℤ)). get_or all k []) same ∙ get_or-map (λ (located : Located). located.at) drawings k none [] inside) in
    ap length here ∙ (on_axes k none inside ∙ ap axes_of (sym same))

pub locations_few : (listed : List (ArrayVec ℤ)) (drawings : List Located) → coordinates_of listed ≡ locations_of_drawings drawings → length listed ≡ length drawings
locations_few listed drawings same = simp length-map at (ap length same)

-- ---- drawings like the default

-- nothing placed
abbrev unlocated : words.Located
unlocated = record { path = record { ref_ptr = (0, 0); now = [] }; at = record { items = [] } }

-- a drawing more is like it
pub alike_step : (default : Drawing) (located : List words.Located) (drawings : List Drawing) (i : ℕ) (drawing : Drawing) → i < length located → i < length drawings → drawing ≡ get_or drawings i drawing
    → outline_difference default.outline drawing.outline ≡ None
    → all_alike default (map seen (drop i located)) (drop i drawings) ≡ all_alike default (map seen (drop (i + 1) located)) (drop (i + 1) drawings)
alike_step default located drawings i drawing below inside is alike =
    rw (add-one, drop-cons located i unlocated below, drop-cons drawings i drawing inside, ← is, alike) refl

all_alike_head : (default : Drawing) (one : Located) (drawing : Drawing) (more : List Located) (others : List Drawing) (found : Option Difference) → outline_difference default.outline drawing.outline ≡ found
    → all_alike default (one ∷ more) (drawing ∷ others) ≡ Ok tt → (found ≡ None) × (all_alike default more others ≡ Ok tt)
all_alike_head default one drawing more others None is passed = (refl, rw is at passed)
all_alike_head default one drawing more others (Some difference) is passed =
    absurd (let none : Err (difference_fault default.name one.path difference) ≡ Ok tt = rw is at passed in cc)

-- where none is refused, all have the kinds of the default
pub kinds_of_all : (default : Drawing) (located : List Located) (drawings : List Drawing) → length drawings ≡ length located → all_alike default located drawings ≡ Ok tt
    → All (λ (drawing : Drawing). contour_kinds drawing.outline ≡ contour_kinds default.outline) drawings
kinds_of_all default located [] same passed k d below = absurd (omega arith)
kinds_of_all default [] (drawing ∷ others) same passed k d below = absurd (omega arith)
kinds_of_all default (one ∷ more) (drawing ∷ others) same passed zero d below =
    let head = all_alike_head default one drawing more others (outline_difference default.outline drawing.outline) refl passed in
    sym (none_alike default.outline drawing.outline head.0)
kinds_of_all default (one ∷ more) (drawing ∷ others) same passed (suc k) d below =
    kinds_of_all default more others (omega arith) (all_alike_head default one drawing more others (outline_difference default.outline drawing.outline) refl passed).1 k d (omega arith)

-- ---- the masters in their order

-- there is a first master
pub first_number : (listed : List (List ℤ)) (order : List ℕ) → IsOrder listed order → 0 < length order
first_number listed [] is = absurd is.rising.default_first
first_number listed (number ∷ order) is = omega arith

-- the outline of the drawing of this number
abbrev outline_numbered : List Drawing → ℕ → Outline
outline_numbered drawings number = (drawing_numbered drawings number).outline

-- what holds of all drawings holds of the outlines in any order
all_outlines : (P : Outline → Type 0) (drawings : List Drawing) (order : List ℕ) → All (λ number. number < length drawings) order → All (λ (drawing : Drawing). P drawing.outline) drawings
    → All P (map (outline_numbered drawings) order)
all_outlines P drawings order below each k d inside =
    let number : k < length order = omega (arith, simp length-map at inside) in
    subst P (sym (get_or-map (outline_numbered drawings) order k 0 d number))
    (each (get_or order k 0) nothing_drawn (below k 0 number))

-- the default's outline among those in order
pub default_outline_is : (drawings : List Drawing) (order : List ℕ) → 0 < length order → default_of (map (outline_numbered drawings) order) ≡ (default_drawing drawings order).outline
default_outline_is drawings order some = get_or-map (outline_numbered drawings) order 0 0 _ some

-- the drawing of the first number is the default's
pub default_is : (drawings : List Drawing) (order numbers : List ℕ) (d : Drawing) → numbers ≡ order → get_or numbers 0 0 < length drawings
    → get_or drawings (get_or numbers 0 0) d ≡ default_drawing drawings order
default_is drawings order numbers d same below =
    get_or_default drawings (get_or numbers 0 0) d nothing_drawn below ∙ ap (λ numbers. get_or drawings (get_or numbers 0 0) nothing_drawn) same

-- and so where the drawings are borrowed
pub default_among : (borrowed drawings : List Drawing) (order numbers : List ℕ) (default : Drawing) → borrowed ≡ drawings → default ≡ get_or borrowed (get_or numbers 0 0) default
    → numbers ≡ order → get_or numbers 0 0 < length drawings → default ≡ default_drawing drawings order
default_among borrowed drawings order numbers default same is same_numbers below =
    is ∙ (ap (λ (all : List Drawing). get_or all (get_or numbers 0 0) default) same ∙ default_is drawings order numbers default same_numbers below)

-- what is gathered, once the locations are in order
gathered_by : (located : List Located) (drawings : List Drawing) (listed : List (List ℤ)) (order : List ℕ) (default : Drawing)
    → listed ≡ locations_of_drawings located → ordered listed ≡ Ok order → default ≡ default_drawing drawings order
    → gathered located drawings ≡ (all_alike default located drawings >>= λ _. Ok (masters_in listed drawings order))
gathered_by located drawings listed order default same is first = rw (← same, is, first) refl

-- a drawing that isn't like the default is refused
pub gathered_stop : (located : List Located) (drawings : List Drawing) (listed : List (List ℤ)) (order : List ℕ) (default : Drawing) (stop : ReadStop)
    → listed ≡ locations_of_drawings located → ordered listed ≡ Ok order → default ≡ default_drawing drawings order
    → StopsBy stop (all_alike default located drawings) → StopsBy stop (gathered located drawings)
gathered_stop located drawings listed order default (Refused fault) same is first alike = gathered_by located drawings listed order default same is first ∙ rw alike refl
gathered_stop located drawings listed order default (ReadFault path) same is first alike = tt
gathered_stop located drawings listed order default NoMemory same is first alike = tt

-- and else these are the masters
pub gathered_ok : (located : List Located) (drawings : List Drawing) (listed : List (List ℤ)) (order : List ℕ) (default : Drawing) (masters : Masters)
    → listed ≡ locations_of_drawings located → ordered listed ≡ Ok order → default ≡ default_drawing drawings order
    → all_alike default located drawings ≡ Ok tt → masters ≡ masters_in listed drawings order → gathered located drawings ≡ Ok masters
gathered_ok located drawings listed order default masters same is first alike are = gathered_by located drawings listed order default same is first ∙ rw alike (ap Ok (sym are))

-- ---- what holds of them

axes_in_order : (listed : List (List ℤ)) (order : List ℕ) → IsOrder listed order → axes_of (locations_at listed order) ≡ axes_of listed
axes_in_order listed [] is = absurd is.rising.default_first
axes_in_order listed (number ∷ order) is = is.rising.equal_lengths.0

pub are_gathered : (located : List Located) (drawings : List Drawing) (listed : List (List ℤ)) (order : List ℕ) (default : Drawing) (masters : Masters)
    → AreLocated located → length drawings ≡ length located → All (λ (drawing : Drawing). IsWithinLimits drawing.outline) drawings
    → listed ≡ locations_of_drawings located → IsOrder listed order → default ≡ default_drawing drawings order
    → all_alike default located drawings ≡ Ok tt → masters ≡ masters_in listed drawings order → AreGathered masters
are_gathered located drawings listed order default masters are same_count within same is first alike made =
    let count : length listed ≡ length located = ap length same ∙ length-map located (λ (one : Located). one.at) in
    let below : All (λ number. number < length drawings) order = λ k d inside. omega (arith, number_below listed order is k d inside) in
    let axes : axes_of (locations_at listed order) ≡ axes_of (locations_of_drawings located) = axes_in_order listed order is ∙ ap axes_of same in
    let default_outline : default_of (map (outline_numbered drawings) order) ≡ default.outline = default_outline_is drawings order (first_number listed order is) ∙ ap (λ (drawing : Drawing). drawing.outline) (sym first) in
    subst AreGathered (sym made) (record {
      ordered = ordered_masters listed order is;
      some_axes = omega (arith, are.some_axes);
      few_axes = omega (arith, are.few_axes);
      normalised = ordered_normalised listed order is (subst AreNormalisedLocations (sym same) are.normalised);
      few = omega (arith, are.few, order_length listed order is);
      one_each = length-map order (outline_numbered drawings) ∙ sym (length-map order (location_at listed));
      within = all_outlines IsWithinLimits drawings order below within;
      alike = subst (λ outline. All (λ other. contour_kinds other ≡ contour_kinds outline) (map (outline_numbered drawings) order)) (sym default_outline)
          (all_outlines (λ other. contour_kinds other ≡ contour_kinds default.outline) drawings order below (kinds_of_all default located drawings same_count alike));
    })

-- each number is that of a drawing
pub numbers_below : (listed : List (ArrayVec ℤ)) (drawings : List Drawing) (order numbers : List ℕ) → numbers ≡ order → IsOrder (coordinates_of listed) order → length drawings ≡ length listed
    → All (λ number. number < length drawings) numbers
numbers_below listed drawings order numbers same is count =
    subst (All (λ number. number < length drawings)) (sym same) (λ k d inside. omega (arith, number_below (coordinates_of listed) order is k d inside, length-map listed (λ (at : ArrayVec ℤ). at.items)))

-- masters as contracts see them are those that were gathered
pub shown_is : (masters : code.Masters) (listed : List (List ℤ)) (drawings : List Drawing) (order numbers : List ℕ) (d : Drawing) → coordinates_of masters.locations ≡ locations_at listed order
    → numbers ≡ order → get_or numbers 0 0 < length drawings → masters.name ≡ (get_or drawings (get_or numbers 0 0) d).name
    → masters.outlines ≡ map (outline_numbered drawings) numbers → shown masters ≡ masters_in listed drawings order
shown_is masters listed drawings order numbers d sorted same below named drawn =
    let name : masters.name ≡ (default_drawing drawings order).name = named ∙ ap (λ (drawing : Drawing). drawing.name) (default_is drawings order numbers d same below) in
    let outlines : masters.outlines ≡ map (outline_numbered drawings) order = drawn ∙ ap (map (outline_numbered drawings)) same in
    λ i. record { name = name i; locations = sorted i; outlines = outlines i }

-- and so is the first
pub first_below : (listed : List (ArrayVec ℤ)) (drawings : List Drawing) (order numbers : List ℕ) → numbers ≡ order → IsOrder (coordinates_of listed) order → length drawings ≡ length listed
    → get_or numbers 0 0 < length drawings
first_below listed drawings order numbers same is count =
    numbers_below listed drawings order numbers same is count 0 0 (omega (arith, ap length same, first_number (coordinates_of listed) order is))

-- there are as many drawings as locations
pub one_location_each : (listed : List (ArrayVec ℤ)) (located : List words.Located) (drawings : List Drawing) → coordinates_of listed ≡ locations_of_drawings (map seen located) → length drawings ≡ length located
    → length drawings ≡ length listed
one_location_each listed located drawings same count = omega (arith, count, locations_few listed (map seen located) same, length-map located seen)

-- ---- outlines that are moved out of their drawings

-- numbers that count up differ
count_length : (n first : ℕ) → length (count_from n first) ≡ n
count_length zero first = refl
count_length (suc n) first = ap suc (count_length n (first + 1))

counted : (n first k d : ℕ) → k < n → get_or (count_from n first) k d ≡ first + k
counted zero first k d below = absurd (omega arith)
counted (suc n) first zero d below = omega arith
counted (suc n) first (suc k) d below = counted n (first + 1) k d (omega arith) ∙ omega arith

count_apart : (n : ℕ) → AllPairs (λ first second. first ≢ second) (count_from n 0)
count_apart n i j d before inside same =
    let below : j < n = omega (arith, count_length n 0) in
    absurd (omega (arith, counted n 0 i d (omega arith), counted n 0 j d below, same))

flipped : (x y : ℕ) → nat_eq x y ≡ nat_eq y x
flipped x y = grind (arith, nat_tests)

-- no number stands twice in an order
pub numbers_apart : (listed : List (List ℤ)) (order : List ℕ) → IsOrder listed order → AllPairs (λ first second. first ≢ second) order
numbers_apart listed order is =
    let numbers = count_from (length listed) 0 in
    AllPairs-from_IsDistinct Decides-eqb order
    (IsDistinct-IsPermutation nat_eq flipped numbers order is.all (IsDistinct-from_AllPairs Decides-eqb numbers (count_apart (length listed))))

-- the drawings whose numbers come from this place on have their outlines still
abbrev pub AreLeft : List Drawing → List Drawing → List ℕ → ℕ → Type 0
AreLeft old new order i = (k : ℕ) → i ≤ k → k < length order → outline_numbered new (get_or order k 0) ≡ outline_numbered old (get_or order k 0)
