-- What holds of names in glyph order.
use Rattle.std.proofs.Common.{◌≡◌, ◌<◌, ◌≤◌, ◌≢◌, ℕ, zero, suc, ◌+◌, Bool, true, false, cond, if◌then◌else◌, ◌||◌, List, [], ◌∷◌, ◌++◌, length, get_or, Option, Some, None, refl, sym, ◌∙◌, ap, subst, arith}
use Rattle.std.specs.List.{AllByRecursion, IsDistinct, filter, list_any, position_from}
use Rattle.std.specs.Prelude.{All, slice_get}
use Rattle.std.specs.Option.{is_some}
use Rattle.std.specs.Str.{bytes_eq}
use Rattle.std.specs.Cmp.{IsEquivalence}
use Rattle.std.proofs.Math.Bool.{or-true}
use Rattle.std.proofs.lemmas.Slice.Eq.{bytes_eq-Decides}
use Rattle.std.proofs.lemmas.List.Elements.{recursion_from_All}
use Rattle.std.proofs.lemmas.Map.Made.{IsDistinct-from_AllPairs, length-le_from_is_member}
use Rattle.outside.proofs.Puts.{bytes_eq-same, bytes_eq-other}
use Rattle.font_sources.specs.GlyphOrder.{is_among, listed_names, names_in_order, notdef, with_name, with_names}
use Rattle.font_sources.specs.Naming.{position_of}
use Rattle.font_sources.proofs.Pairs.{Pairs, all_append, all_such, pairs_append, pairs_to}

-- ---- where a name is found

-- the position of the first item that passes, counted on from n
pub record IsPlace {X : Type 0} (p : X → Bool) (n : ℕ) (xs : List X) (i : ℕ) : Type 0 where
  pub at : ℕ
  pub below : at < length xs
  pub is : i ≡ n + at
  pub passes : (d : X) → p (get_or xs at d) ≡ true

placed : {X : Type 0} (p : X → Bool) (n : ℕ) (x : X) (xs : List X) (i : ℕ) (here : Bool) → p x ≡ here
    → (position_from p (n + 1) xs ≡ Some i → IsPlace p (n + 1) xs i) → cond here (Some n) (position_from p (n + 1) xs) ≡ Some i → IsPlace p n (x ∷ xs) i
placed p n x xs i true is later found = let same : n ≡ i = cc in record { at = 0; below = omega arith; is = omega (arith, same); passes = λ d. is }
placed p n x xs i false is later found =
    let rest = later found in
    record { at = suc rest.at; below = omega (arith, rest.below); is = omega (arith, rest.is); passes = λ d. rest.passes d }

pub place_of : {X : Type 0} (p : X → Bool) (n : ℕ) (xs : List X) (i : ℕ) → position_from p n xs ≡ Some i → IsPlace p n xs i
place_of p n [] i found = absurd cc
place_of p n (x ∷ xs) i found = placed p n x xs i (p x) refl (place_of p (n + 1) xs i) found

any_if : (here : Bool) (n : ℕ) (rest : Option ℕ) (any : Bool) → is_some rest ≡ any → is_some (cond here (Some n) rest) ≡ (here || any)
any_if true n rest any is = refl
any_if false n rest any is = is

pub any_place : {X : Type 0} (p : X → Bool) (n : ℕ) (xs : List X) → is_some (position_from p n xs) ≡ list_any p xs
any_place p n [] = refl
any_place p n (x ∷ xs) = any_if (p x) n (position_from p (n + 1) xs) (list_any p xs) (any_place p (n + 1) xs)

any_here : {X : Type 0} (p : X → Bool) (xs : List X) (k : ℕ) (d : X) → k < length xs → p (get_or xs k d) ≡ true → list_any p xs ≡ true
any_here p [] k d below is = absurd (omega arith)
any_here p (x ∷ xs) zero d below is = ap (λ b. b || list_any p xs) is
any_here p (x ∷ xs) (suc k) d below is = ap (λ b. p x || b) (any_here p xs k d (omega arith) is) ∙ or-true (p x)

-- a name among others is one of them
pub record IsFound (names : List (List ℕ)) (name : List ℕ) : Type 0 where
  pub at : ℕ
  pub below : at < length names
  pub is : position_of names name ≡ Some at
  pub named : get_or names at [] ≡ name

found_at : (names : List (List ℕ)) (name : List ℕ) (position : Option ℕ) → position_of names name ≡ position → is_some position ≡ true → IsFound names name
found_at names name None is some = absurd cc
found_at names name (Some i) is some =
    let place = place_of (λ other. bytes_eq other name) 0 names i is in
    let at : i ≡ place.at = omega (arith, place.is) in
    record { at = place.at; below = place.below; is = is ∙ ap (λ n. Some n) at; named = (bytes_eq-Decides (get_or names place.at []) name).0 (place.passes []) }

abbrev pub IsAmong : List (List ℕ) → List ℕ → Type 0
IsAmong names name = is_among names name ≡ true

pub found : (names : List (List ℕ)) (name : List ℕ) → IsAmong names name → IsFound names name
found names name among = found_at names name (position_of names name) refl among

among_all : (names : List (List ℕ)) → All (IsAmong names) names
among_all names k d below =
    any_place (λ other. bytes_eq other (get_or names k d)) 0 names
    ∙ any_here (λ other. bytes_eq other (get_or names k d)) names k d below (bytes_eq-same (get_or names k d))

-- ---- what holds of the names that are put after one another

all_if : (P : List ℕ → Type 0) (done : List (List ℕ)) (name : List ℕ) (known : Bool) → AllByRecursion P done → P name → AllByRecursion P (if known then done else done ++ name ∷ [])
all_if P done name true each here = each
all_if P done name false each here = all_append P done (name ∷ []) each (here, tt)

all_names : (P : List ℕ → Type 0) (done more : List (List ℕ)) → AllByRecursion P done → AllByRecursion P more → AllByRecursion P (with_names done more)
all_names P done [] each later = each
all_names P done (name ∷ more) each later = all_names P (with_name done name) more (all_if P done name (list_any (bytes_eq name) done) each later.0) later.1

filter_if : {X : Type 0} (p : X → Bool) (x : X) (xs : List X) (here : Bool) → p x ≡ here → AllByRecursion (λ x. p x ≡ true) xs → AllByRecursion (λ x. p x ≡ true) (cond here (x ∷ xs) xs)
filter_if p x xs true is each = (is, each)
filter_if p x xs false is each = each

all_filter : {X : Type 0} (p : X → Bool) (xs : List X) → AllByRecursion (λ x. p x ≡ true) (filter p xs)
all_filter p [] = tt
all_filter p (x ∷ xs) = filter_if p x (filter p xs) (p x) refl (all_filter p xs)

-- each is the name of a glyph
pub order_among : (order names : List (List ℕ)) → AllByRecursion (IsAmong names) (names_in_order order names)
order_among order names =
    all_names (IsAmong names) (listed_names order names) names
    (all_names (IsAmong names) [] (filter (is_among names) (notdef ∷ order)) tt (all_filter (is_among names) (notdef ∷ order)))
    (recursion_from_All (IsAmong names) names (among_all names))

-- ---- each stands once

or_parts : (a b : Bool) → (a || b) ≡ false → (a ≡ false) × (b ≡ false)
or_parts true b is = absurd cc
or_parts false b is = (refl, is)

not_any : (name : List ℕ) (names : List (List ℕ)) → list_any (bytes_eq name) names ≡ false → AllByRecursion (λ other. (other ≢ name) × Unit {0}) names
not_any name [] is = tt
not_any name (other ∷ names) is =
    let parts = or_parts (bytes_eq name other) (list_any (bytes_eq name) names) is in
    (((λ same. let here : bytes_eq name other ≡ true = (bytes_eq-Decides name other).1 (sym same) in let not : bytes_eq name other ≡ false = parts.0 in cc), tt), not_any name names parts.1)

once_if : (done : List (List ℕ)) (name : List ℕ) (known : Bool) → list_any (bytes_eq name) done ≡ known → Pairs (λ a b. a ≢ b) done → Pairs (λ a b. a ≢ b) (if known then done else done ++ name ∷ [])
once_if done name true is pairs = pairs
once_if done name false is pairs = pairs_append (λ a b. a ≢ b) done (name ∷ []) pairs (tt, tt) (not_any name done is)

once_names : (done more : List (List ℕ)) → Pairs (λ a b. a ≢ b) done → Pairs (λ a b. a ≢ b) (with_names done more)
once_names done [] pairs = pairs
once_names done (name ∷ more) pairs = once_names (with_name done name) more (once_if done name (list_any (bytes_eq name) done) refl pairs)

pub order_once : (order names : List (List ℕ)) → Pairs (λ a b. a ≢ b) (names_in_order order names)
order_once order names = once_names (listed_names order names) names (once_names [] (filter (is_among names) (notdef ∷ order)) tt)

-- ---- they are as few as the names

same_tests : (a b : List ℕ) (test : Bool) → bytes_eq a b ≡ test → bytes_eq b a ≡ test
same_tests a b true is = (bytes_eq-Decides b a).1 (sym ((bytes_eq-Decides a b).0 is))
same_tests a b false is = bytes_eq-other b a (λ same. let here : bytes_eq a b ≡ true = (bytes_eq-Decides a b).1 (sym same) in cc)

bytes_eq_turned : (a b : List ℕ) → bytes_eq a b ≡ bytes_eq b a
bytes_eq_turned a b = sym (same_tests a b (bytes_eq a b) refl)

bytes_eq_laws : IsEquivalence bytes_eq
bytes_eq_laws = record {
  refl = bytes_eq-same;
  symm = bytes_eq_turned;
  congr = λ x y z same. ap (λ a. bytes_eq a z) ((bytes_eq-Decides x y).0 same);
}

such_if : (P : List ℕ → Type 0) (q name : List ℕ) (names : List (List ℕ)) (here : Bool) → bytes_eq q name ≡ here → P name → (list_any (bytes_eq q) names ≡ true → P q) → (here || list_any (bytes_eq q) names) ≡ true → P q
such_if P q name names true is such later any = subst P (sym ((bytes_eq-Decides q name).0 is)) such
such_if P q name names false is such later any = later any

such_member : (P : List ℕ → Type 0) (q : List ℕ) (names : List (List ℕ)) → AllByRecursion P names → list_any (bytes_eq q) names ≡ true → P q
such_member P q [] each any = absurd cc
such_member P q (name ∷ names) each any = such_if P q name names (bytes_eq q name) refl each.0 (such_member P q names each.1) any

among_member : (names : List (List ℕ)) (q : List ℕ) → IsAmong names q → list_any (bytes_eq q) names ≡ true
among_member names q among =
    ap (λ (p : List ℕ → Bool). list_any p names) (λ i other. bytes_eq_turned q other i)
    ∙ (sym (any_place (λ other. bytes_eq other q) 0 names) ∙ among)

pub order_few : (order names : List (List ℕ)) → length (names_in_order order names) ≤ length names
order_few order names =
    length-le_from_is_member bytes_eq_laws (names_in_order order names) names
    (IsDistinct-from_AllPairs bytes_eq-Decides (names_in_order order names) (pairs_to (λ a b. a ≢ b) (names_in_order order names) (order_once order names)))
    (λ q member. among_member names q (such_member (IsAmong names) q (names_in_order order names) (order_among order names) member))

-- ---- `.notdef` stands first

abbrev pub StartsWith : List ℕ → List (List ℕ) → Type 0
StartsWith name [] = ⊥
StartsWith name (first ∷ names) = first ≡ name

starts_if : (first name : List ℕ) (done : List (List ℕ)) (known : Bool) → StartsWith first done → StartsWith first (if known then done else done ++ name ∷ [])
starts_if first name [] known starts = absurd starts
starts_if first name (other ∷ done) true starts = starts
starts_if first name (other ∷ done) false starts = starts

starts_names : (first : List ℕ) (done more : List (List ℕ)) → StartsWith first done → StartsWith first (with_names done more)
starts_names first done [] starts = starts
starts_names first done (name ∷ more) starts = starts_names first (with_name done name) more (starts_if first name done (list_any (bytes_eq name) done) starts)

listed_starts : (order : List (List ℕ)) (p : List ℕ → Bool) (here : Bool) → p notdef ≡ here → here ≡ true → StartsWith notdef (with_names [] (cond here (notdef ∷ filter p order) (filter p order)))
listed_starts order p true is known = starts_names notdef (notdef ∷ []) (filter p order) refl
listed_starts order p false is known = absurd cc

pub order_starts : (order names : List (List ℕ)) → IsAmong names notdef → StartsWith notdef (names_in_order order names)
order_starts order names among = starts_names notdef (listed_names order names) names (listed_starts order (is_among names) (is_among names notdef) refl among)

pub starts_first : (name : List ℕ) (names : List (List ℕ)) → StartsWith name names → slice_get names 0 ≡ Some name
starts_first name [] starts = absurd starts
starts_first name (first ∷ names) starts = ap (λ n. Some n) starts
