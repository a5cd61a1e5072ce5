-- What holds of the drawings that words name.
use Rattle.std.proofs.Common.{◌≡◌, ℕ, zero, suc, ℤ, pos, negsuc, ◌≤◌, Bool, true, false, List, [], ◌∷◌, length, codes, get_or, Option, Some, None, Result, Ok, Err, refl, sym, ◌∙◌, ap, subst, arith, if◌then◌else◌, nat_le, nat_eq, ◌&&◌, All}
use Rattle.std.specs.Prelude.{IfSome, int_le, T, ◌≤ℤ◌, bytes_eq, ◌==◌}
use Rattle.std.specs.List.{AllByRecursion, slice_split, count_by}
use Rattle.std.specs.Path.{rsplit_once}
use Rattle.std.proofs.lemmas.Bool.{and_parts, eqb-true, leb-true}
use Rattle.std.proofs.lemmas.List.Sums.{AllPass-from_list_all}
use Rattle.std.proofs.lemmas.List.Splits.{length-slice_split}
use Rattle.fixpoint.specs.DecimalText.{whole_of}
use Rattle.fixpoint.specs.declared.decimal.NumberFault.{NumberFault}
use Rattle.region_support.specs.Regions.{IsNormalised, AreNormalisedLocations}
use Rattle.commands.specs.Command.{coordinate_by, coordinate_of, location_of, located_of, are_on_axes, drawings_named, Command, FilterWord, Located, tuples}
use Rattle.clap.specs.Walk.{Row, Text, all_of, first_of}
use Rattle.commands.specs.Syntax.{build_by, build_in, command_in, filters_in, tuples_by, tuples_in}
use Rattle.commands.specs.Proper.{locations_of_drawings, AreLocated, IsProper}
use Rattle.basics.specs.Optional.{◌>>=◌, each}

-- ---- each item gives such a value

both : {B : Type 0} (P : B → Type 0) (first : Option B) (rest : Option (List B)) → IfSome first P → IfSome rest (AllByRecursion P)
    → IfSome (first >>= λ y. rest >>= λ ys. Some (y ∷ ys)) (AllByRecursion P)
both P None rest here later = tt
both P (Some y) None here later = tt
both P (Some y) (Some ys) here later = (here, later)

each_such : {A B : Type 0} (P : B → Type 0) (f : A → Option B) → ((x : A) → IfSome (f x) P) → (xs : List A) → IfSome (each f xs) (AllByRecursion P)
each_such P f such [] = tt
each_such P f such (x ∷ xs) = both P (f x) (each f xs) (such x) (each_such P f such xs)

one_more : {B : Type 0} (n : ℕ) (first : Option B) (rest : Option (List B)) → IfSome rest (λ ys. length ys ≡ n) → IfSome (first >>= λ y. rest >>= λ ys. Some (y ∷ ys)) (λ ys. length ys ≡ suc n)
one_more n None rest count = tt
one_more n (Some y) None count = tt
one_more n (Some y) (Some ys) count = ap suc count

each_count : {A B : Type 0} (f : A → Option B) (xs : List A) → IfSome (each f xs) (λ ys. length ys ≡ length xs)
each_count f [] = refl
each_count f (x ∷ xs) = one_more (length xs) (f x) (each f xs) (each_count f xs)

-- ---- coordinates and locations

int_le_true : (a b : ℤ) → int_le a b ≡ true → a ≤ℤ b
int_le_true a b is = record { le = subst T (sym is) tt }

normalised_if : (raw : ℤ) (test : Bool) → (int_le (negsuc 16383) raw && int_le raw (pos 16384)) ≡ test → IfSome (if test then Some raw else None) IsNormalised
normalised_if raw true is =
    let parts = and_parts (int_le (negsuc 16383) raw) (int_le raw (pos 16384)) is in
    (int_le_true (negsuc 16383) raw parts.0, int_le_true raw (pos 16384) parts.1)
normalised_if raw false is = tt

normalised_by : (found : Result ℤ NumberFault) → IfSome (coordinate_by found) IsNormalised
normalised_by (Ok raw) = normalised_if raw _ refl
normalised_by (Err fault) = tt

coordinate_normalised : (text : List ℕ) → IfSome (coordinate_of text) IsNormalised
unfolding coordinate_of
coordinate_normalised text = normalised_by (whole_of text)

-- 1 to 8 coordinates from -1 to 1
pub record IsLocation (at : List ℤ) : Type 0 where
  pub some : 1 ≤ length at
  pub few : length at ≤ 8
  pub normalised : AllByRecursion IsNormalised at

location_if : (found : Option (List ℤ)) (n : ℕ) → IfSome found (λ at. length at ≡ suc n) → IfSome found (AllByRecursion IsNormalised)
    → IfSome (found >>= λ at. if nat_le (length at) 8 then Some at else None) IsLocation
location_if None n count normalised = tt
location_if (Some at) n count normalised = choose (nat_le (length at) 8) refl
  where
    choose : (test : Bool) → nat_le (length at) 8 ≡ test → IfSome (if test then Some at else None) IsLocation
    choose true is = record { some = omega (arith, count); few = leb-true (length at) 8 is; normalised = normalised }
    choose false is = tt

location_is : (text : List ℕ) → IfSome (location_of text) IsLocation
unfolding location_of
location_is text =
    let parts = slice_split (λ b. b == 44) text in
    location_if (each coordinate_of parts) (count_by (λ b. b == 44) text)
    (subst (λ n. IfSome (each coordinate_of parts) (λ at. length at ≡ n)) (length-slice_split (λ b. b == 44) text ∙ omega arith) (each_count coordinate_of parts))
    (each_such IsNormalised coordinate_of coordinate_normalised parts)

-- ---- drawings

abbrev IsLocated : Located → Type 0
IsLocated located = IsLocation located.at

located_by : (path : List ℕ) (found : Option (List ℤ)) → IfSome found IsLocation → IfSome (found >>= λ at. Some (record { path = path; at = at })) IsLocated
located_by path None is = tt
located_by path (Some at) is = is

located_of_parts : (parts : Option (List ℕ × List ℕ)) → IfSome (parts >>= λ parts. location_of parts.1 >>= λ at. Some (record { path = parts.0; at = at })) IsLocated
located_of_parts None = tt
located_of_parts (Some parts) = located_by parts.0 (location_of parts.1) (location_is parts.1)

located_is : (word : List ℕ) → IfSome (located_of word) IsLocated
unfolding located_of
located_is word = located_of_parts (rsplit_once 64 word)

all_normalised : (drawings : List Located) → AllByRecursion IsLocated drawings → AreNormalisedLocations (locations_of_drawings drawings)
all_normalised [] each = tt
all_normalised (located ∷ more) each = (each.0.normalised, all_normalised more each.1)

same_axes : (first : Located) (more : List Located) → are_on_axes (first ∷ more) ≡ true → All (λ (located : Located). length located.at ≡ length first.at) (first ∷ more)
same_axes first more on_axes zero d below = refl
same_axes first more on_axes (suc k) d below =
    eqb-true (length (get_or more k d).at) (length first.at) (AllPass-from_list_all (λ (located : Located). nat_eq (length located.at) (length first.at)) more on_axes k d (omega arith))

are_located : (drawings : List Located) → AllByRecursion IsLocated drawings → length drawings ≤ 128 → are_on_axes drawings ≡ true → AreLocated drawings
are_located [] each few on_axes = absurd cc
are_located (first ∷ more) each few on_axes = record {
  some_axes = each.0.some;
  few_axes = each.0.few;
  few = few;
  same_axes = same_axes first more on_axes;
  normalised = all_normalised (first ∷ more) each;
}

named_if : (found : Option (List Located)) → IfSome found (AllByRecursion IsLocated)
    → IfSome (found >>= λ drawings. if nat_le (length drawings) 128 && are_on_axes drawings then Some drawings else None) AreLocated
named_if None each = tt
named_if (Some drawings) each = choose (nat_le (length drawings) 128 && are_on_axes drawings) refl
  where
    choose : (test : Bool) → (nat_le (length drawings) 128 && are_on_axes drawings) ≡ test → IfSome (if test then Some drawings else None) AreLocated
    choose true is =
        let parts = and_parts (nat_le (length drawings) 128) (are_on_axes drawings) is in
        are_located drawings each (leb-true (length drawings) 128 parts.0) parts.1
    choose false is = tt

-- ---- commands

tuples_if : (out : List ℕ) (found : Option (List Located)) → IfSome found AreLocated → IfSome (found >>= λ drawings. Some (tuples (record { out = out; drawings = drawings }))) IsProper
tuples_if out None are = tt
tuples_if out (Some drawings) are = are

named_is : (words : List (List ℕ)) → IfSome (drawings_named words) AreLocated
named_is words = named_if (each located_of words) (each_such IsLocated located_of located_is words)

with_words : (out : List ℕ) (words : Option (List (List ℕ))) → IfSome (tuples_by (Some out) words) IsProper
with_words out None = tt
with_words out (Some words) = tuples_if out (drawings_named words) (named_is words)

tuples_are : (out : Option (List ℕ)) (words : Option (List (List ℕ))) → IfSome (tuples_by out words) IsProper
tuples_are None words = tt
tuples_are (Some out) words = with_words out words

build_is : (design out : Option (List ℕ)) (filters : List FilterWord) → IfSome (build_by design out filters) IsProper
build_is None out filters = tt
build_is (Some design) None filters = tt
build_is (Some design) (Some out) filters = tt

if_proper : (test : Bool) (first second : Option Command) → IfSome first IsProper → IfSome second IsProper → IfSome (if test then first else second) IsProper
if_proper true first second is other = is
if_proper false first second is other = other

-- what a subcommand with its values asks for is proper
pub command_is : (found : Option (Text × List Row)) → IfSome (command_in found) IsProper
command_is None = tt
command_is (Some (name, rows)) =
    if_proper (bytes_eq name (codes "tuples")) (tuples_in rows) (build_in rows) (tuples_are (first_of (codes "out") rows) (all_of (codes "drawings") rows))
    (build_is (first_of (codes "design") rows) (first_of (codes "out") rows) (filters_in rows))
