-- Runs name each character's glyph as the codes do that they are made of.
use Rattle.std.proofs.Common.{◌≡◌, ℕ, ◌+◌, ◌-◌, ◌≤◌, ◌<◌, Bool, true, false, ◌&&◌, ◌||◌, List, [], ◌∷◌, length, refl, sym, ap, ◌∙◌, arith}
use Rattle.std.proofs.lemmas.Bool.{le-leb, leb-false, leb-true, ltb-false}
use Rattle.std.proofs.lemmas.Bool.Decides.{nat_tests}
use Rattle.std.specs.Prelude.{if◌then◌else◌, nat_eq, nat_le, nat_lt}
use Rattle.std.specs.List.{AllByRecursion, list_any}
use Rattle.cmap_name.specs.Characters.{glyph_in_groups, is_in}
use Rattle.cmap_name.specs.Codes.{IsCharacter, Rise, glyph_of}
use Rattle.cmap_name.specs.Groups.{basic_codes, exceeds, goes_on, groups_of, joined, one}
use Rattle.cmap_name.specs.declared.groups.Group.{Group}

-- ---- runs that rise

-- runs that rise from this character on
abbrev pub GroupsRise : ℕ → List Group → Type 0
GroupsRise n [] = Unit {0}
GroupsRise n (group ∷ groups) = (n ≤ group.first) × (group.first ≤ group.last) × GroupsRise (group.last + 1) groups

-- what holds in both cases of a test
by_test : {A : Type 0} (P : A → Type 0) (test : Bool) (a b : A) → P a → P b → P (if test then a else b)
by_test P true a b first second = first
by_test P false a b first second = second

joined_rise : (n : ℕ) (group : Group) (groups : List Group) → n ≤ group.first → group.first ≤ group.last → GroupsRise (group.last + 1) groups → GroupsRise n (joined group groups)
joined_rise n group [] from ordered rise = (from, ordered, tt)
joined_rise n group (next ∷ groups) from ordered rise =
    by_test (GroupsRise n) (goes_on group next) (record { first = group.first; last = next.last; glyph = group.glyph } ∷ groups) (group ∷ next ∷ groups)
    (from, omega (arith, rise.0, rise.1), rise.2)
    (from, ordered, rise)

pub groups_rise : (n : ℕ) (codes : List (ℕ × ℕ)) → Rise n codes → GroupsRise n (groups_of codes)
groups_rise n [] rise = tt
groups_rise n (own ∷ codes) rise = joined_rise n (one own) (groups_of codes) rise.0 (omega arith) (groups_rise (own.0 + 1) codes rise.1)

-- ---- no run goes further than the codes

abbrev pub LastWithin : ℕ → Group → Type 0
LastWithin m group = group.last ≤ m

joined_within : (m : ℕ) (group : Group) (groups : List Group) → group.last ≤ m → AllByRecursion (LastWithin m) groups → AllByRecursion (LastWithin m) (joined group groups)
joined_within m group [] own others = (own, tt)
joined_within m group (next ∷ groups) own others =
    by_test (AllByRecursion (LastWithin m)) (goes_on group next) (record { first = group.first; last = next.last; glyph = group.glyph } ∷ groups) (group ∷ next ∷ groups)
    (others.0, others.1)
    (own, others)

pub groups_within : (m : ℕ) (codes : List (ℕ × ℕ)) → AllByRecursion (λ own. own.0 ≤ m) codes → AllByRecursion (LastWithin m) (groups_of codes)
groups_within m [] each = tt
groups_within m (own ∷ codes) each = joined_within m (one own) (groups_of codes) each.0 (groups_within m codes each.1)

-- there are no more runs than characters from n to m
pub groups_count : (n m : ℕ) (groups : List Group) → n ≤ m + 1 → GroupsRise n groups → AllByRecursion (LastWithin m) groups → length groups + n ≤ m + 1
groups_count n m [] within rise each = omega arith
groups_count n m (group ∷ groups) within rise each =
    let later = groups_count (group.last + 1) m groups (omega (arith, each.0)) rise.2 each.1 in
    omega (arith, later, rise.0, rise.1)

-- ---- the glyph of a character

-- a character before all runs
pub before_groups : (n c : ℕ) (groups : List Group) → GroupsRise n groups → c < n → glyph_in_groups groups c ≡ 0
before_groups n c [] rise before = refl
before_groups n c (group ∷ groups) rise before =
    let later = before_groups (group.last + 1) c groups rise.2 (omega (arith, rise.0, rise.1)) in
    let first = rise.0 in
    grind (arith, nat_tests)

-- a run, and others after it
abbrev by_group : Group → List Group → ℕ → ℕ
by_group group groups c = if is_in group c then group.glyph + (c - group.first) else glyph_in_groups groups c

merged : (a b g x y h c rest : ℕ) → a ≤ b → x ≤ y → x ≡ b + 1 → h ≡ g + (b + 1 - a)
    → (if nat_le a c && nat_le c y then g + (c - a) else rest) ≡ (if nat_le a c && nat_le c b then g + (c - a) else (if nat_le x c && nat_le c y then h + (c - x) else rest))
merged a b g x y h c rest ordered next_ordered first glyph = grind (arith, nat_tests)

both_equal : (a b p q : ℕ) → (nat_eq a b && nat_eq p q) ≡ true → (a ≡ b) × (p ≡ q)
both_equal a b p q is = (grind (arith, nat_tests), grind (arith, nat_tests))

joined_by : (test : Bool) (group next : Group) (groups : List Group) (c : ℕ) → goes_on group next ≡ test → group.first ≤ group.last → next.first ≤ next.last
    → glyph_in_groups (if test then record { first = group.first; last = next.last; glyph = group.glyph } ∷ groups else group ∷ next ∷ groups) c ≡ by_group group (next ∷ groups) c
joined_by true group next groups c is ordered next_ordered =
    let equal = both_equal next.first (group.last + 1) next.glyph (group.glyph + (group.last + 1 - group.first)) is in
    merged group.first group.last group.glyph next.first next.last next.glyph c (glyph_in_groups groups c) ordered next_ordered equal.0 equal.1
joined_by false group next groups c is ordered next_ordered = refl

joined_reads : (n : ℕ) (group : Group) (groups : List Group) (c : ℕ) → group.first ≤ group.last → GroupsRise n groups → glyph_in_groups (joined group groups) c ≡ by_group group groups c
joined_reads n group [] c ordered rise = refl
joined_reads n group (next ∷ groups) c ordered rise = joined_by (goes_on group next) group next groups c refl ordered rise.1

alone_reads : (a g c x y : ℕ) → x ≡ y → (if nat_le a c && nat_le c a then g + (c - a) else x) ≡ (if nat_eq a c then g else y)
alone_reads a g c x y same = grind (arith, nat_tests)

pub groups_read : (n : ℕ) (codes : List (ℕ × ℕ)) (c : ℕ) → Rise n codes → glyph_in_groups (groups_of codes) c ≡ glyph_of codes c
groups_read n [] c rise = refl
groups_read n (own ∷ codes) c rise =
    joined_reads (own.0 + 1) (one own) (groups_of codes) c (omega arith) (groups_rise (own.0 + 1) codes rise.1)
    ∙ alone_reads own.0 own.1 c (glyph_in_groups (groups_of codes) c) (glyph_of codes c) (groups_read (own.0 + 1) codes c rise.1)

-- ---- the codes up to 0xFFFE

-- a character before all codes
before_codes : (n c : ℕ) (codes : List (ℕ × ℕ)) → Rise n codes → c < n → glyph_of codes c ≡ 0
before_codes n c [] rise before = refl
before_codes n c (own ∷ codes) rise before =
    let later = before_codes (own.0 + 1) c codes rise.1 (omega (arith, rise.0)) in
    let first = rise.0 in
    grind (arith, nat_tests)

basic_by : (test : Bool) (own : ℕ × ℕ) (codes : List (ℕ × ℕ)) (c : ℕ) → nat_le own.0 0xFFFE ≡ test → Rise (own.0 + 1) codes → c ≤ 0xFFFE → glyph_of (basic_codes codes) c ≡ glyph_of codes c → glyph_of (if test then own ∷ basic_codes codes else []) c ≡ glyph_of (own ∷ codes) c
basic_by true own codes c is rise basic same = ap (λ x. if nat_eq own.0 c then own.1 else x) same
basic_by false own codes c is rise basic same =
    let above = leb-false own.0 0xFFFE is in
    sym (before_codes own.0 c (own ∷ codes) (omega arith, rise) (omega (arith, above)))

pub basic_read : (n : ℕ) (codes : List (ℕ × ℕ)) (c : ℕ) → Rise n codes → c ≤ 0xFFFE → glyph_of (basic_codes codes) c ≡ glyph_of codes c
basic_read n [] c rise basic = refl
basic_read n (own ∷ codes) c rise basic =
    basic_by (nat_le own.0 0xFFFE) own codes c refl rise.1 basic (basic_read (own.0 + 1) codes c rise.1 basic)

pub basic_rise : (n : ℕ) (codes : List (ℕ × ℕ)) → Rise n codes → Rise n (basic_codes codes)
basic_rise n [] rise = tt
basic_rise n (own ∷ codes) rise =
    by_test (Rise n) (nat_le own.0 0xFFFE) (own ∷ basic_codes codes) [] (rise.0, basic_rise (own.0 + 1) codes rise.1) tt

abbrev pub CodeWithin : ℕ → ℕ × ℕ → Type 0
CodeWithin m own = own.0 ≤ m

within_by : (test : Bool) (own : ℕ × ℕ) (codes : List (ℕ × ℕ)) → nat_le own.0 0xFFFE ≡ test → AllByRecursion (CodeWithin 0xFFFE) codes → AllByRecursion (CodeWithin 0xFFFE) (if test then own ∷ codes else [])
within_by true own codes is each = (leb-true own.0 0xFFFE is, each)
within_by false own codes is each = tt

each_code_within : (m n : ℕ) → m ≤ n → (codes : List (ℕ × ℕ)) → AllByRecursion (CodeWithin m) codes → AllByRecursion (CodeWithin n) codes
each_code_within m n more [] each = tt
each_code_within m n more (own ∷ codes) each = (omega (arith, each.0), each_code_within m n more codes each.1)

pub basic_within : (codes : List (ℕ × ℕ)) → AllByRecursion (CodeWithin 0xFFFE) (basic_codes codes)
basic_within [] = tt
basic_within (own ∷ codes) = within_by (nat_le own.0 0xFFFE) own (basic_codes codes) refl (basic_within codes)

neither : (a b : Bool) → (a || b) ≡ false → (a ≡ false) × (b ≡ false)
neither true b is = absurd cc
neither false b is = (refl, is)

basic_here : (own : ℕ × ℕ) → IsCharacter own → nat_lt 0xFFFF own.0 ≡ false → nat_le own.0 0xFFFE ≡ true
basic_here own is below =
    let most = ltb-false 0xFFFF own.0 below in
    let other = is.named in
    le-leb own.0 0xFFFE (omega (arith, most, other))

-- where no code exceeds 0xFFFF these are all codes
pub basic_all : (codes : List (ℕ × ℕ)) → AllByRecursion IsCharacter codes → list_any exceeds codes ≡ false → basic_codes codes ≡ codes
basic_all [] each none = refl
basic_all (own ∷ codes) each none =
    let below = neither (exceeds own) (list_any exceeds codes) none in
    ap (λ (b : Bool). if b then own ∷ basic_codes codes else []) (basic_here own each.0 below.0)
    ∙ ap (λ (rest : List (ℕ × ℕ)). own ∷ rest) (basic_all codes each.1 below.1)

pub basic_unicode : (codes : List (ℕ × ℕ)) → AllByRecursion (CodeWithin 0x10_FFFF) (basic_codes codes)
basic_unicode codes = each_code_within 0xFFFE 0x10_FFFF (omega arith) (basic_codes codes) (basic_within codes)
