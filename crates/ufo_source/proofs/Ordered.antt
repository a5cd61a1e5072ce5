-- The names of a layer's glyphs in their byte order.
use Rattle.std.proofs.Common.{◌≡◌, ℕ, ◌+◌, ◌≤◌, ◌||◌, ◌&&◌, Bool, true, false, List, [], ◌∷◌, length, fold, codes, get_or, Result, Ok, Err, refl, sym, ap, ◌∙◌, subst, arith, Ordering, Less, Equal, Greater}
use Rattle.std.specs.Prelude.{All, nat_le, if◌then◌else◌}
use Rattle.std.specs.BTreeMap.{insert_entry}
use Rattle.std.specs.Cmp.Lexicographic.{slice_cmp}
use Rattle.std.specs.List.{AllByRecursion, list_all, list_any}
use Rattle.std.specs.List.Sorted.{IsStrictlySortedBy}
use Rattle.std.specs.Map.{keys_of}
use Rattle.std.specs.Ordering.{match_ordering, nat_cmp, ordering_reverse}
use Rattle.std.specs.Str.{bytes_eq}
use Rattle.std.proofs.lemmas.Bool.{and_parts}
use Rattle.std.proofs.lemmas.Bool.Decides.{nat_tests}
use Rattle.std.proofs.lemmas.Cmp.{nat_list_cmp_total}
use Rattle.std.proofs.lemmas.List.Elements.{All-nil, All-cons, All-head, All-tail, All-from_recursion, recursion_from_All}
use Rattle.std.proofs.lemmas.Map.Entries.{length-keys_of}
use Rattle.std.proofs.lemmas.Map.Keys.{Less-from_sorted}
use Rattle.std.proofs.lemmas.Map.Lookups.{exact_bytes}
use Rattle.std.proofs.lemmas.Map.Views.{All-keys-insert_entry}
use Rattle.basics.specs.Reading.{◌>>=◌, all_pass}
use Rattle.basics.specs.declared.fault.Spot.{Spot}
use Rattle.glif.specs.Limits.{AreDistinct}
use Rattle.source_files.specs.Trees.{in_file}
use Rattle.ufo_source.specs.Contents.{Entry, few_glyphs, glyph_count, glyph_name, glyph_names, in_byte_order, is_glyph_name, is_name_byte, is_notdef}
use Rattle.ufo_source.specs.Limits.{AreGlyphNames, IsGlyphName, IsNameByte, count_of_names}

-- ---- names that pass the test

abbrev tested : Bool → Spot → Result (Unit {0}) Spot
tested b spot = if b then Ok tt else Err spot

passed : (b : Bool) (spot : Spot) (later : Result (Unit {0}) Spot) → (tested b spot >>= λ _. later) ≡ Ok tt → (b ≡ true) × (later ≡ Ok tt)
passed true spot later is = (refl, is)
passed false spot later is = cc

name_bytes : (bytes : List ℕ) → list_all is_name_byte bytes ≡ true → All IsNameByte bytes
name_bytes [] is = All-nil IsNameByte
name_bytes (byte ∷ bytes) is =
    let parts = and_parts (is_name_byte byte) (list_all is_name_byte bytes) is in
    let first = and_parts (nat_le 33 byte) (nat_le byte 126) parts.0 in
    All-cons IsNameByte byte bytes (record { least = grind (arith, nat_tests, first.0); greatest = grind (arith, nat_tests, first.1) }) (name_bytes bytes parts.1)

glyph_name_is : (name : List ℕ) → is_glyph_name name ≡ true → IsGlyphName name
glyph_name_is name is =
    let first = and_parts (nat_le 1 (length name)) (nat_le (length name) 63 && list_all is_name_byte name) is in
    let later = and_parts (nat_le (length name) 63) (list_all is_name_byte name) first.1 in
    record { least = grind (arith, nat_tests, first.0); greatest = grind (arith, nat_tests, later.0); bytes = name_bytes name later.1 }

names_pass : (position : ℕ) (entries : List Entry) → all_pass glyph_name position entries ≡ Ok tt → All IsGlyphName (keys_of entries)
names_pass position [] is = All-nil IsGlyphName
names_pass position (entry ∷ entries) is =
    let parts = passed (is_glyph_name entry.0) _ (all_pass glyph_name (position + 1) entries) is in
    All-cons IsGlyphName entry.0 (keys_of entries) (glyph_name_is entry.0 parts.0) (names_pass (position + 1) entries parts.1)

-- ---- one more entry

abbrev order : List ℕ → List ℕ → Ordering
order = slice_cmp nat_cmp

abbrev put : List Entry → Entry → List Entry
put ordered entry = insert_entry order ordered entry.0 entry.1

abbrev put_by : Ordering → Entry → List Entry → Entry → List Entry
put_by found e es entry = match_ordering found (entry ∷ e ∷ es) ((e.0, entry.1) ∷ es) (e ∷ put es entry)

-- how many there are
put_length_by : (found : Ordering) (e : Entry) (es : List Entry) (entry : Entry) → length (put es entry) ≤ length es + 1 → length (put_by found e es entry) ≤ length es + 1 + 1
put_length_by Less e es entry later = omega arith
put_length_by Equal e es entry later = omega arith
put_length_by Greater e es entry later = omega arith

put_length : (es : List Entry) (entry : Entry) → length (put es entry) ≤ length es + 1
put_length [] entry = omega arith
put_length (e ∷ es) entry = let step = put_length_by (order entry.0 e.0) e es entry (put_length es entry) in omega arith

-- whether a name is among them
or_twice : (a b : Bool) → (a || b) ≡ (a || (a || b))
or_twice true b = refl
or_twice false b = refl

or_turned : (a b c : Bool) → (a || (b || c)) ≡ (b || (a || c))
or_turned true true c = refl
or_turned true false c = refl
or_turned false true c = refl
or_turned false false c = refl

put_any_by : (p : List ℕ → Bool) (found : Ordering) (e : Entry) (es : List Entry) (entry : Entry) → order entry.0 e.0 ≡ found
    → list_any p (keys_of (put es entry)) ≡ (p entry.0 || list_any p (keys_of es)) → list_any p (keys_of (put_by found e es entry)) ≡ (p entry.0 || (p e.0 || list_any p (keys_of es)))
put_any_by p Less e es entry is later = refl
put_any_by p Equal e es entry is later =
    or_twice (p e.0) (list_any p (keys_of es)) ∙ ap (λ name. p name || (p e.0 || list_any p (keys_of es))) (sym (exact_bytes entry.0 e.0 is))
put_any_by p Greater e es entry is later = ap (λ b. p e.0 || b) later ∙ or_turned (p e.0) (p entry.0) (list_any p (keys_of es))

put_any : (p : List ℕ → Bool) (es : List Entry) (entry : Entry) → list_any p (keys_of (put es entry)) ≡ (p entry.0 || list_any p (keys_of es))
put_any p [] entry = refl
put_any p (e ∷ es) entry = put_any_by p (order entry.0 e.0) e es entry refl (put_any p es entry)

-- they rise
never_below : (x y : List ℕ) → order x y ≡ Less → x ≡ y → ⊥
never_below x y below same =
    let self : order y y ≡ Less = subst (λ z. order z y ≡ Less) same below in
    let flip : order y y ≡ ordering_reverse (order y y) = nat_list_cmp_total.antisymm y y in
    let greater : ordering_reverse (order y y) ≡ Greater = ap ordering_reverse self in
    cc

turned : (x y : List ℕ) → order x y ≡ Greater → order y x ≡ Less
turned x y above =
    let flip : order y x ≡ ordering_reverse (order x y) = nat_list_cmp_total.antisymm y x in
    let less : ordering_reverse (order x y) ≡ Less = ap ordering_reverse above in
    flip ∙ less

below_all : (x y : List ℕ) (names : List (List ℕ)) → order x y ≡ Less → AllByRecursion (λ name. order y name ≡ Less) names → AllByRecursion (λ name. order x name ≡ Less) names
below_all x y [] below later = tt
below_all x y (name ∷ names) below later = (nat_list_cmp_total.trans x y name below later.0, below_all x y names below later.1)

put_sorted_by : (found : Ordering) (e : Entry) (es : List Entry) (entry : Entry) → order entry.0 e.0 ≡ found → IsStrictlySortedBy order (keys_of (e ∷ es)) → IsStrictlySortedBy order (keys_of (put es entry))
    → IsStrictlySortedBy order (keys_of (put_by found e es entry))
unfolding IsStrictlySortedBy
put_sorted_by Less e es entry is sorted later = ((is, below_all entry.0 e.0 (keys_of es) is sorted.0), sorted)
put_sorted_by Equal e es entry is sorted later = sorted
put_sorted_by Greater e es entry is sorted later = (
  recursion_from_All (λ name. order e.0 name ≡ Less) (keys_of (put es entry))
      (All-keys-insert_entry order entry.0 entry.1 (λ name. order e.0 name ≡ Less) es (All-from_recursion (λ name. order e.0 name ≡ Less) (keys_of es) sorted.0) (turned entry.0 e.0 is)),
  later,
)

put_sorted : (es : List Entry) (entry : Entry) → IsStrictlySortedBy order (keys_of es) → IsStrictlySortedBy order (keys_of (put es entry))
unfolding IsStrictlySortedBy
put_sorted [] entry sorted = (tt, tt)
put_sorted (e ∷ es) entry sorted = put_sorted_by (order entry.0 e.0) e es entry refl sorted (put_sorted es entry sorted.1)

distinct : (names : List (List ℕ)) → IsStrictlySortedBy order names → AreDistinct names
distinct names sorted i j d before less same = never_below (get_or names i d) (get_or names j d) (Less-from_sorted order names i j d sorted before less) same

-- ---- all entries

all_named : (P : List ℕ → Type 0) (before entries : List Entry) → All P (keys_of before) → All P (keys_of entries) → All P (keys_of (fold put before entries))
all_named P before [] own later = own
all_named P before (entry ∷ entries) own later =
    all_named P (put before entry) entries (All-keys-insert_entry order entry.0 entry.1 P before own (All-head P entry.0 (keys_of entries) later))
    (All-tail P entry.0 (keys_of entries) later)

all_length : (before entries : List Entry) → length (fold put before entries) ≤ length before + length entries
all_length before [] = omega arith
all_length before (entry ∷ entries) =
    let one = put_length before entry in
    let later = all_length (put before entry) entries in
    omega arith

or_false : (b : Bool) → b ≡ (b || false)
or_false true = refl
or_false false = refl

or_moved : (a b c : Bool) → ((a || b) || c) ≡ (b || (a || c))
or_moved true true c = refl
or_moved true false c = refl
or_moved false true c = refl
or_moved false false c = refl

all_any : (p : List ℕ → Bool) (before entries : List Entry) → list_any p (keys_of (fold put before entries)) ≡ (list_any p (keys_of before) || list_any (λ entry. p entry.0) entries)
all_any p before [] = or_false (list_any p (keys_of before))
all_any p before (entry ∷ entries) =
    all_any p (put before entry) entries ∙ ap (λ b. b || list_any (λ entry. p entry.0) entries) (put_any p before entry)
    ∙ or_moved (p entry.0) (list_any p (keys_of before)) (list_any (λ entry. p entry.0) entries)

all_sorted : (before entries : List Entry) → IsStrictlySortedBy order (keys_of before) → IsStrictlySortedBy order (keys_of (fold put before entries))
all_sorted before [] sorted = sorted
all_sorted before (entry ∷ entries) sorted = all_sorted (put before entry) entries (put_sorted before entry sorted)

-- ---- few of them

within_file : (path : List ℕ) (tested : Result (Unit {0}) Spot) → in_file path tested ≡ Ok tt → tested ≡ Ok tt
within_file path (Ok value) is = refl
within_file path (Err spot) is = cc

if_passed : (b : Bool) (spot : Spot) → tested b spot ≡ Ok tt → b ≡ true
if_passed true spot is = refl
if_passed false spot is = cc

few_names : (entries : List Entry) → few_glyphs entries ≡ Ok tt → count_of_names (keys_of (in_byte_order entries)) ≤ 32510
few_names entries few =
    let is : nat_le (glyph_count entries) 32510 ≡ true = if_passed (nat_le (glyph_count entries) 32510) _ few in
    let count : glyph_count entries ≤ 32510 = grind (arith, nat_tests, is) in
    let same : list_any (λ name. bytes_eq name (codes ".notdef")) (keys_of (in_byte_order entries)) ≡ list_any is_notdef entries = all_any (λ name. bytes_eq name (codes ".notdef")) [] entries in
    let most : length (in_byte_order entries) ≤ 0 + length entries = all_length [] entries in
    let names : length (keys_of (in_byte_order entries)) ≡ length (in_byte_order entries) = length-keys_of (in_byte_order entries) in
    rw same (omega arith)

pub names_are : (entries first second : List Entry) (list folder : List ℕ) → first ≡ entries → second ≡ entries → in_file list (glyph_names first) ≡ Ok tt → in_file folder (few_glyphs second) ≡ Ok tt
    → AreGlyphNames (keys_of (in_byte_order entries))
unfolding IsStrictlySortedBy
names_are entries first second list folder one two named few =
    let own : glyph_names entries ≡ Ok tt = ap glyph_names (sym one) ∙ within_file list (glyph_names first) named in
    let less : few_glyphs entries ≡ Ok tt = ap few_glyphs (sym two) ∙ within_file folder (few_glyphs second) few in
    record {
      each = all_named IsGlyphName [] entries (All-nil IsGlyphName) (names_pass 0 entries own);
      few = few_names entries less;
      once = distinct (keys_of (in_byte_order entries)) (all_sorted [] entries tt);
    }
