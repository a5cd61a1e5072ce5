-- Pairs put in the order of their first glyphs replace the same glyphs, and can be written.
use Rattle.std.proofs.Common.{◌≡◌, ℕ, ◌+◌, ◌-◌, ◌<◌, ◌≤◌, Bool, true, false, cond, List, [], ◌∷◌, ◌++◌, length, map, take, drop, get_or, refl, sym, ap, subst, ◌∙◌, arith}
use Rattle.std.proofs.lemmas.List.{at_drop_more, drop_more, map_more}
use Rattle.std.proofs.lemmas.List.Elements.{All-more}
use Rattle.std.proofs.lemmas.Bool.{eqb-true, lt-ltb, ltb-true}
use Rattle.std.proofs.lemmas.Bool.Decides.{nat_tests}
use Rattle.std.specs.Prelude.{All, if◌then◌else◌, nat_eq, nat_lt}
use Rattle.std.specs.BTreeMap.{insert_entry}
use Rattle.std.specs.List.{AllByRecursion}
use Rattle.std.specs.Ordering.{match_ordering, nat_cmp}
use Rattle.std.specs.declared.cmp.Ordering.TheVariants.{Less, Equal, Greater}
use Rattle.rule_boxes.specs.Substitution.{replaced}
use Rattle.feature_var.specs.Coverage.{is_rising}
use Rattle.feature_var.specs.Layout.{in_glyph_order}
use Rattle.feature_var.specs.Limits.{IsGlyphPair}
use Rattle.feature_var.proofs.Places.{IsWord}
use Rattle.feature_var.proofs.SingleReading.{AreSingle}

abbrev Pairs : Type 0
Pairs = List (ℕ × ℕ)

-- ---- what holds after a pair is put among others

choose : (P : Pairs → Type 0) (t u : Bool) (a b : ℕ) (less same more : Pairs) → nat_lt a b ≡ t → nat_eq a b ≡ u → (a < b → P less) → (a ≡ b → P same) → (b < a → P more) → P (match_ordering (cond t Less (cond u Equal Greater)) less same more)
choose P true u a b less same more lt eq first second third = first (ltb-true a b lt)
choose P false true a b less same more lt eq first second third = second (eqb-true a b eq)
choose P false false a b less same more lt eq first second third = third (grind (arith, nat_tests))

by_order : (P : Pairs → Type 0) (a b : ℕ) (less same more : Pairs) → (a < b → P less) → (a ≡ b → P same) → (b < a → P more) → P (match_ordering (nat_cmp a b) less same more)
by_order P a b less same more = choose P (nat_lt a b) (nat_eq a b) a b less same more refl refl

-- ---- replacing

same_pair : (key value own g : ℕ) (first second : ℕ) → own ≡ key → (if nat_eq key g then first else second) ≡ (if nat_eq own g then first else (if nat_eq key g then value else second))
same_pair key value own g first second same = grind (arith, nat_tests)

other_first : (key value own g : ℕ) (first second : ℕ) → key < own → (if nat_eq key g then value else (if nat_eq own g then first else second)) ≡ (if nat_eq own g then first else (if nat_eq key g then value else second))
other_first key value own g first second above = grind (arith, nat_tests)

insert_replaced : (pairs : Pairs) (own by g : ℕ) → replaced nat_eq (insert_entry nat_cmp pairs own by) g ≡ (if nat_eq own g then by else replaced nat_eq pairs g)
insert_replaced [] own by g = refl
insert_replaced (pair ∷ pairs) own by g =
    by_order (λ (all : Pairs). replaced nat_eq all g ≡ (if nat_eq own g then by else replaced nat_eq (pair ∷ pairs) g)) own pair.0 ((own, by) ∷ pair ∷ pairs) ((pair.0, by) ∷ pairs) (pair ∷ insert_entry nat_cmp pairs own by)
    (λ less. refl)
    (λ same. same_pair pair.0 pair.1 own g by (replaced nat_eq pairs g) same)
    (λ above. rw (insert_replaced pairs own by g) (other_first pair.0 pair.1 own g by (replaced nat_eq pairs g) above))

pub order_replaced : (pairs : Pairs) (g : ℕ) → replaced nat_eq (in_glyph_order pairs) g ≡ replaced nat_eq pairs g
order_replaced [] g = refl
order_replaced (pair ∷ pairs) g = rw (insert_replaced (in_glyph_order pairs) pair.0 pair.1 g, order_replaced pairs g) refl

-- ---- size and numbers

insert_few : (pairs : Pairs) (own by : ℕ) → length (insert_entry nat_cmp pairs own by) ≤ length pairs + 1
insert_few [] own by = omega arith
insert_few (pair ∷ pairs) own by =
    by_order (λ (all : Pairs). length all ≤ length (pair ∷ pairs) + 1) own pair.0 ((own, by) ∷ pair ∷ pairs) ((pair.0, by) ∷ pairs) (pair ∷ insert_entry nat_cmp pairs own by)
    (λ less. omega arith) (λ same. omega arith) (λ above. omega (arith, insert_few pairs own by))

pub order_few : (pairs : Pairs) → length (in_glyph_order pairs) ≤ length pairs
order_few [] = omega arith
order_few (pair ∷ pairs) = omega (arith, insert_few (in_glyph_order pairs) pair.0 pair.1, order_few pairs)

insert_words : (pairs : Pairs) (own by : ℕ) → AllByRecursion IsGlyphPair pairs → IsWord own → IsWord by → AllByRecursion IsGlyphPair (insert_entry nat_cmp pairs own by)
insert_words [] own by words own_fits by_fits = (record { first = own_fits; second = by_fits }, tt)
insert_words (pair ∷ pairs) own by words own_fits by_fits =
    by_order (AllByRecursion IsGlyphPair) own pair.0 ((own, by) ∷ pair ∷ pairs) ((pair.0, by) ∷ pairs) (pair ∷ insert_entry nat_cmp pairs own by)
    (λ less. (record { first = own_fits; second = by_fits }, words)) (λ same. (record { first = words.0.first; second = by_fits }, words.1)) (λ above. (words.0, insert_words pairs own by words.1 own_fits by_fits))

order_words : (pairs : Pairs) → AllByRecursion IsGlyphPair pairs → AllByRecursion IsGlyphPair (in_glyph_order pairs)
order_words [] words = tt
order_words (pair ∷ pairs) words = insert_words (in_glyph_order pairs) pair.0 pair.1 (order_words pairs words.1) words.0.first words.0.second

first_words : (pairs : Pairs) → AllByRecursion IsGlyphPair pairs → AllByRecursion IsWord (map (λ pair. pair.0) pairs)
first_words [] words = tt
first_words (pair ∷ pairs) words = (words.0.first, first_words pairs words.1)

second_words : (pairs : Pairs) → AllByRecursion IsGlyphPair pairs → AllByRecursion IsWord (map (λ pair. pair.1) pairs)
second_words [] words = tt
second_words (pair ∷ pairs) words = (words.0.second, second_words pairs words.1)

-- ---- order

-- the first glyphs rise, from this number on
abbrev FirstsRise : ℕ → Pairs → Type 0
FirstsRise least [] = Unit {0}
FirstsRise least (pair ∷ pairs) = (least ≤ pair.0) × FirstsRise (pair.0 + 1) pairs

insert_rises : (pairs : Pairs) (own by least : ℕ) → FirstsRise least pairs → least ≤ own → FirstsRise least (insert_entry nat_cmp pairs own by)
insert_rises [] own by least rises above = (above, tt)
insert_rises (pair ∷ pairs) own by least rises above =
    by_order (FirstsRise least) own pair.0 ((own, by) ∷ pair ∷ pairs) ((pair.0, by) ∷ pairs) (pair ∷ insert_entry nat_cmp pairs own by)
    (λ less. (above, (omega arith, rises.1))) (λ same. rises) (λ more. (rises.0, insert_rises pairs own by (pair.0 + 1) rises.1 (omega arith)))

order_rises : (pairs : Pairs) → FirstsRise 0 (in_glyph_order pairs)
order_rises [] = tt
order_rises (pair ∷ pairs) = insert_rises (in_glyph_order pairs) pair.0 pair.1 0 (order_rises pairs) (omega arith)

firsts_rising : (pairs : Pairs) (least : ℕ) → FirstsRise least pairs → is_rising (map (λ pair. pair.0) pairs) ≡ true
firsts_rising [] least rises = refl
firsts_rising (pair ∷ []) least rises = refl
firsts_rising (pair ∷ next ∷ pairs) least rises = rw (lt-ltb pair.0 next.0 (omega (arith, rises.1.0))) (firsts_rising (next ∷ pairs) (pair.0 + 1) rises.1)

pub order_single : (pairs : Pairs) → length pairs ≤ 4096 → AllByRecursion IsGlyphPair pairs → AreSingle (in_glyph_order pairs)
order_single pairs few words = record {
  few = omega (arith, order_few pairs);
  firsts = first_words (in_glyph_order pairs) (order_words pairs words);
  seconds = second_words (in_glyph_order pairs) (order_words pairs words);
  rising = firsts_rising (in_glyph_order pairs) 0 (order_rises pairs);
}

-- ---- one pair more, before those that are in order

pub order_more : (pairs : Pairs) (number : ℕ) (d : ℕ × ℕ) (entries : Pairs) → 0 < number → number ≤ length pairs → entries ≡ in_glyph_order (drop number pairs)
    → insert_entry nat_cmp entries (get_or pairs (number - 1) d).0 (get_or pairs (number - 1) d).1 ≡ in_glyph_order (drop (number - 1) pairs)
order_more pairs number d entries above there so_far =
    let next : (number - 1) + 1 ≡ number = omega arith in
    let own : ℕ × ℕ = get_or pairs (number - 1) d in
    ap (λ (more : Pairs). insert_entry nat_cmp more own.0 own.1) (so_far ∙ ap (λ (n : ℕ). in_glyph_order (drop n pairs)) (sym next))
    ∙ sym (at_drop_more in_glyph_order pairs (number - 1) d (omega arith))

pub words_more : (pairs : Pairs) (number : ℕ) (d : ℕ × ℕ) → 0 < number → number ≤ length pairs → IsGlyphPair (get_or pairs (number - 1) d) → AllByRecursion IsGlyphPair (drop number pairs) → AllByRecursion IsGlyphPair (drop (number - 1) pairs)
words_more pairs number d above there own so_far =
    let next : (number - 1) + 1 ≡ number = omega arith in
    subst (AllByRecursion IsGlyphPair) (sym (drop_more pairs (number - 1) d (omega arith)))
    (own, subst (λ (n : ℕ). AllByRecursion IsGlyphPair (drop n pairs)) (sym next) so_far)

-- ---- one list more

pub list_more : (subs : List Pairs) (number : ℕ) (item pairs own : Pairs) (before after : List Pairs) → number < length subs → item ≡ get_or subs number item → pairs ≡ item → own ≡ in_glyph_order pairs → before ≡ map in_glyph_order (take number subs) → after ≡ before ++ own ∷ []
    → after ≡ map in_glyph_order (take (number + 1) subs)
list_more subs number item pairs own before after below is same order so_far pushed = let next = map_more in_glyph_order subs number item below in cc

pub list_words_more : (subs : List Pairs) (number : ℕ) (item pairs : Pairs) → number < length subs → item ≡ get_or subs number item → pairs ≡ item → All IsGlyphPair pairs → All (λ own. All IsGlyphPair own) (take number subs) → All (λ own. All IsGlyphPair own) (take (number + 1) subs)
list_words_more subs number item pairs below is same words so_far =
    All-more (λ (own : Pairs). All IsGlyphPair own) subs number item below so_far (subst (λ (own : Pairs). All IsGlyphPair own) (same ∙ is) words)

-- each list in order is small enough too
pub lists_few : (subs : List Pairs) → AllByRecursion (λ pairs. length pairs ≤ 4096) subs → AllByRecursion (λ pairs. length pairs ≤ 4096) (map in_glyph_order subs)
lists_few [] few = tt
lists_few (pairs ∷ subs) few = (omega (arith, few.0, order_few pairs), lists_few subs few.1)
