-- Lookups of rising numbers, which act in the order of the lookup list, are the lists of those numbers one after another.
use Rattle.std.proofs.Common.{◌≡◌, ℕ, ◌+◌, ◌<◌, ◌≤◌, Bool, false, List, [], ◌∷◌, ◌++◌, length, map, get_or, refl, sym, ap, ◌∙◌, arith, length-append, append_assoc, add-one, inl, inr}
use Rattle.std.proofs.lemmas.Bool.{cases_eq, eq-eqb, ne_eqb}
use Rattle.std.proofs.lemmas.List.{get_or-map, get_or_at, length-map}
use Rattle.std.specs.Prelude.{if◌then◌else◌, nat_eq}
use Rattle.std.specs.List.{AllByRecursion, list_any}
use Rattle.std.specs.List.Sorted.{IsStrictlyIncreasing}
use Rattle.be_bytes.proofs.RecordLemmas.{each_of}
use Rattle.rule_boxes.specs.Substitution.{looked_up, replaced}
use Rattle.feature_var.specs.Layout.{in_glyph_order}
use Rattle.feature_var.specs.Table.{act}
use Rattle.feature_var.proofs.PairOrder.{order_replaced}

-- the numbers rise, from this one on
abbrev pub Rise : ℕ → List ℕ → Type 0
Rise least [] = Unit {0}
Rise least (number ∷ numbers) = (least ≤ number) × Rise (number + 1) numbers

tail_rises : (number : ℕ) (numbers : List ℕ) → IsStrictlyIncreasing (number ∷ numbers) → IsStrictlyIncreasing numbers
tail_rises number numbers rising k below = simp add-one (simp add-one at (rising (k + 1) (omega arith)))

head_below : (number next : ℕ) (numbers : List ℕ) → IsStrictlyIncreasing (number ∷ next ∷ numbers) → number < next
head_below number next numbers rising = rising 0 (omega arith)

rise_after : (number : ℕ) (numbers : List ℕ) → IsStrictlyIncreasing (number ∷ numbers) → Rise (number + 1) numbers
rise_after number [] rising = tt
rise_after number (next ∷ numbers) rising = (omega (arith, head_below number next numbers rising), rise_after next numbers (tail_rises number (next ∷ numbers) rising))

pub rise : (numbers : List ℕ) → IsStrictlyIncreasing numbers → Rise 0 numbers
rise [] rising = tt
rise (number ∷ numbers) rising = (omega arith, rise_after number numbers rising)

-- ---- the order of acting

weaker : (least lower : ℕ) (numbers : List ℕ) → lower ≤ least → Rise least numbers → Rise lower numbers
weaker least lower [] below rises = tt
weaker least lower (number ∷ numbers) below rises = (omega (arith, rises.0), rises.1)

-- no number that is lower than the others is among them
none_equal : (number least : ℕ) (numbers : List ℕ) → number < least → Rise least numbers → list_any (nat_eq number) numbers ≡ false
none_equal number least [] below rises = refl
none_equal number least (own ∷ numbers) below rises = rw (ne_eqb number own (λ same. omega (arith, rises.0)), none_equal number (own + 1) numbers (omega (arith, rises.0)) rises.1) refl

-- a lookup that is past takes no part
act_past : (number own : ℕ) (lookups : List (List (ℕ × ℕ))) (numbers : List ℕ) (g : ℕ) → own < number → act number lookups (own ∷ numbers) g ≡ act number lookups numbers g
act_past number own [] numbers g past = refl
act_past number own (pairs ∷ lookups) numbers g past =
    rw (ne_eqb number own (λ same. omega arith)) (act_past (number + 1) own lookups numbers (if list_any (nat_eq number) numbers then replaced nat_eq pairs g else g) (omega arith))

act_none : (number : ℕ) (lookups : List (List (ℕ × ℕ))) (g : ℕ) → act number lookups [] g ≡ g
act_none number [] g = refl
act_none number (pairs ∷ lookups) g = act_none (number + 1) lookups g

-- the lookup of this number acts first
acts_now : (number own : ℕ) (pairs : List (ℕ × ℕ)) (lookups : List (List (ℕ × ℕ))) (numbers : List ℕ) (g : ℕ) → number ≡ own → act number (pairs ∷ lookups) (own ∷ numbers) g ≡ act (number + 1) lookups numbers (replaced nat_eq pairs g)
acts_now number own pairs lookups numbers g same =
    rw (eq-eqb number own same) (act_past (number + 1) own lookups numbers (replaced nat_eq pairs g) (omega arith))

acts_later : (number own : ℕ) (pairs : List (ℕ × ℕ)) (lookups : List (List (ℕ × ℕ))) (numbers : List ℕ) (g : ℕ) → number < own → Rise (own + 1) numbers → act number (pairs ∷ lookups) (own ∷ numbers) g ≡ act (number + 1) lookups (own ∷ numbers) g
acts_later number own pairs lookups numbers g below rises =
    ap (λ (there : Bool). act (number + 1) lookups (own ∷ numbers) (if there then replaced nat_eq pairs g else g)) (none_equal number own (own ∷ numbers) below (omega arith, rises))

-- the list of this number, with those before it and after it
looked_up_now : (front lists : List (List (ℕ × ℕ))) (pairs : List (ℕ × ℕ)) (numbers : List ℕ) (own g : ℕ) → length front ≡ own → looked_up nat_eq ((front ++ pairs ∷ []) ++ lists) numbers (replaced nat_eq pairs g) ≡ looked_up nat_eq (front ++ pairs ∷ lists) (own ∷ numbers) g
looked_up_now front lists pairs numbers own g sized =
    ap (λ (all : List (List (ℕ × ℕ))). looked_up nat_eq all numbers (replaced nat_eq pairs g)) (append_assoc front (pairs ∷ []) lists)
    ∙ ap (λ (own_pairs : List (ℕ × ℕ)). looked_up nat_eq (front ++ pairs ∷ lists) numbers (replaced nat_eq own_pairs g)) (sym (get_or_at front pairs lists [] own sized))

further_there : (number : ℕ) (pairs : List (ℕ × ℕ)) (lookups : List (List (ℕ × ℕ))) (numbers : List ℕ) → AllByRecursion (λ own. own < number + length (pairs ∷ lookups)) numbers → AllByRecursion (λ own. own < (number + 1) + length lookups) numbers
further_there number pairs lookups [] there = tt
further_there number pairs lookups (own ∷ numbers) there = (omega (arith, there.0), further_there number pairs lookups numbers there.1)

act_is : (front lookups : List (List (ℕ × ℕ))) (numbers : List ℕ) (number g : ℕ) → Rise number numbers → AllByRecursion (λ own. own < number + length lookups) numbers → length front ≡ number → act number lookups numbers g ≡ looked_up nat_eq (front ++ lookups) numbers g
act_is front [] [] number g rises there sized = refl
act_is front [] (own ∷ numbers) number g rises there sized = absurd (omega (arith, rises.0, there.0))
act_is front (pairs ∷ lookups) [] number g rises there sized = act_none number (pairs ∷ lookups) g
act_is front (pairs ∷ lookups) (own ∷ numbers) number g rises there sized =
    let next : length (front ++ pairs ∷ []) ≡ number + 1 = omega (arith, length-append front (pairs ∷ [])) in
    elim (cases_eq number own) [
      | inl same ↦ acts_now number own pairs lookups numbers g same
          ∙ (act_is (front ++ pairs ∷ []) lookups numbers (number + 1) (replaced nat_eq pairs g) (weaker (own + 1) (number + 1) numbers (omega arith) rises.1) (further_there number pairs lookups numbers there.1) next
          ∙ looked_up_now front lookups pairs numbers own g (sized ∙ same))
      | inr other ↦ acts_later number own pairs lookups numbers g (omega (arith, rises.0)) rises.1
          ∙ (act_is (front ++ pairs ∷ []) lookups (own ∷ numbers) (number + 1) g (omega (arith, rises.0), rises.1) (further_there number pairs lookups (own ∷ numbers) there) next
          ∙ ap (λ (all : List (List (ℕ × ℕ))). looked_up nat_eq all (own ∷ numbers) g) (append_assoc front (pairs ∷ []) lookups))
    ]

-- ---- lists in glyph order

order_at : (lists : List (List (ℕ × ℕ))) (number g : ℕ) → number < length lists → replaced nat_eq (get_or (map in_glyph_order lists) number []) g ≡ replaced nat_eq (get_or lists number []) g
order_at lists number g there =
    ap (λ (pairs : List (ℕ × ℕ)). replaced nat_eq pairs g) (get_or-map in_glyph_order lists number [] [] there) ∙ order_replaced (get_or lists number []) g

order_looked_up : (lists : List (List (ℕ × ℕ))) (numbers : List ℕ) (g : ℕ) → AllByRecursion (λ own. own < length lists) numbers → looked_up nat_eq (map in_glyph_order lists) numbers g ≡ looked_up nat_eq lists numbers g
order_looked_up lists [] g there = refl
order_looked_up lists (own ∷ numbers) g there =
    ap (looked_up nat_eq (map in_glyph_order lists) numbers) (order_at lists own g there.0) ∙ order_looked_up lists numbers (replaced nat_eq (get_or lists own []) g) there.1

-- rising numbers of lists that are there
pub record AreNumbers (lists : ℕ) (numbers : List ℕ) : Type 0 where
  pub rising : IsStrictlyIncreasing numbers
  pub there : AllByRecursion (λ number. number < lists) numbers

pub acts : (lists : List (List (ℕ × ℕ))) (numbers : List ℕ) (g : ℕ) → AreNumbers (length lists) numbers → act 0 (map in_glyph_order lists) numbers g ≡ looked_up nat_eq lists numbers g
acts lists numbers g are =
    act_is [] (map in_glyph_order lists) numbers 0 g (rise numbers are.rising) (each_of (λ number. number < length lists) (λ number. number < 0 + length (map in_glyph_order lists)) (λ number below. omega (arith, length-map lists in_glyph_order)) numbers are.there) refl
    ∙ order_looked_up lists numbers g are.there
