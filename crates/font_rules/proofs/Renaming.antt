-- Rules by the names of glyphs and by their numbers make the same of a glyph.
use Rattle.std.proofs.Common.{◌≡◌, ◌≢◌, ℕ, zero, suc, ◌+◌, ℤ, Bool, true, false, cond, List, [], ◌∷◌, length, map, All, AllPairs, Option, Some, None, Result, Ok, Err, refl, sym, ◌∙◌, ap, subst, arith}
use Rattle.std.proofs.lemmas.Bool.{eqb-true}
use Rattle.std.proofs.lemmas.Bool.Decides.{Decides-eqb, same_from_decides}
use Rattle.std.proofs.lemmas.List.Elements.{All-head, All-tail}
use Rattle.std.proofs.lemmas.Option.{none-some}
use Rattle.std.proofs.lemmas.Slice.Eq.{bytes_eq-Decides}
use Rattle.std.specs.Prelude.{if◌then◌else◌, nat_eq, unwrap_or}
use Rattle.std.specs.Str.{bytes_eq}
use Rattle.basics.specs.Reading.{◌>>=◌, each_numbered}
use Rattle.basics.specs.declared.fault.Fault.{Fault}
use Rattle.rule_boxes.specs.Conditions.{rule_holds}
use Rattle.rule_boxes.specs.Substitution.{replaced, ruled}
use Rattle.designspace.specs.declared.rule.Rule.{Rule}
use Rattle.font_rules.specs.Laws.{NumbersDiffer, named_subs}
use Rattle.font_rules.specs.RuleNumbers.{AreAllNumbered, AreNumbered, all_pairs_of, number_of, number_or, pair_of, pairs_of, sets_of}

-- ---- what a value tells

some_is : (a b : ℕ) → Some a ≡ Some b → a ≡ b
some_is a b same = ap (λ (found : Option ℕ). unwrap_or found 0) same

abbrev value_or : {A : Type 0} → A → Result A Fault → A
value_or x (Ok y) = y
value_or x (Err fault) = x

ok_is : {A : Type 0} (a b : A) → ◌≡◌ {A = Result A Fault} (Ok a) (Ok b) → a ≡ b
ok_is a b same = ap (value_or a) same

abbrev IsFault : {A : Type 0} → Result A Fault → Type 0
IsFault (Ok y) = ⊥
IsFault (Err fault) = Unit {0}

no_value : {A : Type 0} (fault : Fault) (x : A) → ◌≡◌ {A = Result A Fault} (Err fault) (Ok x) → ⊥
no_value fault x same = subst IsFault same tt

-- ---- numbers tell names apart

-- the glyph of the name has the number
abbrev pub Has : List (List ℕ × ℕ) → List ℕ → ℕ → Type 0
Has names name glyph = number_of names name ≡ Some glyph

pick_other : (test : Bool) (number glyph own : ℕ) (rest : Option ℕ) → own ≢ number → (rest ≡ Some glyph → own ≢ glyph) → cond test (Some number) rest ≡ Some glyph → own ≢ glyph
pick_other true number glyph own rest differ further is = subst (λ (n : ℕ). own ≢ n) (some_is number glyph is) differ
pick_other false number glyph own rest differ further is = further is

-- a number that no entry has isn't found
other_number : (names : List (List ℕ × ℕ)) (name : List ℕ) (own glyph : ℕ) → All (λ (entry : List ℕ × ℕ). own ≢ entry.1) names → Has names name glyph → own ≢ glyph
other_number [] name own glyph differ is = absurd (none-some glyph is)
other_number (entry ∷ names) name own glyph differ is =
    pick_other (bytes_eq name entry.0) entry.1 glyph own (number_of names name) (All-head (λ (e : List ℕ × ℕ). own ≢ e.1) entry names differ)
    (other_number names name own glyph (All-tail (λ (e : List ℕ × ℕ). own ≢ e.1) entry names differ)) is

same_step : (first second : Bool) (number glyph : ℕ) (one other own : List ℕ) (rest later : Option ℕ) → (first ≡ true → one ≡ own) → (second ≡ true → other ≡ own)
    → (rest ≡ Some glyph → number ≢ glyph) → (later ≡ Some glyph → number ≢ glyph) → (rest ≡ Some glyph → later ≡ Some glyph → one ≡ other)
    → cond first (Some number) rest ≡ Some glyph → cond second (Some number) later ≡ Some glyph → one ≡ other
same_step true true number glyph one other own rest later here there no_more no_later further is it = here refl ∙ sym (there refl)
same_step true false number glyph one other own rest later here there no_more no_later further is it = absurd (no_later it (some_is number glyph is))
same_step false true number glyph one other own rest later here there no_more no_later further is it = absurd (no_more is (some_is number glyph it))
same_step false false number glyph one other own rest later here there no_more no_later further is it = further is it

-- names with one number are one name
same_name : (names : List (List ℕ × ℕ)) → NumbersDiffer names → (one other : List ℕ) (glyph : ℕ) → Has names one glyph → Has names other glyph → one ≡ other
same_name [] differ one other glyph is it = absurd (none-some glyph is)
same_name (entry ∷ names) differ one other glyph is it =
    let apart : All (λ (e : List ℕ × ℕ). entry.1 ≢ e.1) names = λ j d within. differ 0 (suc j) d (omega arith) (omega (arith, within)) in
    let rest : NumbersDiffer names = λ i j d below within. differ (suc i) (suc j) d (omega (arith, below)) (omega (arith, within)) in
    same_step (bytes_eq one entry.0) (bytes_eq other entry.0) entry.1 glyph one other entry.0 (number_of names one) (number_of names other)
    (bytes_eq-Decides one entry.0).0 (bytes_eq-Decides other entry.0).0
    (other_number names one entry.1 glyph apart) (other_number names other entry.1 glyph apart)
    (same_name names rest one other glyph) is it

-- a test of names tells what the test of their numbers does
same_test : (names : List (List ℕ × ℕ)) → NumbersDiffer names → (one other : List ℕ) (first second : ℕ) → Has names one first → Has names other second → bytes_eq one other ≡ nat_eq first second
same_test names differ one other first second is it =
    same_from_decides (bytes_eq one other) (nat_eq first second) (bytes_eq-Decides one other) (
      λ same. same_name names differ one other first is (it ∙ ap Some (sym (eqb-true first second same))),
      λ same. (Decides-eqb first second).1 (some_is first second (sym is ∙ (ap (number_of names) same ∙ it))),
    )

-- ---- one rule

either : (names : List (List ℕ × ℕ)) (test : Bool) (one other : List ℕ) (first second : ℕ) → Has names one first → Has names other second → Has names (if test then one else other) (if test then first else second)
either names true one other first second is it = is
either names false one other first second is it = it

replaced_has : (names : List (List ℕ × ℕ)) → NumbersDiffer names → (subs : List (List ℕ × List ℕ)) (pairs : List (ℕ × ℕ)) → AreNumbered names subs pairs
    → (name : List ℕ) (glyph : ℕ) → Has names name glyph → Has names (replaced bytes_eq subs name) (replaced nat_eq pairs glyph)
replaced_has names differ [] [] are name glyph is = is
replaced_has names differ [] (pair ∷ pairs) are name glyph is = absurd are
replaced_has names differ (sub ∷ subs) [] are name glyph is = absurd are
replaced_has names differ (sub ∷ subs) (pair ∷ pairs) are name glyph is =
    subst (λ (test : Bool). Has names (if bytes_eq sub.0 name then sub.1 else replaced bytes_eq subs name) (if test then pair.1 else replaced nat_eq pairs glyph))
    (same_test names differ sub.0 name pair.0 glyph are.0 is)
    (either names (bytes_eq sub.0 name) sub.1 (replaced bytes_eq subs name) pair.1 (replaced nat_eq pairs glyph) are.1 (replaced_has names differ subs pairs are.2 name glyph is))

-- both glyphs of a substitution are there
both_there : (path : List ℕ) (rule sub : ℕ) (one other : List ℕ) (first second : Option ℕ) (pair : ℕ × ℕ)
    → (number_or path rule sub one first >>= λ glyph. number_or path rule sub other second >>= λ substitute. Ok (glyph, substitute)) ≡ Ok pair
    → (first ≡ Some pair.0) × (second ≡ Some pair.1)
both_there path rule sub one other (Some glyph) (Some substitute) pair is =
    let same : (glyph, substitute) ≡ pair = ok_is (glyph, substitute) pair is in
    (ap (λ (p : ℕ × ℕ). Some p.0) same, ap (λ (p : ℕ × ℕ). Some p.1) same)
both_there path rule sub one other (Some glyph) None pair is = absurd (no_value _ pair is)
both_there path rule sub one other None second pair is = absurd (no_value _ pair is)

-- the first of a list and the others
record Parted {A : Type 0} (first : Result A Fault) (rest : Result (List A) Fault) (whole : List A) : Type 0 where
  head : A
  tail : List A
  head_is : first ≡ Ok head
  tail_is : rest ≡ Ok tail
  whole_is : head ∷ tail ≡ whole

parted : {A : Type 0} (first : Result A Fault) (rest : Result (List A) Fault) (whole : List A) → (first >>= λ x. rest >>= λ xs. Ok (x ∷ xs)) ≡ Ok whole → Parted first rest whole
parted (Ok x) (Ok xs) whole is = record { head = x; tail = xs; head_is = refl; tail_is = refl; whole_is = ok_is (x ∷ xs) whole is }
parted (Ok x) (Err fault) whole is = absurd (no_value fault whole is)
parted (Err fault) rest whole is = absurd (no_value fault whole is)

numbered_pairs : (path : List ℕ) (names : List (List ℕ × ℕ)) (rule number : ℕ) (subs : List (List ℕ × List ℕ)) (pairs : List (ℕ × ℕ))
    → each_numbered (pair_of path names rule) number subs ≡ Ok pairs → AreNumbered names subs pairs
numbered_pairs path names rule number [] pairs is = subst (AreNumbered names []) (ok_is [] pairs is) tt
numbered_pairs path names rule number (sub ∷ subs) pairs is =
    let parts = parted (pair_of path names rule number sub) (each_numbered (pair_of path names rule) (number + 1) subs) pairs is in
    let both = both_there path rule number sub.0 sub.1 (number_of names sub.0) (number_of names sub.1) parts.head parts.head_is in
    subst (AreNumbered names (sub ∷ subs)) parts.whole_is (both.0, both.1, numbered_pairs path names rule (number + 1) subs parts.tail parts.tail_is)

-- ---- all rules

pairs_numbered : (path : List ℕ) (names : List (List ℕ × ℕ)) (number : ℕ) (rule : Rule) (pairs : List (ℕ × ℕ)) → pairs_of path names number rule ≡ Ok pairs → AreNumbered names rule.subs pairs
unfolding pairs_of
pairs_numbered path names number rule pairs is = numbered_pairs path names number 0 rule.subs pairs is

all_numbered_from : (path : List ℕ) (names : List (List ℕ × ℕ)) (number : ℕ) (rules : List Rule) (subs : List (List (ℕ × ℕ))) → each_numbered (pairs_of path names) number rules ≡ Ok subs → AreAllNumbered names rules subs
all_numbered_from path names number [] subs is = subst (AreAllNumbered names []) (ok_is [] subs is) tt
all_numbered_from path names number (rule ∷ rules) subs is =
    let parts = parted (pairs_of path names number rule) (each_numbered (pairs_of path names) (number + 1) rules) subs is in
    subst (AreAllNumbered names (rule ∷ rules)) parts.whole_is
    (pairs_numbered path names number rule parts.head parts.head_is, all_numbered_from path names (number + 1) rules parts.tail parts.tail_is)

pub all_numbered : (path : List ℕ) (names : List (List ℕ × ℕ)) (rules : List Rule) (subs : List (List (ℕ × ℕ))) → all_pairs_of path names rules ≡ Ok subs → AreAllNumbered names rules subs
all_numbered path names rules subs is = all_numbered_from path names 0 rules subs is

pub one_each : (names : List (List ℕ × ℕ)) (rules : List Rule) (subs : List (List (ℕ × ℕ))) → AreAllNumbered names rules subs → length (sets_of rules) ≡ length subs
one_each names [] [] are = refl
one_each names [] (pairs ∷ subs) are = absurd are
one_each names (rule ∷ rules) [] are = absurd are
one_each names (rule ∷ rules) (pairs ∷ subs) are = ap suc (one_each names rules subs are.1)

pub ruled_has : (names : List (List ℕ × ℕ)) → NumbersDiffer names → (rules : List Rule) (subs : List (List (ℕ × ℕ))) → AreAllNumbered names rules subs → (at : List ℤ) (name : List ℕ) (glyph : ℕ) → Has names name glyph
    → Has names (ruled bytes_eq (sets_of rules) (named_subs rules) at name) (ruled nat_eq (sets_of rules) subs at glyph)
ruled_has names differ [] [] are at name glyph is = is
ruled_has names differ [] (pairs ∷ subs) are at name glyph is = absurd are
ruled_has names differ (rule ∷ rules) [] are at name glyph is = absurd are
ruled_has names differ (rule ∷ rules) (pairs ∷ subs) are at name glyph is =
    ruled_has names differ rules subs are.1 at
    (if rule_holds rule.sets at then replaced bytes_eq rule.subs name else name)
    (if rule_holds rule.sets at then replaced nat_eq pairs glyph else glyph)
    (either names (rule_holds rule.sets at) (replaced bytes_eq rule.subs name) name (replaced nat_eq pairs glyph) glyph (replaced_has names differ rule.subs pairs are.0 name glyph is) is)
