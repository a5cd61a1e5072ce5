-- A search that goes by what was marked before marks all that its root reaches.
use Rattle.std.proofs.Common.{◌≡◌, ◌<◌, ◌⊎◌, inl, inr, ℕ, zero, suc, Bool, true, false, List, [], ◌∷◌, ◌++◌, length, set, replicate, sym, ◌∙◌, ap, subst, refl, arith, length-set}
use Rattle.std.specs.Prelude.{◌↔◌, All, Contains, IsTrue}
use Rattle.std.proofs.lemmas.Bool.{cases_eq}
use Rattle.std.proofs.lemmas.List.{get_or-set_same, get_or-set_other}
use Rattle.std.proofs.lemmas.List.Elements.{All-weaker, All-contains, All-push, Contains-push, Contains-append_left, Contains-push_cases}
use Rattle.compat.specs.References.{bases_at, Reaches, IsClosed}
use Rattle.compat.specs.Searches.{is_marked, AreClear, AreReferrers, AreSettled, IsMarking, AreMarkings, IsSpreading}
use Rattle.compat.proofs.Marking.{keeps_one, marked_on, none_marked}

pub spreading_begins : (graph : List (List ℕ)) (root : ℕ) (marked new_marked : List Bool) (waiting new_waiting : List ℕ) → root < length graph → length marked ≡ length graph → AreSettled graph marked → waiting ≡ []
    → IsMarking root marked waiting new_marked new_waiting → IsSpreading graph new_marked new_waiting
spreading_begins graph root marked new_marked waiting new_waiting known sizes settled empty marking =
    let none = ap length empty in record {
      sizes = marking.sizes ∙ sizes;
      within = λ number stands. elim (marking.only number stands) [
        | inl before ↦ let less = before.1 in absurd (omega (arith, none, less))
        | inr e ↦ subst (λ n. n < length graph) e known
      ];
      settled = λ number was.
          let all = λ (before : is_marked marked number ≡ true). All-weaker (λ base. is_marked marked base ≡ true) (λ base. is_marked new_marked base ≡ true) (keeps_one root marked waiting new_marked new_waiting marking) (bases_at graph number) (settled number before) in
          elim (cases_eq number root) [
            | inl e ↦ elim marking.added [
              | inl before ↦ inr (all (ap (is_marked marked) e ∙ before))
              | inr stands ↦ inl (subst (Contains new_waiting) (sym e) stands)
            ]
            | inr apart ↦ inr (all (sym (marking.there number apart) ∙ was))
          ];
    }

pub spreads : (graph : List (List ℕ)) (marked : List Bool) (waiting rest : List ℕ) (next : ℕ) (new_marked : List Bool) (new_waiting : List ℕ)
    → IsClosed graph → IsSpreading graph marked waiting → waiting ≡ rest ++ next ∷ [] → AreMarkings (bases_at graph next) marked rest new_marked new_waiting
    → All (λ base. is_marked new_marked base ≡ true) (bases_at graph next) → IsSpreading graph new_marked new_waiting
spreads graph marked waiting rest next new_marked new_waiting closed spreading popped markings all =
    let still : (number : ℕ) → Contains rest number → Contains waiting number = λ number is. subst (λ w. Contains w number) (sym popped) (Contains-append_left rest (next ∷ []) number is) in
    record {
      sizes = markings.sizes ∙ spreading.sizes;
      within = λ number is. elim (markings.only number is) [
        | inl before ↦ spreading.within number (still number before)
        | inr refers ↦ All-contains (λ base. base < length graph) (bases_at graph next) number (closed next) refers
      ];
      settled = λ number was. elim (markings.added number was) [
        | inl before ↦ elim (spreading.settled number before) [
          | inl stands ↦ elim (Contains-push_cases rest next number (subst (λ w. Contains w number) popped stands)) [
            | inl is ↦ inl (markings.waits number is)
            | inr e ↦ inr (subst (λ n. All (λ base. is_marked new_marked base ≡ true) (bases_at graph n)) e all)
          ]
          | inr done ↦ inr (All-weaker (λ base. is_marked marked base ≡ true) (λ base. is_marked new_marked base ≡ true) markings.keeps (bases_at graph number) done)
        ]
        | inr is ↦ inl is
      ];
    }

pub waits_known : (graph : List (List ℕ)) (marked : List Bool) (waiting rest : List ℕ) (next : ℕ) → IsSpreading graph marked waiting → waiting ≡ rest ++ next ∷ [] → next < length graph
waits_known graph marked waiting rest next spreading popped = spreading.within next (subst (λ w. Contains w next) (sym popped) (Contains-push rest next))

pub spreading_ends : (graph : List (List ℕ)) (marked : List Bool) (waiting : List ℕ) → IsSpreading graph marked waiting → length waiting ≡ 0 → AreSettled graph marked
spreading_ends graph marked waiting spreading empty number was =
    elim (spreading.settled number was) [ inl stands ↦ let less = stands.1 in absurd (omega (arith, less, empty)) | inr all ↦ all ]

-- ---- what is clear of cycles

pub none_clear : (graph : List (List ℕ)) (clear : List Bool) (count : ℕ) → clear ≡ replicate count false → AreClear graph clear
none_clear graph clear count none number was = let never = none_marked graph count number in let same = ap (λ m. is_marked m number) none in absurd (cc (never, same, was))

pub none_settled : (graph : List (List ℕ)) (marked : List Bool) (count : ℕ) → marked ≡ replicate count false → AreSettled graph marked
none_settled graph marked count none number was = let never = none_marked graph count number in let same = ap (λ m. is_marked m number) none in absurd (cc (never, same, was))

-- one that isn't marked, where all to which it refers are
clear_here : (graph : List (List ℕ)) (number : ℕ) (marked : List Bool) → AreSettled graph marked → is_marked marked number ≡ false → All (λ base. is_marked marked base ≡ true) (bases_at graph number) → ¬ Reaches graph number number
clear_here graph number marked settled apart all reaches =
    let closed : (other : ℕ) → (other ≡ number) ⊎ (is_marked marked other ≡ true) → All (λ base. is_marked marked base ≡ true) (bases_at graph other) =
    λ other which. elim which [
      | inl e ↦ subst (λ n. All (λ base. is_marked marked base ≡ true) (bases_at graph n)) (sym e) all
      | inr was ↦ settled other was
    ] in
    let found = marked_on graph number marked closed (inl refl) reaches in cc (found, apart)

pub more_clear : (graph : List (List ℕ)) (clear marked : List Bool) (number : ℕ) (is : Bool) → number < length clear → AreClear graph clear → AreSettled graph marked → is_marked marked number ≡ false
    → (is ≡ true → All (λ base. is_marked marked base ≡ true) (bases_at graph number)) → AreClear graph (set clear number is)
more_clear graph clear marked number is known before settled apart all other was =
    elim (cases_eq other number) [
      | inl e ↦ subst (λ n. ¬ Reaches graph n n) (sym e) (clear_here graph number marked settled apart (all (sym (get_or-set_same clear number is false known) ∙ (sym (ap (is_marked (set clear number is)) e) ∙ was))))
      | inr distinct ↦ before other (sym (get_or-set_other clear number other is false distinct) ∙ was)
    ]

-- ---- those that refer

pub no_referrers : (count : ℕ) (referrers : List (List ℕ)) → length referrers ≡ count → ((number : ℕ) → bases_at referrers number ≡ []) → AreReferrers count referrers
no_referrers count referrers sizes none = record {
  sizes = sizes;
  below = λ number. subst (All (λ referrer. referrer < count)) (sym (none number)) (λ k d less. absurd (omega (arith, less)));
}

pub more_referrers : (count : ℕ) (referrers : List (List ℕ)) (base number : ℕ) (new_referrers : List (List ℕ)) (those : List ℕ) → base < count → number < count → AreReferrers count referrers
    → those ≡ bases_at referrers base ++ number ∷ [] → new_referrers ≡ set referrers base those → AreReferrers count new_referrers
more_referrers count referrers base number new_referrers those base_known known before more becomes = rw becomes (record {
  sizes = length-set referrers base those ∙ before.sizes;
  below = λ other. elim (cases_eq other base) [
    | inl e ↦ subst (All (λ referrer. referrer < count))
        (sym (ap (bases_at (set referrers base those)) e ∙ (get_or-set_same referrers base those [] (omega (arith, base_known, before.sizes)) ∙ more)))
        (All-push (λ referrer. referrer < count) (bases_at referrers base) number (before.below base) known)
    | inr apart ↦ subst (All (λ referrer. referrer < count)) (sym (get_or-set_other referrers base other those [] apart)) (before.below other)
  ];
})

-- ---- bases that are read

pub all_below : (graph : List (List ℕ)) (number : ℕ) (bases : List ℕ) (marked kept : List Bool) → bases ≡ bases_at graph number → IsClosed graph → marked ≡ kept → length kept ≡ length graph → All (λ base. base < length marked) bases
all_below graph number bases marked kept same closed is sizes = rw (same, is, sizes) (closed number)

pub test_read : (graph : List (List ℕ)) (number : ℕ) (bases : List ℕ) (marked kept : List Bool) (found : Bool) → bases ≡ bases_at graph number → marked ≡ kept → (IsTrue found ↔ All (λ base. is_marked marked base ≡ true) bases)
    → found ≡ true → All (λ base. is_marked kept base ≡ true) (bases_at graph number)
test_read graph number bases marked kept found same is test holds =
    subst (λ m. All (λ base. is_marked m base ≡ true) (bases_at graph number)) is (subst (All (λ base. is_marked marked base ≡ true)) same (test.0 holds))

pub none_more : (graph : List (List ℕ)) → ((number : ℕ) → bases_at graph number ≡ []) → (number : ℕ) → bases_at (graph ++ [] ∷ []) number ≡ []
none_more [] none zero = refl
none_more [] none (suc number) = refl
none_more (bases ∷ graph) none zero = none zero
none_more (bases ∷ graph) none (suc number) = none_more graph (λ other. none (suc other)) number
