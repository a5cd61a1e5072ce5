-- A search marks what it reaches, and all of it.
use Rattle.std.proofs.Common.{◌≡◌, ◌<◌, ◌⊎◌, inl, inr, ℕ, zero, suc, Bool, true, false, List, [], ◌∷◌, ◌++◌, length, set, replicate, refl, sym, ◌∙◌, ap, subst, arith, length-append, length-set}
use Rattle.std.specs.Prelude.{All, Contains, slice_index_or}
use Rattle.std.proofs.lemmas.Bool.{cases_eq, cases_lt}
use Rattle.std.proofs.lemmas.List.{get_or-set_same, get_or-set_other, get_or_past, get_or_default, length-replicate}
use Rattle.std.proofs.lemmas.List.Sums.{sum_by-set}
use Rattle.std.proofs.lemmas.List.Elements.{All-weaker, All-contains, Contains-push, Contains-append_left, Contains-push_cases}
use Rattle.compat.specs.References.{bases_at, Reaches, direct, onward, IsClosed}
use Rattle.compat.specs.Searches.{is_marked, unmarked, work_left, IsMarking, AreMarkings, IsSearch}
use Rattle.compat.proofs.Steps.{then_direct}

pub mark_again : (base : ℕ) (marked : List Bool) (waiting : List ℕ) → is_marked marked base ≡ true → IsMarking base marked waiting marked waiting
mark_again base marked waiting was = record {
  sizes = refl;
  here = was;
  there = λ number apart. refl;
  waits = λ number stands. stands;
  added = inl was;
  only = λ number stands. inl stands;
  work = refl;
}

pub mark_new : (base : ℕ) (marked : List Bool) (waiting : List ℕ) → base < length marked → is_marked marked base ≡ false → IsMarking base marked waiting (set marked base true) (waiting ++ base ∷ [])
mark_new base marked waiting known was = record {
  sizes = length-set marked base true;
  here = get_or-set_same marked base true false known;
  there = λ number apart. get_or-set_other marked base number true false apart;
  waits = λ number stands. Contains-append_left waiting (base ∷ []) number stands;
  added = inr (Contains-push waiting base);
  only = λ number stands. Contains-push_cases waiting base number stands;
  work = let sum = sum_by-set unmarked marked base true false known in
      let one = ap unmarked was in
      let lengths = length-append waiting (base ∷ []) in omega (arith, sum, one, lengths);
}

pub no_markings : (bases : List ℕ) (marked : List Bool) (waiting : List ℕ) → AreMarkings bases marked waiting marked waiting
no_markings bases marked waiting = record {
  sizes = refl;
  keeps = λ number was. was;
  from = λ number was. inl was;
  waits = λ number stands. stands;
  added = λ number was. inl was;
  only = λ number stands. inl stands;
  work = refl;
}

pub keeps_one : (base : ℕ) (marked : List Bool) (waiting : List ℕ) (new_marked : List Bool) (new_waiting : List ℕ) → IsMarking base marked waiting new_marked new_waiting → (number : ℕ) → is_marked marked number ≡ true → is_marked new_marked number ≡ true
keeps_one base marked waiting new_marked new_waiting marking number was =
    elim (cases_eq number base) [ inl e ↦ ap (is_marked new_marked) e ∙ marking.here | inr apart ↦ marking.there number apart ∙ was ]

pub more_markings : (bases : List ℕ) (marked : List Bool) (waiting : List ℕ) (next_marked : List Bool) (next_waiting : List ℕ) (base : ℕ) (new_marked : List Bool) (new_waiting : List ℕ)
    → AreMarkings bases marked waiting next_marked next_waiting → Contains bases base → IsMarking base next_marked next_waiting new_marked new_waiting
    → AreMarkings bases marked waiting new_marked new_waiting
more_markings bases marked waiting next_marked next_waiting base new_marked new_waiting first is one = record {
  sizes = one.sizes ∙ first.sizes;
  keeps = λ number was. keeps_one base next_marked next_waiting new_marked new_waiting one number (first.keeps number was);
  from = λ number was. elim (cases_eq number base) [
    | inl e ↦ inr (subst (Contains bases) (sym e) is)
    | inr apart ↦ first.from number (sym (one.there number apart) ∙ was)
  ];
  waits = λ number stands. one.waits number (first.waits number stands);
  added = λ number was. elim (cases_eq number base) [
    | inl e ↦ elim one.added [
      | inl before ↦ elim (first.added number (ap (is_marked next_marked) e ∙ before)) [ inl long ↦ inl long | inr stands ↦ inr (one.waits number stands) ]
      | inr stands ↦ inr (subst (Contains new_waiting) (sym e) stands)
    ]
    | inr apart ↦ elim (first.added number (sym (one.there number apart) ∙ was)) [ inl long ↦ inl long | inr stands ↦ inr (one.waits number stands) ]
  ];
  only = λ number stands. elim (one.only number stands) [
    | inl before ↦ first.only number before
    | inr e ↦ inr (subst (Contains bases) e is)
  ];
  work = one.work ∙ first.work;
}

pub all_more : (marked : List Bool) (waiting : List ℕ) (base : ℕ) (new_marked : List Bool) (new_waiting : List ℕ) (bases : List ℕ) → IsMarking base marked waiting new_marked new_waiting
    → All (λ base. is_marked marked base ≡ true) bases → All (λ base. is_marked new_marked base ≡ true) bases
all_more marked waiting base new_marked new_waiting bases one all =
    All-weaker (λ base. is_marked marked base ≡ true) (λ base. is_marked new_marked base ≡ true) (keeps_one base marked waiting new_marked new_waiting one) bases all

-- ---- the search

pub none_marked : (graph : List (List ℕ)) (count number : ℕ) → is_marked (replicate count false) number ≡ false
none_marked graph zero number = refl
none_marked graph (suc count) zero = refl
none_marked graph (suc count) (suc number) = none_marked graph count number

pub search_begins : (graph : List (List ℕ)) (start : ℕ) (marked : List Bool) (waiting : List ℕ) → start < length graph → marked ≡ replicate (length graph) false → waiting ≡ start ∷ [] → IsSearch graph start marked waiting
search_begins graph start marked waiting known none one =
    let untouched : (number : ℕ) → is_marked marked number ≡ true → ⊥ = λ number was. let never = none_marked graph (length graph) number in let same = ap (λ m. is_marked m number) none in cc in
    let first : Contains (start ∷ []) start = Contains-push [] start in
    let alone : (number : ℕ) → Contains waiting number → start ≡ number = λ number stands. elim (Contains-push_cases [] start number (subst (λ w. Contains w number) one stands)) [ inl nowhere ↦ let less = nowhere.1 in absurd (omega (arith, less)) | inr e ↦ e ] in
    record {
      sizes = ap length none ∙ length-replicate (length graph) false;
      sound = λ number was. absurd (untouched number was);
      waits = λ number stands. inl (sym (alone number stands));
      within = λ number stands. subst (λ n. n < length graph) (alone number stands) known;
      closed = λ number which. elim which [
        | inl e ↦ inl (subst (λ w. Contains w number) (sym one) (subst (Contains (start ∷ [])) (sym e) first))
        | inr was ↦ absurd (untouched number was)
      ];
    }

reached : (graph : List (List ℕ)) (start next base : ℕ) (marked : List Bool) → (next ≡ start) ⊎ Reaches graph start next → Contains (bases_at graph next) base → Reaches graph start base
reached graph start next base marked how refers =
    elim how [ inl e ↦ direct (subst (λ n. Contains (bases_at graph n) base) e refers) | inr reaches ↦ then_direct graph base reaches refers ]

pub search_goes : (graph : List (List ℕ)) (start : ℕ) (marked : List Bool) (waiting rest : List ℕ) (next : ℕ) (new_marked : List Bool) (new_waiting : List ℕ)
    → IsClosed graph → IsSearch graph start marked waiting → waiting ≡ rest ++ next ∷ [] → AreMarkings (bases_at graph next) marked rest new_marked new_waiting
    → All (λ base. is_marked new_marked base ≡ true) (bases_at graph next) → IsSearch graph start new_marked new_waiting
search_goes graph start marked waiting rest next new_marked new_waiting closed search popped markings all =
    let stands : Contains waiting next = subst (λ w. Contains w next) (sym popped) (Contains-push rest next) in
    let still : (number : ℕ) → Contains rest number → Contains waiting number = λ number is. subst (λ w. Contains w number) (sym popped) (Contains-append_left rest (next ∷ []) number is) in
    let how : (next ≡ start) ⊎ Reaches graph start next = elim (search.waits next stands) [ inl e ↦ inl e | inr was ↦ inr (search.sound next was) ] in
    record {
      sizes = markings.sizes ∙ search.sizes;
      sound = λ number was. elim (markings.from number was) [
        | inl before ↦ search.sound number before
        | inr refers ↦ reached graph start next number marked how refers
      ];
      waits = λ number is. elim (markings.only number is) [
        | inl before ↦ elim (search.waits number (still number before)) [ inl e ↦ inl e | inr was ↦ inr (markings.keeps number was) ]
        | inr refers ↦ inr (All-contains (λ base. is_marked new_marked base ≡ true) (bases_at graph next) number all refers)
      ];
      within = λ number is. elim (markings.only number is) [
        | inl before ↦ search.within number (still number before)
        | inr refers ↦ All-contains (λ base. base < length graph) (bases_at graph next) number (closed next) refers
      ];
      closed = λ number which.
          let go : (number ≡ start) ⊎ (is_marked marked number ≡ true) → Contains new_waiting number ⊎ All (λ base. is_marked new_marked base ≡ true) (bases_at graph number) =
          λ which. elim (search.closed number which) [
            | inl before ↦ elim (Contains-push_cases rest next number (subst (λ w. Contains w number) popped before)) [
              | inl is ↦ inl (markings.waits number is)
              | inr e ↦ inr (subst (λ n. All (λ base. is_marked new_marked base ≡ true) (bases_at graph n)) e all)
            ]
            | inr done ↦ inr (All-weaker (λ base. is_marked marked base ≡ true) (λ base. is_marked new_marked base ≡ true) markings.keeps (bases_at graph number) done)
          ] in
          elim which [
            | inl e ↦ go (inl e)
            | inr was ↦ elim (markings.added number was) [ inl before ↦ go (inr before) | inr is ↦ inl is ]
          ];
    }

pub marked_on : (graph : List (List ℕ)) (start : ℕ) (marked : List Bool) → ((number : ℕ) → (number ≡ start) ⊎ (is_marked marked number ≡ true) → All (λ base. is_marked marked base ≡ true) (bases_at graph number))
    → {from to : ℕ} → (from ≡ start) ⊎ (is_marked marked from ≡ true) → Reaches graph from to → is_marked marked to ≡ true
marked_on graph start marked closed {from} {to} which (direct refers) = All-contains (λ base. is_marked marked base ≡ true) (bases_at graph from) to (closed from which) refers
marked_on graph start marked closed {from} {to} which (onward {next} refers more) =
    marked_on graph start marked closed (inr (All-contains (λ base. is_marked marked base ≡ true) (bases_at graph from) next (closed from which) refers)) more

pub search_ends : (graph : List (List ℕ)) (start : ℕ) (marked : List Bool) (waiting : List ℕ) → IsSearch graph start marked waiting → length waiting ≡ 0 → (to : ℕ) → Reaches graph start to → is_marked marked to ≡ true
search_ends graph start marked waiting search empty to reaches =
    marked_on graph start marked (λ number which. elim (search.closed number which) [ inl stands ↦ let less = stands.1 in absurd (omega (arith, less, empty)) | inr all ↦ all ]) (inl refl) reaches

refers_known : (graph : List (List ℕ)) (from to : ℕ) → Contains (bases_at graph from) to → from < length graph
refers_known graph from to refers = elim (cases_lt from (length graph)) [
  | inl less ↦ less
  | inr past ↦ let none = ap length (get_or_past graph from [] past) in let less = refers.1 in absurd (omega (arith, none, less))
]

pub reaches_known : (graph : List (List ℕ)) {from to : ℕ} → Reaches graph from to → from < length graph
reaches_known graph {from} (direct refers) = refers_known graph from _ refers
reaches_known graph {from} (onward refers more) = refers_known graph from _ refers

pub next_known : (graph : List (List ℕ)) (start : ℕ) (marked : List Bool) (waiting rest : List ℕ) (next : ℕ) → IsSearch graph start marked waiting → waiting ≡ rest ++ next ∷ [] → next < length graph
next_known graph start marked waiting rest next search popped = search.within next (subst (λ w. Contains w next) (sym popped) (Contains-push rest next))

pub read_bases : (graph : List (List ℕ)) (number : ℕ) (bases found : List ℕ) → bases ≡ found → found ≡ slice_index_or graph number found → number < length graph → bases ≡ bases_at graph number
read_bases graph number bases found same is known = same ∙ (is ∙ get_or_default graph number found [] known)

pub known_bases : (graph : List (List ℕ)) (marked : List Bool) (bases : List ℕ) (number : ℕ) → IsClosed graph → length marked ≡ length graph → bases ≡ bases_at graph number → All (λ base. base < length marked) bases
known_bases graph marked bases number closed sizes same = rw (same, sizes) (closed number)

pub less_work : (waiting rest : List ℕ) (next : ℕ) (bases : List ℕ) (marked new_marked : List Bool) (new_waiting : List ℕ) → waiting ≡ rest ++ next ∷ [] → AreMarkings bases marked rest new_marked new_waiting → work_left new_marked new_waiting < work_left marked waiting
less_work waiting rest next bases marked new_marked new_waiting popped markings =
    let lengths = ap length popped ∙ length-append rest (next ∷ []) in omega (arith, lengths, markings.work)

pub found : (graph : List (List ℕ)) (start : ℕ) (marked : List Bool) (waiting : List ℕ) (mark : Bool) → IsSearch graph start marked waiting → length waiting ≡ 0 → mark ≡ is_marked marked start
    → (mark ≡ true → Reaches graph start start) × (Reaches graph start start → mark ≡ true)
found graph start marked waiting mark search empty is =
    (λ yes. search.sound start (sym is ∙ yes), λ reaches. is ∙ search_ends graph start marked waiting search empty start reaches)
