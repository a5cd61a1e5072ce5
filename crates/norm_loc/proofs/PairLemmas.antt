-- Pairs in their order.
use Rattle.std.proofs.Common.{◌≡◌, ℕ, ℤ, ◌<ℤ◌, List, [], ◌∷◌, ◌++◌, Bool, true, false, refl, ap, sym, ◌∙◌, arith, length, append_assoc, subst, get_or, take, ◌-◌, ◌+◌, ◌≤◌, ◌<◌, drop, drop-cons, add-one, Some}
use Rattle.std.proofs.lemmas.Int.{ints}
use Rattle.std.specs.Prelude.{int_lt, not, ◌||◌, if◌then◌else◌}
use Rattle.std.specs.List.{insert, list_any}
use Rattle.std.proofs.lemmas.List.{length-append, take_more, take_all}
use Rattle.norm_loc.specs.declared.pairs.Insertion.TheVariants.{At, Taken}
use Rattle.norm_loc.specs.Inserting.{IsInsertion}
use Rattle.std.specs.Ordering.{int_eq}
use Rattle.norm_loc.specs.declared.follow.Direction.TheVariants.{Forward}
use Rattle.norm_loc.specs.AvarPairs.{avar_pairs, fixed_pairs, is_on_axis, pair_of, with_node, with_nodes, with_pair}
use Rattle.norm_loc.specs.AxisMaps.{Mapping, design_of}
use Rattle.norm_loc.specs.Normalising.{Limits}
use Rattle.norm_loc.specs.Following.{KeysRise, KeysRiseAfter}
use Rattle.norm_loc.specs.MapFaults.{against, is_against, stands_against}
use Rattle.norm_loc.proofs.Choices.{eq_false, eq_true, lt_false, lt_of, lt_true}

-- these come before pairs with a greater first number, and decide what becomes of the pair
pub record IsPrefix (p : ℤ × ℤ) (pairs prefix : List (ℤ × ℤ)) : Type 0 where
  pub greater : List (ℤ × ℤ)
  pub all : pairs ≡ prefix ++ greater
  pub placed : with_pair p pairs ≡ with_pair p prefix ++ greater
  pub against : list_any (is_against p) pairs ≡ list_any (is_against p) prefix

-- a pair with a smaller first number, with the same one, and with a greater one
pub before_greater : (p q : ℤ × ℤ) (qs : List (ℤ × ℤ)) → p.0 <ℤ q.0 → with_pair p (q ∷ qs) ≡ p ∷ q ∷ qs
before_greater p q qs less = rw (lt_true p.0 q.0 less) refl

pub after_smaller : (p q : ℤ × ℤ) (qs : List (ℤ × ℤ)) → q.0 <ℤ p.0 → with_pair p (q ∷ qs) ≡ q ∷ with_pair p qs
after_smaller p q qs less = rw (lt_false p.0 q.0 (omega (arith, ints)), lt_true q.0 p.0 less) refl

pub at_same : (p q : ℤ × ℤ) (qs : List (ℤ × ℤ)) → q.0 ≡ p.0 → with_pair p (q ∷ qs) ≡ q ∷ qs
at_same p q qs same = rw (lt_false p.0 q.0 (omega (arith, ints)), lt_false q.0 p.0 (omega (arith, ints))) refl

-- what becomes of a pair, by its first number and another's
pub data Compared (p q : ℤ × ℤ) : Type 0 where
  less : p.0 <ℤ q.0 → Compared p q
  same : q.0 ≡ p.0 → Compared p q
  greater : q.0 <ℤ p.0 → Compared p q

pub compared : (p q : ℤ × ℤ) → Compared p q
compared p q = by (int_lt p.0 q.0) (int_lt q.0 p.0) refl refl
  where
    by : (a b : Bool) → int_lt p.0 q.0 ≡ a → int_lt q.0 p.0 ≡ b → Compared p q
    by true b first second = less (lt_of p.0 q.0 first)
    by false true first second = greater (lt_of q.0 p.0 second)
    by false false first second = same (omega (arith, ints))

-- a pair whose first number differs doesn't stand against it
apart : (p q : ℤ × ℤ) (others : Bool) → (p.0 ≡ q.0 → ⊥) → (is_against p q || others) ≡ others
apart p q others differ = rw (eq_false p.0 q.0 differ) refl

-- a greater pair at the end
with_end_by : (p last q : ℤ × ℤ) (qs : List (ℤ × ℤ)) → Compared p q → with_pair p (qs ++ last ∷ []) ≡ with_pair p qs ++ last ∷ [] → with_pair p (q ∷ qs ++ last ∷ []) ≡ with_pair p (q ∷ qs) ++ last ∷ []
with_end_by p last q qs (less h) rest = before_greater p q (qs ++ last ∷ []) h ∙ sym (ap (λ (xs : List (ℤ × ℤ)). xs ++ last ∷ []) (before_greater p q qs h))
with_end_by p last q qs (same h) rest = at_same p q (qs ++ last ∷ []) h ∙ sym (ap (λ (xs : List (ℤ × ℤ)). xs ++ last ∷ []) (at_same p q qs h))
with_end_by p last q qs (greater h) rest =
    after_smaller p q (qs ++ last ∷ []) h ∙ (ap (λ (xs : List (ℤ × ℤ)). q ∷ xs) rest ∙ sym (ap (λ (xs : List (ℤ × ℤ)). xs ++ last ∷ []) (after_smaller p q qs h)))

with_end : (p last : ℤ × ℤ) (prefix : List (ℤ × ℤ)) → p.0 <ℤ last.0 → with_pair p (prefix ++ last ∷ []) ≡ with_pair p prefix ++ last ∷ []
with_end p last [] h = before_greater p last [] h
with_end p last (q ∷ qs) h = with_end_by p last q qs (compared p q) (with_end p last qs h)

any_end : (p last : ℤ × ℤ) (prefix : List (ℤ × ℤ)) → p.0 <ℤ last.0 → list_any (is_against p) (prefix ++ last ∷ []) ≡ list_any (is_against p) prefix
any_end p last [] h = apart p last false (λ (e : p.0 ≡ last.0). omega (arith, ints))
any_end p last (q ∷ qs) h = ap (λ (b : Bool). is_against p q || b) (any_end p last qs h)

-- the last pair is greater: those before it are enough
pub prefix_before : (p last : ℤ × ℤ) (pairs before : List (ℤ × ℤ)) → IsPrefix p pairs (before ++ last ∷ []) → p.0 <ℤ last.0 → IsPrefix p pairs before
prefix_before p last pairs before f h = record {
  greater = last ∷ f.greater;
  all = f.all ∙ append_assoc before (last ∷ []) f.greater;
  placed = f.placed ∙ (ap (λ (xs : List (ℤ × ℤ)). xs ++ f.greater) (with_end p last before h) ∙ append_assoc (with_pair p before) (last ∷ []) f.greater);
  against = f.against ∙ any_end p last before h;
}

-- ---- pairs that rise

keys_tail : (q : ℤ × ℤ) (qs : List (ℤ × ℤ)) → KeysRiseAfter Forward q qs → KeysRise Forward qs
keys_tail q [] rise = tt
keys_tail q (r ∷ rs) rise = rise.1

prefix_after : (n : ℤ × ℤ) (prefix back : List (ℤ × ℤ)) → KeysRiseAfter Forward n (prefix ++ back) → KeysRiseAfter Forward n prefix
prefix_after n [] back rise = tt
prefix_after n (m ∷ ms) back rise = (rise.0, prefix_after m ms back rise.1)

prefix_rises : (prefix back : List (ℤ × ℤ)) → KeysRise Forward (prefix ++ back) → KeysRise Forward prefix
prefix_rises [] back rise = tt
prefix_rises (n ∷ ns) back rise = prefix_after n ns back rise

below_end : (q last : ℤ × ℤ) (qs : List (ℤ × ℤ)) → KeysRiseAfter Forward q (qs ++ last ∷ []) → q.0 <ℤ last.0
below_end q last [] rise = rise.0
below_end q last (r ∷ rs) rise =
    let further : r.0 <ℤ last.0 = below_end r last rs rise.1 in
    let step : q.0 <ℤ r.0 = rise.0 in
    omega (arith, ints)

-- the last pair is smaller
after_end : (p last : ℤ × ℤ) (others : List (ℤ × ℤ)) → KeysRise Forward (others ++ last ∷ []) → last.0 <ℤ p.0
    → (with_pair p (others ++ last ∷ []) ≡ (others ++ last ∷ []) ++ p ∷ []) × (list_any (is_against p) (others ++ last ∷ []) ≡ false)
after_end p last [] rise h = (after_smaller p last [] h, apart p last false (λ (e : p.0 ≡ last.0). omega (arith, ints)))
after_end p last (q ∷ qs) rise h =
    let rest = after_end p last qs (keys_tail q (qs ++ last ∷ []) rise) h in
    let under : q.0 <ℤ last.0 = below_end q last qs rise in
    let small : q.0 <ℤ p.0 = omega (arith, ints) in (
      after_smaller p q (qs ++ last ∷ []) small ∙ ap (λ (xs : List (ℤ × ℤ)). q ∷ xs) rest.0,
      apart p q (list_any (is_against p) (qs ++ last ∷ [])) (λ (e : p.0 ≡ q.0). omega (arith, ints)) ∙ rest.1,
    )

or_no : (b : Bool) → (b || false) ≡ b
or_no true = refl
or_no false = refl

-- the last pair has the same first number
same_end : (p last : ℤ × ℤ) (others : List (ℤ × ℤ)) → KeysRise Forward (others ++ last ∷ []) → last.0 ≡ p.0
    → (with_pair p (others ++ last ∷ []) ≡ others ++ last ∷ []) × (list_any (is_against p) (others ++ last ∷ []) ≡ is_against p last)
same_end p last [] rise h = (at_same p last [] h, or_no (is_against p last))
same_end p last (q ∷ qs) rise h =
    let rest = same_end p last qs (keys_tail q (qs ++ last ∷ []) rise) h in
    let under : q.0 <ℤ last.0 = below_end q last qs rise in
    let small : q.0 <ℤ p.0 = omega (arith, ints) in (
      after_smaller p q (qs ++ last ∷ []) small ∙ ap (λ (xs : List (ℤ × ℤ)). q ∷ xs) rest.0,
      apart p q (list_any (is_against p) (qs ++ last ∷ [])) (λ (e : p.0 ≡ q.0). omega (arith, ints)) ∙ rest.1,
    )

against_same : (p q : ℤ × ℤ) → q.0 ≡ p.0 → is_against p q ≡ not (int_eq p.1 q.1)
against_same p q h = rw (eq_true p.0 q.0 (sym h)) refl

-- ---- where a pair belongs

insert_at : (prefix back : List (ℤ × ℤ)) (p : ℤ × ℤ) → insert (prefix ++ back) (length prefix) p ≡ prefix ++ p ∷ back
insert_at [] back p = refl
insert_at (q ∷ qs) back p = ap (λ (xs : List (ℤ × ℤ)). q ∷ xs) (insert_at qs back p)

length_prefix : (prefix back pairs : List (ℤ × ℤ)) → pairs ≡ prefix ++ back → length prefix ≤ length pairs
length_prefix prefix back pairs e = omega (arith, length-append prefix back, ap (λ (xs : List (ℤ × ℤ)). length xs) e)

-- where no pair of the prefix is greater or the same, the pair belongs after it
pub insert_last : (p : ℤ × ℤ) (pairs prefix : List (ℤ × ℤ)) → IsPrefix p pairs prefix → with_pair p prefix ≡ prefix ++ p ∷ [] → list_any (is_against p) prefix ≡ false → IsInsertion p pairs (At (length prefix))
insert_last p pairs prefix f last none = (
  length_prefix prefix f.greater pairs f.all,
  ap (λ (xs : List (ℤ × ℤ)). insert xs (length prefix) p) f.all ∙ (insert_at prefix f.greater p ∙ sym (f.placed ∙ (ap (λ (xs : List (ℤ × ℤ)). xs ++ f.greater) last ∙ append_assoc prefix (p ∷ []) f.greater))),
  f.against ∙ none,
)

pub insert_first : (p : ℤ × ℤ) (pairs prefix : List (ℤ × ℤ)) → IsPrefix p pairs prefix → prefix ≡ [] → IsInsertion p pairs (At (length prefix))
insert_first p pairs prefix f e =
    insert_last p pairs prefix f (ap (with_pair p) e ∙ sym (ap (λ (xs : List (ℤ × ℤ)). xs ++ p ∷ []) e)) (ap (list_any (is_against p)) e)

pub insert_after : (p last : ℤ × ℤ) (pairs prefix others : List (ℤ × ℤ)) → KeysRise Forward pairs → IsPrefix p pairs prefix → prefix ≡ others ++ last ∷ [] → last.0 <ℤ p.0 → IsInsertion p pairs (At (length prefix))
insert_after p last pairs prefix others rise f e h =
    let own : KeysRise Forward prefix = prefix_rises prefix f.greater (subst (KeysRise Forward) f.all rise) in
    let end = after_end p last others (subst (KeysRise Forward) e own) h in
    insert_last p pairs prefix f (ap (with_pair p) e ∙ (end.0 ∙ sym (ap (λ (xs : List (ℤ × ℤ)). xs ++ p ∷ []) e))) (ap (list_any (is_against p)) e ∙ end.1)

pub insert_taken : (p last : ℤ × ℤ) (pairs prefix others : List (ℤ × ℤ)) → KeysRise Forward pairs → IsPrefix p pairs prefix → prefix ≡ others ++ last ∷ [] → last.0 ≡ p.0 → IsInsertion p pairs (Taken (int_eq p.1 last.1))
insert_taken p last pairs prefix others rise f e h =
    let own : KeysRise Forward prefix = prefix_rises prefix f.greater (subst (KeysRise Forward) f.all rise) in
    let end = same_end p last others (subst (KeysRise Forward) e own) h in (
      f.all ∙ sym (f.placed ∙ ap (λ (xs : List (ℤ × ℤ)). xs ++ f.greater) (ap (with_pair p) e ∙ (end.0 ∙ sym e))),
      f.against ∙ (ap (list_any (is_against p)) e ∙ (end.1 ∙ against_same p last h)),
    )

-- a list with one item or more ends with its last one
pub ends_with : (xs : List (ℤ × ℤ)) (x : ℤ × ℤ) → 1 ≤ length xs → x ≡ get_or xs (length xs - 1) x → xs ≡ take (length xs - 1) xs ++ x ∷ []
ends_with xs x some e =
    let whole : length xs - 1 + 1 ≡ length xs = omega arith in
    let all : take (length xs) xs ≡ xs = take_all (length xs) xs (omega arith) in
    sym all ∙ (ap (λ (n : ℕ). take n xs) (sym whole) ∙ (take_more xs (length xs - 1) x (omega arith) ∙ ap (λ (y : ℤ × ℤ). take (length xs - 1) xs ++ y ∷ []) (sym e)))

-- ---- a new pair keeps them rising

with_after_by : (q p r : ℤ × ℤ) (rs : List (ℤ × ℤ)) → Compared p r → q.0 <ℤ p.0 → KeysRiseAfter Forward q (r ∷ rs) → (r.0 <ℤ p.0 → KeysRiseAfter Forward r (with_pair p rs)) → KeysRiseAfter Forward q (with_pair p (r ∷ rs))
with_after_by q p r rs (less h) low rise rest = subst (KeysRiseAfter Forward q) (sym (before_greater p r rs h)) (low, (h, rise.1))
with_after_by q p r rs (same h) low rise rest = subst (KeysRiseAfter Forward q) (sym (at_same p r rs h)) rise
with_after_by q p r rs (greater h) low rise rest = subst (KeysRiseAfter Forward q) (sym (after_smaller p r rs h)) (rise.0, rest h)

with_after : (q p : ℤ × ℤ) (qs : List (ℤ × ℤ)) → q.0 <ℤ p.0 → KeysRiseAfter Forward q qs → KeysRiseAfter Forward q (with_pair p qs)
with_after q p [] low rise = (low, tt)
with_after q p (r ∷ rs) low rise = with_after_by q p r rs (compared p r) low rise (λ (h : r.0 <ℤ p.0). with_after r p rs h rise.1)

with_pair_by : (p q : ℤ × ℤ) (qs : List (ℤ × ℤ)) → Compared p q → KeysRise Forward (q ∷ qs) → KeysRise Forward (with_pair p (q ∷ qs))
with_pair_by p q qs (less h) rise = subst (KeysRise Forward) (sym (before_greater p q qs h)) (h, rise)
with_pair_by p q qs (same h) rise = subst (KeysRise Forward) (sym (at_same p q qs h)) rise
with_pair_by p q qs (greater h) rise = subst (KeysRise Forward) (sym (after_smaller p q qs h)) (with_after q p qs h rise)

pub with_pair_rises : (p : ℤ × ℤ) (pairs : List (ℤ × ℤ)) → KeysRise Forward pairs → KeysRise Forward (with_pair p pairs)
with_pair_rises p [] rise = tt
with_pair_rises p (q ∷ qs) rise = with_pair_by p q qs (compared p q) rise

with_node_by : (b : Bool) (pair : ℤ × ℤ) (pairs : List (ℤ × ℤ)) → KeysRise Forward pairs → KeysRise Forward (if b then with_pair pair pairs else pairs)
with_node_by true pair pairs rise = with_pair_rises pair pairs rise
with_node_by false pair pairs rise = rise

pub with_node_rises : (user design : Limits) (node : ℤ × ℤ) (pairs : List (ℤ × ℤ)) → KeysRise Forward pairs → KeysRise Forward (with_node user design node pairs)
with_node_rises user design node pairs rise = with_node_by (is_on_axis user node) (pair_of user design node) pairs rise

with_nodes_rise : (user design : Limits) (pairs nodes : List (ℤ × ℤ)) → KeysRise Forward pairs → KeysRise Forward (with_nodes user design pairs nodes)
with_nodes_rise user design pairs [] rise = rise
with_nodes_rise user design pairs (node ∷ nodes) rise = with_nodes_rise user design (with_node user design node pairs) nodes (with_node_rises user design node pairs rise)

fixed_rise : KeysRise Forward fixed_pairs
fixed_rise = (omega (arith, ints), (omega (arith, ints), tt))

pub avar_pairs_rise : (m : Mapping) → KeysRise Forward (avar_pairs m)
avar_pairs_rise m = with_nodes_rise m.user (design_of m) fixed_pairs m.nodes fixed_rise

-- ---- one node more

split_at : (nodes : List (ℤ × ℤ)) (i : ℕ) (node : ℤ × ℤ) → i < length nodes → node ≡ get_or nodes i node → drop i nodes ≡ node ∷ drop (i + 1) nodes
split_at nodes i node within is = rw (add-one, drop-cons nodes i node, ← is) refl

pub next_leads : (user design : Limits) (pairs new nodes : List (ℤ × ℤ)) (i : ℕ) (node : ℤ × ℤ) → i < length nodes → node ≡ get_or nodes i node → new ≡ with_node user design node pairs
    → with_nodes user design new (drop (i + 1) nodes) ≡ with_nodes user design pairs (drop i nodes)
next_leads user design pairs new nodes i node within is e =
    ap (λ (xs : List (ℤ × ℤ)). with_nodes user design xs (drop (i + 1) nodes)) e ∙ sym (ap (with_nodes user design pairs) (split_at nodes i node within is))

pub next_alone : (user design : Limits) (pairs new nodes : List (ℤ × ℤ)) (i : ℕ) (node : ℤ × ℤ) → i < length nodes → node ≡ get_or nodes i node → new ≡ with_node user design node pairs → stands_against user design node pairs ≡ false
    → against user design new (i + 1) (drop (i + 1) nodes) ≡ against user design pairs i (drop i nodes)
next_alone user design pairs new nodes i node within is e alone =
    ap (λ (xs : List (ℤ × ℤ)). against user design xs (i + 1) (drop (i + 1) nodes)) e
    ∙ sym (ap (against user design pairs i) (split_at nodes i node within is) ∙ ap (λ (b : Bool). if b then Some i else against user design (with_node user design node pairs) (i + 1) (drop (i + 1) nodes)) alone)
