-- The pairs lead from each node's normalised input to its normalised output.
use Rattle.std.proofs.Common.{◌≡◌, ℕ, ℤ, zero, suc, ◌+◌, ◌<◌, ◌<ℤ◌, ◌⊎◌, inl, inr, Bool, true, false, List, [], ◌∷◌, length, None, refl, sym, ap, ◌∙◌, subst, arith, rules}
use Rattle.std.proofs.lemmas.Int.{ints}
use Rattle.std.specs.Prelude.{if◌then◌else◌, IsTrue, Contains, slice_index_or, not}
use Rattle.std.specs.List.{list_any}
use Rattle.std.specs.Ordering.{int_eq}
use Rattle.norm_loc.specs.declared.follow.Direction.TheVariants.{Forward}
use Rattle.norm_loc.specs.AvarPairs.{avar_pairs, fixed_pairs, is_on_axis, pair_of, with_node, with_nodes, with_pair}
use Rattle.norm_loc.specs.AxisMaps.{design_of}
use Rattle.norm_loc.specs.Following.{KeysRise, KeysRiseAfter, followed, followed_after}
use Rattle.norm_loc.specs.Laws.{NodesAreMet}
use Rattle.norm_loc.specs.MapFaults.{against, is_against, stands_against}
use Rattle.norm_loc.specs.Normalising.{Limits}
use Rattle.norm_loc.proofs.Choices.{else_none, eq_of, eq_true, lt_false, lt_true, neither}
use Rattle.norm_loc.proofs.MapLemmas.{faultless_parts}
use Rattle.norm_loc.proofs.PairLemmas.{Compared, after_smaller, at_same, avar_pairs_rise, before_greater, compared, greater, less, same}
use Rattle.norm_loc.proofs.RisingLemmas.{line_start, moved_at}

-- a pair is among others
abbrev pub Has : List (ℤ × ℤ) → ℤ × ℤ → Type 0
Has [] p = ⊥
Has (q ∷ qs) p = (q ≡ p) ⊎ Has qs p

has_by : (q : ℤ × ℤ) (qs : List (ℤ × ℤ)) (p : ℤ × ℤ) (k : ℕ) → k < length (q ∷ qs) → slice_index_or (q ∷ qs) k p ≡ p → Has (q ∷ qs) p
has_by q qs p zero within e = inl e
has_by q [] p (suc k) within e = absurd (omega arith)
has_by q (r ∷ rs) p (suc k) within e = inr (has_by r rs p k (omega arith) e)

has : (ps : List (ℤ × ℤ)) (p : ℤ × ℤ) → Contains ps p → Has ps p
has [] p (k, within, e) = absurd (omega arith)
has (q ∷ qs) p (k, within, e) = has_by q qs p k within e

-- ---- following the pairs at one of them

pub at_first : (n : ℤ × ℤ) (ns : List (ℤ × ℤ)) → KeysRiseAfter Forward n ns → followed_after Forward n ns n.0 ≡ n.1
at_first n [] rise = moved_at n.0 n.1
at_first n (m ∷ ms) rise = rw (lt_true n.0 m.0 rise.0) (line_start n.0 n.1 m.0 m.1 rise.0)

later : (n p : ℤ × ℤ) (ns : List (ℤ × ℤ)) → KeysRiseAfter Forward n ns → Has ns p → n.0 <ℤ p.0
later n p [] rise h = absurd h
later n p (m ∷ ms) rise (inl e) = subst (λ (q : ℤ × ℤ). n.0 <ℤ q.0) e rise.0
later n p (m ∷ ms) rise (inr h) =
    let further : m.0 <ℤ p.0 = later m p ms rise.1 h in
    let step : n.0 <ℤ m.0 = rise.0 in
    omega (arith, ints)

at_later : (n p : ℤ × ℤ) (ns : List (ℤ × ℤ)) → KeysRiseAfter Forward n ns → Has ns p → followed_after Forward n ns p.0 ≡ p.1
at_later n p [] rise h = absurd h
at_later n p (m ∷ ms) rise (inl e) =
    subst (λ (q : ℤ × ℤ). followed_after Forward n (m ∷ ms) q.0 ≡ q.1) e (rw (lt_false m.0 m.0 (omega (arith, ints))) (at_first m ms rise.1))
at_later n p (m ∷ ms) rise (inr h) =
    let further : m.0 <ℤ p.0 = later m p ms rise.1 h in
    rw (lt_false p.0 m.0 (omega (arith, ints))) (at_later m p ms rise.1 h)

at_pair : (ps : List (ℤ × ℤ)) (p : ℤ × ℤ) → KeysRise Forward ps → Has ps p → followed Forward ps p.0 ≡ p.1
at_pair [] p rise h = absurd h
at_pair (n ∷ ns) p rise (inl e) =
    subst (λ (q : ℤ × ℤ). followed Forward (n ∷ ns) q.0 ≡ q.1) e (rw (lt_false n.0 n.0 (omega (arith, ints))) (at_first n ns rise))
at_pair (n ∷ ns) p rise (inr h) =
    let further : n.0 <ℤ p.0 = later n p ns rise h in
    rw (lt_false p.0 n.0 (omega (arith, ints))) (at_later n p ns rise h)

-- ---- the pair of a node is among them

keeps_by : (p q r : ℤ × ℤ) (qs : List (ℤ × ℤ)) → Compared p q → Has (q ∷ qs) r → (Has qs r → Has (with_pair p qs) r) → Has (with_pair p (q ∷ qs)) r
keeps_by p q r qs (less e) h rest = subst (λ (xs : List (ℤ × ℤ)). Has xs r) (sym (before_greater p q qs e)) (inr h)
keeps_by p q r qs (same e) h rest = subst (λ (xs : List (ℤ × ℤ)). Has xs r) (sym (at_same p q qs e)) h
keeps_by p q r qs (greater e) (inl h) rest = subst (λ (xs : List (ℤ × ℤ)). Has xs r) (sym (after_smaller p q qs e)) (inl h)
keeps_by p q r qs (greater e) (inr h) rest = subst (λ (xs : List (ℤ × ℤ)). Has xs r) (sym (after_smaller p q qs e)) (inr (rest h))

keeps : (p r : ℤ × ℤ) (qs : List (ℤ × ℤ)) → Has qs r → Has (with_pair p qs) r
keeps p r [] h = absurd h
keeps p r (q ∷ qs) h = keeps_by p q r qs (compared p q) h (keeps p r qs)

abbrev pair : ℤ → ℤ → ℤ × ℤ
pair a b = (a, b)

same_pair : (p q : ℤ × ℤ) → p.0 ≡ q.0 → p.1 ≡ q.1 → q ≡ p
same_pair p q e f = sym (ap (λ (a : ℤ). pair a p.1) e ∙ ap (pair q.0) f)

not_false : (b : Bool) → not b ≡ false → b ≡ true
not_false true e = refl
not_false false e = absurd cc

second_same : (p q : ℤ × ℤ) → q.0 ≡ p.0 → is_against p q ≡ false → p.1 ≡ q.1
second_same p q e none = eq_of p.1 q.1 (not_false (int_eq p.1 q.1) (rw (eq_true p.0 q.0 (sym e)) at none))

own_by : (p q : ℤ × ℤ) (qs : List (ℤ × ℤ)) → Compared p q → is_against p q ≡ false → Has (with_pair p qs) p → Has (with_pair p (q ∷ qs)) p
own_by p q qs (less e) none rest = subst (λ (xs : List (ℤ × ℤ)). Has xs p) (sym (before_greater p q qs e)) (inl refl)
own_by p q qs (same e) none rest = subst (λ (xs : List (ℤ × ℤ)). Has xs p) (sym (at_same p q qs e)) (inl (same_pair p q (sym e) (second_same p q e none)))
own_by p q qs (greater e) none rest = subst (λ (xs : List (ℤ × ℤ)). Has xs p) (sym (after_smaller p q qs e)) (inr rest)

own : (p : ℤ × ℤ) (qs : List (ℤ × ℤ)) → list_any (is_against p) qs ≡ false → Has (with_pair p qs) p
own p [] none = inl refl
own p (q ∷ qs) none =
    let two = neither (is_against p q) (list_any (is_against p) qs) none in
    own_by p q qs (compared p q) two.0 (own p qs two.1)

either_has : (b : Bool) (p : ℤ × ℤ) (xs ys : List (ℤ × ℤ)) → Has xs p → Has ys p → Has (if b then xs else ys) p
either_has true p xs ys first second = first
either_has false p xs ys first second = second

nodes_keep : (user design : Limits) (p : ℤ × ℤ) (pairs nodes : List (ℤ × ℤ)) → Has pairs p → Has (with_nodes user design pairs nodes) p
nodes_keep user design p pairs [] h = h
nodes_keep user design p pairs (node ∷ nodes) h =
    nodes_keep user design p (with_node user design node pairs) nodes
    (either_has (is_on_axis user node) p (with_pair (pair_of user design node) pairs) pairs (keeps (pair_of user design node) p pairs h) h)

own_node : (user design : Limits) (node : ℤ × ℤ) (pairs : List (ℤ × ℤ)) → is_on_axis user node ≡ true → stands_against user design node pairs ≡ false → Has (with_node user design node pairs) (pair_of user design node)
own_node user design node pairs on none =
    let alone = rw on at none in
    rw on (own (pair_of user design node) pairs alone)

node_pairs : (user design : Limits) (node : ℤ × ℤ) (pairs : List (ℤ × ℤ)) (k : ℕ) (nodes : List (ℤ × ℤ)) → against user design pairs k nodes ≡ None → is_on_axis user node ≡ true → Has nodes node → Has (with_nodes user design pairs nodes) (pair_of user design node)
node_pairs user design node pairs k [] none on h = absurd h
node_pairs user design node pairs k (n ∷ ns) none on (inl e) =
    let two = else_none (stands_against user design n pairs) (against user design (with_node user design n pairs) (k + 1) ns) k none in
    subst (λ (x : ℤ × ℤ). Has (with_nodes user design pairs (n ∷ ns)) (pair_of user design x)) e
    (nodes_keep user design (pair_of user design n) (with_node user design n pairs) ns (own_node user design n pairs (subst (λ (x : ℤ × ℤ). is_on_axis user x ≡ true) (sym e) on) two.0))
node_pairs user design node pairs k (n ∷ ns) none on (inr h) =
    let two = else_none (stands_against user design n pairs) (against user design (with_node user design n pairs) (k + 1) ns) k none in
    node_pairs user design node (with_node user design n pairs) (k + 1) ns two.1 on h

true_of : (b : Bool) → IsTrue b → b ≡ true
true_of b h = search rules

pub nodes_are_met : NodesAreMet
nodes_are_met m node faultless among on =
    at_pair (avar_pairs m) (pair_of m.user (design_of m) node) (avar_pairs_rise m)
    (node_pairs m.user (design_of m) node fixed_pairs 0 m.nodes (faultless_parts m faultless).alone (true_of (is_on_axis m.user node) on) (has m.nodes node among))
