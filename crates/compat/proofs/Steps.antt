-- The steps of a walk keep what it keeps true, and an open base closes a cycle.
use Rattle.std.proofs.Common.{◌≡◌, ◌≢◌, ◌≤◌, ◌<◌, ◌⊎◌, inl, inr, ℕ, zero, suc, ◌+◌, ◌-◌, List, [], ◌∷◌, ◌++◌, length, map, set, Some, None, refl, sym, ◌∙◌, ap, subst, arith, add-zero, length-append, length-set}
use Rattle.std.specs.Prelude.{Contains, slice_index, slice_index_or, slice_get}
use Rattle.std.proofs.lemmas.Bool.{cases_eq}
use Rattle.std.proofs.lemmas.List.{length-map, get_or-map, get_or-set_same, get_or-set_other, get_or_append_left, take-append-le, get_or_default}
use Rattle.std.proofs.Math.Seq.{get_or-append_seam, take-append_seam}
use Rattle.std.proofs.lemmas.List.Sums.{sum_by-set, sum_by-cons}
use Rattle.std.proofs.lemmas.List.Elements.{All-nil, All-push, All-pop, All-contains, All-from_get_or, All-weaker, Contains-get_or, Contains-push, Contains-append_left, Contains-push_cases}
use Rattle.std.proofs.lemmas.Option.{same_Some, slice_get_within, slice_get-get_or}
use Rattle.compat.specs.References.{bases_at, Reaches, direct, onward, HasCycle, IsClosed, IsOrder}
use Rattle.compat.specs.Walks.{blank, mark_at, left_at, newness, count_new, IsNextBase, IsWalk, StaySeen, AreSeen, IsStep}
use Rattle.compat.specs.declared.order.Mark.{Mark}
use Rattle.compat.specs.declared.order.Mark.TheVariants.{New, Open, Done}
use Rattle.compat.specs.declared.order.Node.{Node}

-- ---- the beginning

abbrev pub fresh : List ℕ → Node
fresh bases = record { mark = New; left = length bases }

fresh_at : (graph : List (List ℕ)) (number : ℕ) → number < length graph → slice_index_or (map fresh graph) number blank ≡ fresh (bases_at graph number)
fresh_at graph number known = get_or-map fresh graph number [] blank known

all_new : (graph : List (List ℕ)) → count_new (map fresh graph) ≡ length graph
all_new [] = refl
all_new (bases ∷ graph) = let c = sum_by-cons (λ (node : Node). newness node.mark) (fresh bases) (map fresh graph) in omega (arith, c, all_new graph)

pub begins : (graph : List (List ℕ)) → IsWalk graph (map fresh graph) [] []
begins graph = record {
  sizes = simp length-map;
  within = All-nil (λ number. number < length graph);
  reached = All-nil (λ number. newness (mark_at (map fresh graph) number) ≡ 0);
  chain = λ index less. absurd (omega (arith, less));
  opened = λ number known was. let e = ap (λ (node : Node). node.mark) (fresh_at graph number known) in cc;
  left = λ number known. let e = ap (λ (node : Node). node.left) (fresh_at graph number known) in omega (arith, e);
  looked = λ number index known least less. let e = ap (λ (node : Node). node.left) (fresh_at graph number known) in absurd (omega (arith, e, least, less));
  done = λ number known done. let e = ap (λ (node : Node). node.mark) (fresh_at graph number known) in cc;
  known = All-nil (λ number. number < length graph);
  before = λ index less. absurd (omega (arith, less));
  count = omega (arith, all_new graph);
}

pub begins_with : (graph : List (List ℕ)) (nodes : List Node) (path order : List ℕ) → nodes ≡ map fresh graph → path ≡ [] → order ≡ [] → IsWalk graph nodes path order
begins_with graph nodes path order as_many empty none = rw (as_many, empty, none) (begins graph)

-- ---- looking at a base that is done

module _ (graph : List (List ℕ)) (nodes : List Node) (path order : List ℕ) (walk : IsWalk graph nodes path order) (top : ℕ) (known : top < length graph) where
  here : (node : Node) → slice_index_or (set nodes top node) top blank ≡ node
  here node = let less : top < length nodes = omega (arith, walk.sizes) in get_or-set_same nodes top node blank less

  there : (node : Node) (number : ℕ) → number ≢ top → slice_index_or (set nodes top node) number blank ≡ slice_index_or nodes number blank
  there node number apart = get_or-set_other nodes top number node blank apart

  same_mark : (node : Node) → node.mark ≡ mark_at nodes top → (number : ℕ) → mark_at (set nodes top node) number ≡ mark_at nodes number
  same_mark node same number =
      elim (cases_eq number top) [
        | inl e ↦ subst (λ n. mark_at (set nodes top node) n ≡ mark_at nodes n) (sym e) (ap (λ (node : Node). node.mark) (here node) ∙ same)
        | inr apart ↦ ap (λ (node : Node). node.mark) (there node number apart)
      ]

  pub looks : (node : Node) → node.mark ≡ mark_at nodes top → node.left + 1 ≡ left_at nodes top → mark_at nodes (slice_index (bases_at graph top) node.left) ≡ Done
      → IsWalk graph (set nodes top node) path order
  looks node same less done = record {
    sizes = length-set nodes top node ∙ walk.sizes;
    within = walk.within;
    reached = All-weaker _ (λ number. newness (mark_at (set nodes top node) number) ≡ 0) (λ number was. ap newness (same_mark node same number) ∙ was) path walk.reached;
    chain = walk.chain;
    opened = λ number is was. walk.opened number is (sym (same_mark node same number) ∙ was);
    left = λ number is. elim (cases_eq number top) [
      | inl e ↦ subst (λ n. left_at (set nodes top node) n ≤ length (bases_at graph n)) (sym e)
          (let l = ap (λ (node : Node). node.left) (here node) in omega (arith, l, less, walk.left top known))
      | inr apart ↦ let l = ap (λ (node : Node). node.left) (there node number apart) in omega (arith, l, walk.left number is)
    ];
    looked = λ number index is least within. same_mark node same _ ∙ elim (cases_eq number top) [
      | inl e ↦ elim (cases_eq index node.left) [
        | inl p ↦ subst (λ n. mark_at nodes (slice_index (bases_at graph n) index) ≡ Done) (sym e) (subst (λ p. mark_at nodes (slice_index (bases_at graph top) p) ≡ Done) (sym p) done)
        | inr q ↦ walk.looked number index is (let l = ap (left_at (set nodes top node)) e ∙ ap (λ (node : Node). node.left) (here node) in let m = ap (left_at nodes) e in omega (arith, l, m, less, least, q)) within
      ]
      | inr apart ↦ walk.looked number index is (let l = ap (λ (node : Node). node.left) (there node number apart) in omega (arith, l, least)) within
    ];
    done = λ number is done. walk.done number is (sym (same_mark node same number) ∙ done);
    known = walk.known;
    before = walk.before;
    count = let c = sum_by-set (λ (node : Node). newness node.mark) nodes top node blank (omega (arith, walk.sizes)) in
        let n = ap newness same in omega (arith, c, n, walk.count);
  }

  same_left : (node : Node) → node.left ≡ left_at nodes top → (number : ℕ) → left_at (set nodes top node) number ≡ left_at nodes number
  same_left node same number =
      elim (cases_eq number top) [
        | inl e ↦ subst (λ n. left_at (set nodes top node) n ≡ left_at nodes n) (sym e) (ap (λ (node : Node). node.left) (here node) ∙ same)
        | inr apart ↦ ap (λ (node : Node). node.left) (there node number apart)
      ]

  mark_here : (node : Node) (number : ℕ) → number ≡ top → mark_at (set nodes top node) number ≡ node.mark
  mark_here node number e = ap (mark_at (set nodes top node)) e ∙ ap (λ (node : Node). node.mark) (here node)

  mark_there : (node : Node) (number : ℕ) → number ≢ top → mark_at (set nodes top node) number ≡ mark_at nodes number
  mark_there node number apart = ap (λ (node : Node). node.mark) (there node number apart)

  -- one that was Done stays so where the changed one was New, or becomes Done
  stays_done : (node : Node) → (node.mark ≡ Done) ⊎ (mark_at nodes top ≡ New) → (number : ℕ) → mark_at nodes number ≡ Done → mark_at (set nodes top node) number ≡ Done
  stays_done node how number done =
      elim (cases_eq number top) [
        | inl e ↦ elim how [ inl becomes ↦ mark_here node number e ∙ becomes | inr new ↦ let m = ap (mark_at nodes) e in cc ]
        | inr apart ↦ mark_there node number apart ∙ done
      ]

  -- none becomes New
  stays_seen : (node : Node) → newness node.mark ≡ 0 → (number : ℕ) → newness (mark_at nodes number) ≡ 0 → newness (mark_at (set nodes top node) number) ≡ 0
  stays_seen node seen number was =
      elim (cases_eq number top) [
        | inl e ↦ ap newness (mark_here node number e) ∙ seen
        | inr apart ↦ ap newness (mark_there node number apart) ∙ was
      ]

  opened_seen : (node : Node) → newness node.mark ≡ 0 → (number : ℕ) → mark_at (set nodes top node) number ≡ New → mark_at nodes number ≡ New
  opened_seen node seen number new =
      elim (cases_eq number top) [
        | inl e ↦ let m = ap newness (mark_here node number e) in let n = ap newness new in absurd (omega (arith, m, n, seen))
        | inr apart ↦ sym (mark_there node number apart) ∙ new
      ]

  -- ---- opening a base that is new

  pub opens : (node : Node) → node.mark ≡ Open → node.left ≡ left_at nodes top → mark_at nodes top ≡ New
      → ((index : ℕ) → index + 1 ≡ length path → Contains (bases_at graph (slice_index path index)) top)
      → IsWalk graph (set nodes top node) (path ++ top ∷ []) order
  opens node becomes same new next = record {
    sizes = length-set nodes top node ∙ walk.sizes;
    within = All-push (λ number. number < length graph) path top walk.within known;
    reached = All-push (λ number. newness (mark_at (set nodes top node) number) ≡ 0) path top
        (All-weaker _ (λ number. newness (mark_at (set nodes top node) number) ≡ 0) (stays_seen node (ap newness becomes)) path walk.reached)
        (ap newness (mark_here node top refl ∙ becomes));
    chain = λ index less.
        let lengths = length-append path (top ∷ []) in
        elim (cases_eq (index + 1) (length path)) [
          | inl e ↦ let short : index < length path = omega (arith, e) in
              rw (get_or_append_left path (top ∷ []) 0 index short, e, get_or-append_seam path top [] 0) (next index e)
          | inr apart ↦ let short : index < length path = omega (arith, lengths, less, apart) in
              let next_short : index + 1 < length path = omega (arith, lengths, less, apart) in
              rw (get_or_append_left path (top ∷ []) 0 index short, get_or_append_left path (top ∷ []) 0 (index + 1) next_short) (walk.chain index next_short)
        ];
    opened = λ number is was. elim (cases_eq number top) [
      | inl e ↦ subst (Contains (path ++ top ∷ [])) (sym e) (Contains-push path top)
      | inr apart ↦ Contains-append_left path (top ∷ []) number (walk.opened number is (sym (mark_there node number apart) ∙ was))
    ];
    left = λ number is. let l = same_left node same number in omega (arith, l, walk.left number is);
    looked = λ number index is least within. stays_done node (inr new) _ (walk.looked number index is (let l = same_left node same number in omega (arith, l, least)) within);
    done = λ number is done. elim (cases_eq number top) [
      | inl e ↦ let m = mark_here node number e in cc
      | inr apart ↦ walk.done number is (sym (mark_there node number apart) ∙ done)
    ];
    known = walk.known;
    before = walk.before;
    count = let c = sum_by-set (λ (node : Node). newness node.mark) nodes top node blank (omega (arith, walk.sizes)) in
        let n = ap newness becomes in let o = ap newness new in let lengths = length-append path (top ∷ []) in omega (arith, c, n, o, lengths, walk.count);
  }

-- ---- closing the last of the path

pub closes : (graph : List (List ℕ)) (nodes : List Node) (prefix order : List ℕ) (top : ℕ) (node : Node) → IsWalk graph nodes (prefix ++ top ∷ []) order → IsClosed graph
    → top < length graph → node.mark ≡ Done → node.left ≡ left_at nodes top → node.left ≡ 0
    → IsWalk graph (set nodes top node) prefix (order ++ top ∷ [])
closes graph nodes prefix order top node walk closed known becomes same none =
    let seen : newness (mark_at nodes top) ≡ 0 = All-contains (λ number. newness (mark_at nodes number) ≡ 0) (prefix ++ top ∷ []) top walk.reached (Contains-push prefix top) in
    let there = mark_there graph nodes (prefix ++ top ∷ []) order walk top known node in
    let here = mark_here graph nodes (prefix ++ top ∷ []) order walk top known node in
    let left = same_left graph nodes (prefix ++ top ∷ []) order walk top known node same in
    let lengths = length-append prefix (top ∷ []) in
    let orders = length-append order (top ∷ []) in
    record {
      sizes = length-set nodes top node ∙ walk.sizes;
      within = (All-pop (λ number. number < length graph) (prefix ++ top ∷ []) prefix (Some top) refl walk.within).0;
      reached = All-weaker _ (λ number. newness (mark_at (set nodes top node) number) ≡ 0)
          (stays_seen graph nodes (prefix ++ top ∷ []) order walk top known node (ap newness becomes)) prefix
          (All-pop (λ number. newness (mark_at nodes number) ≡ 0) (prefix ++ top ∷ []) prefix (Some top) refl walk.reached).0;
      chain = λ index less. let short : index < length prefix = omega arith in
          rw (get_or_append_left prefix (top ∷ []) 0 index short, get_or_append_left prefix (top ∷ []) 0 (index + 1) less) at (walk.chain index (omega (arith, lengths, less)));
      opened = λ number is was. elim (cases_eq number top) [
        | inl e ↦ let m = here number e in cc
        | inr apart ↦ elim (Contains-push_cases prefix top number (walk.opened number is (sym (there number apart) ∙ was))) [
          | inl stands ↦ stands
          | inr e ↦ absurd (apart (sym e))
        ]
      ];
      left = λ number is. let l = left number in omega (arith, l, walk.left number is);
      looked = λ number index is least within. stays_done graph nodes (prefix ++ top ∷ []) order walk top known node (inl becomes) _
          (walk.looked number index is (let l = left number in omega (arith, l, least)) within);
      done = λ number is done. elim (cases_eq number top) [
        | inl e ↦ subst (Contains (order ++ top ∷ [])) (sym e) (Contains-push order top)
        | inr apart ↦ Contains-append_left order (top ∷ []) number (walk.done number is (sym (there number apart) ∙ done))
      ];
      known = All-push (λ number. number < length graph) order top walk.known known;
      before = λ index less. elim (cases_eq index (length order)) [
        | inl e ↦ rw (e, get_or-append_seam order top [] 0, take-append_seam order (top ∷ []))
            (All-from_get_or (Contains order) (bases_at graph top) 0
            (λ k short. walk.done _ (closed top k 0 short) (walk.looked top k known (omega (arith, same, none)) short)))
        | inr apart ↦ let short : index < length order = omega (arith, orders, less, apart) in
            rw (get_or_append_left order (top ∷ []) 0 index short, take-append-le index order (top ∷ []) (omega (arith, short))) (walk.before index short)
      ];
      count = let c = sum_by-set (λ (node : Node). newness node.mark) nodes top node blank (omega (arith, walk.sizes)) in
          let n = ap newness becomes in omega (arith, c, n, seen, lengths, orders, walk.count);
    }

-- ---- a base that is open

pub then_direct : (graph : List (List ℕ)) {from next : ℕ} (to : ℕ) → Reaches graph from next → Contains (bases_at graph next) to → Reaches graph from to
then_direct graph to (direct first) last = onward first (direct last)
then_direct graph to (onward first more) last = onward first (then_direct graph to more last)

pub chain_reaches : (graph : List (List ℕ)) (path : List ℕ) → ((index : ℕ) → index + 1 < length path → Contains (bases_at graph (slice_index path index)) (slice_index path (index + 1)))
    → (steps index : ℕ) → index + steps + 1 < length path → Reaches graph (slice_index path index) (slice_index path (index + steps + 1))
chain_reaches graph path chain zero index less = rw add-zero (direct (chain index (omega (arith, less))))
chain_reaches graph path chain (suc steps) index less =
    onward (chain index (omega (arith, less))) (subst (λ n. Reaches graph (slice_index path (index + 1)) (slice_index path n)) (omega arith) (chain_reaches graph path chain steps (index + 1) (omega (arith, less))))

pub closes_cycle : (graph : List (List ℕ)) (nodes : List Node) (path order : List ℕ) → IsWalk graph nodes path order → (index base : ℕ) → index + 1 ≡ length path → base < length graph
    → Contains (bases_at graph (slice_index path index)) base → mark_at nodes base ≡ Open → HasCycle graph
closes_cycle graph nodes path order walk index base last known refers was =
    let stands = walk.opened base known was in
    let same = get_or_default path stands.0 base 0 stands.1 in
    let is : slice_index path stands.0 ≡ base = sym same ∙ stands.2 in (
      base,
      elim (cases_eq stands.0 index) [
        | inl e ↦ direct (subst (λ n. Contains (bases_at graph n) base) (sym (ap (slice_index path) e) ∙ is) refers)
        | inr apart ↦ then_direct graph base
            (subst (λ n. Reaches graph n (slice_index path index)) is
            (subst (λ n. Reaches graph (slice_index path stands.0) (slice_index path n)) (omega (arith, last, apart, stands.1))
            (chain_reaches graph path walk.chain (index - (stands.0 + 1)) stands.0 (omega (arith, last, apart, stands.1))))) refers
      ],
    )

-- ---- the steps

pub last_is : (path : List ℕ) (top : ℕ) → slice_get path (length path - 1) ≡ Some top → (0 < length path) × (slice_index path (length path - 1) ≡ top)
last_is path top last =
    let less = slice_get_within path (length path - 1) top last in
    let some : 0 < length path = omega (arith, less) in
    (some, same_Some _ _ (sym (slice_get-get_or path (length path - 1) 0 less) ∙ last))

pub last_known : (graph : List (List ℕ)) (nodes : List Node) (path order : List ℕ) (top : ℕ) → IsWalk graph nodes path order → slice_get path (length path - 1) ≡ Some top → top < length graph
last_known graph nodes path order top walk last =
    let is = last_is path top last in
    subst (λ n. n < length graph) is.1 (walk.within (length path - 1) 0 (omega (arith, is.0)))

base_stands : (graph : List (List ℕ)) (nodes : List Node) (path order : List ℕ) (top base : ℕ) → IsWalk graph nodes path order → top < length graph → IsNextBase graph nodes top base → Contains (bases_at graph top) base
base_stands graph nodes path order top base walk known next =
    subst (Contains (bases_at graph top)) (sym next.is) (Contains-get_or (bases_at graph top) (left_at nodes top - 1) 0 (omega (arith, next.some, walk.left top known)))

pub base_known : (graph : List (List ℕ)) (nodes : List Node) (path order : List ℕ) (top base : ℕ) → IsWalk graph nodes path order → IsClosed graph → top < length graph → IsNextBase graph nodes top base → base < length graph
base_known graph nodes path order top base walk closed known next =
    All-contains (λ base. base < length graph) (bases_at graph top) base (closed top) (base_stands graph nodes path order top base walk known next)

abbrev weight : Node → ℕ
weight node = node.left + (newness node.mark + newness node.mark)

pub step_looks : (graph : List (List ℕ)) (nodes : List Node) (path order : List ℕ) (top base : ℕ) → IsWalk graph nodes path order → top < length graph → IsNextBase graph nodes top base → mark_at nodes base ≡ Done
    → (new_nodes : List Node) (new_path new_order : List ℕ) → new_nodes ≡ set nodes top (record { mark = mark_at nodes top; left = left_at nodes top - 1 }) → new_path ≡ path → new_order ≡ order
    → IsStep graph nodes path new_nodes new_path new_order
step_looks graph nodes path order top base walk known next done new_nodes new_path new_order changed same_path same_order =
    let node : Node = record { mark = mark_at nodes top; left = left_at nodes top - 1 } in
    let sum = sum_by-set weight nodes top node blank (omega (arith, walk.sizes)) in
    rw (changed, same_path, same_order) (record {
      walk = looks graph nodes path order walk top known node refl (omega (arith, next.some)) (subst (λ b. mark_at nodes b ≡ Done) next.is done);
      seen = λ number new. sym (same_mark graph nodes path order walk top known node refl number) ∙ new;
      fewer = omega (arith, sum, next.some);
    })

pub step_opens : (graph : List (List ℕ)) (nodes : List Node) (path order : List ℕ) (top base : ℕ) → IsWalk graph nodes path order → IsClosed graph → slice_get path (length path - 1) ≡ Some top → top < length graph → IsNextBase graph nodes top base → mark_at nodes base ≡ New
    → (new_nodes : List Node) (new_path new_order : List ℕ) → new_nodes ≡ set nodes base (record { mark = Open; left = left_at nodes base }) → new_path ≡ path ++ base ∷ [] → new_order ≡ order
    → IsStep graph nodes path new_nodes new_path new_order
step_opens graph nodes path order top base walk closed last known next new new_nodes new_path new_order changed longer same_order =
    let node : Node = record { mark = Open; left = left_at nodes base } in
    let base_is = base_known graph nodes path order top base walk closed known next in
    let sum = sum_by-set weight nodes base node blank (omega (arith, base_is, walk.sizes)) in
    let was = ap newness new in
    let lengths = length-append path (base ∷ []) in
    let is = last_is path top last in
    rw (changed, longer, same_order) (record {
      walk = opens graph nodes path order walk base base_is node refl refl new
          (λ index e. let p : length path - 1 ≡ index = omega (arith, e) in
          let t : slice_index path index ≡ top = ap (slice_index path) (sym p) ∙ is.1 in
          subst (λ n. Contains (bases_at graph n) base) (sym t) (base_stands graph nodes path order top base walk known next));
      seen = λ number is_new. opened_seen graph nodes path order walk base base_is node refl number is_new;
      fewer = omega (arith, sum, was, lengths);
    })

pub step_closes : (graph : List (List ℕ)) (nodes : List Node) (path order : List ℕ) (top : ℕ) → IsWalk graph nodes path order → IsClosed graph → top < length graph → left_at nodes top ≡ 0
    → (new_nodes : List Node) (new_path new_order : List ℕ) → new_nodes ≡ set nodes top (record { mark = Done; left = left_at nodes top }) → path ≡ new_path ++ top ∷ [] → new_order ≡ order ++ top ∷ []
    → IsStep graph nodes path new_nodes new_path new_order
step_closes graph nodes path order top walk closed known none new_nodes new_path new_order changed shorter longer =
    let node : Node = record { mark = Done; left = left_at nodes top } in
    let sum = sum_by-set weight nodes top node blank (omega (arith, walk.sizes)) in
    let prefix_walk = subst (λ p. IsWalk graph nodes p order) shorter walk in
    let reached : newness (mark_at nodes top) ≡ 0 = All-contains (λ number. newness (mark_at nodes number) ≡ 0) (new_path ++ top ∷ []) top prefix_walk.reached (Contains-push new_path top) in
    let lengths = ap length shorter ∙ length-append new_path (top ∷ []) in
    rw (changed, longer) (record {
      walk = closes graph nodes new_path order top node prefix_walk closed known refl refl none;
      seen = λ number is_new. opened_seen graph nodes path order walk top known node refl number is_new;
      fewer = omega (arith, sum, reached, lengths);
    })

pub step_cycle : (graph : List (List ℕ)) (nodes : List Node) (path order : List ℕ) (top base : ℕ) → IsWalk graph nodes path order → IsClosed graph → slice_get path (length path - 1) ≡ Some top → top < length graph → IsNextBase graph nodes top base → mark_at nodes base ≡ Open → HasCycle graph
step_cycle graph nodes path order top base walk closed last known next was =
    let is = last_is path top last in
    closes_cycle graph nodes path order walk (length path - 1) base (omega (arith, is.0)) (base_known graph nodes path order top base walk closed known next)
    (subst (λ n. Contains (bases_at graph n) base) (sym is.1) (base_stands graph nodes path order top base walk known next)) was

-- ---- a visit, and the whole walk

pub at_rest : (path : List ℕ) → slice_get path (length path - 1) ≡ None → path ≡ []
at_rest [] none = refl
at_rest (number ∷ path) none = let some = slice_get-get_or (number ∷ path) (length (number ∷ path) - 1) 0 (omega arith) in cc

pub visit_begins : (graph : List (List ℕ)) (nodes : List Node) (path order : List ℕ) (root : ℕ) → IsWalk graph nodes path order → path ≡ [] → root < length graph → mark_at nodes root ≡ New
    → (new_nodes : List Node) (new_path new_order : List ℕ) → new_nodes ≡ set nodes root (record { mark = Open; left = left_at nodes root }) → new_path ≡ path ++ root ∷ [] → new_order ≡ order
    → IsWalk graph new_nodes new_path new_order × StaySeen nodes new_nodes × (¬ (mark_at new_nodes root ≡ New))
visit_begins graph nodes path order root walk empty known new new_nodes new_path new_order changed longer same_order =
    let node : Node = record { mark = Open; left = left_at nodes root } in
    let none = ap length empty in
    let is_open = mark_here graph nodes path order walk root known node root refl in
    rw (changed, longer, same_order) (
      opens graph nodes path order walk root known node refl refl new (λ index e. absurd (omega (arith, e, none))),
      opened_seen graph nodes path order walk root known node refl,
      λ is_new. cc (is_open, is_new),
    )

mark_cases : (mark : Mark) → (mark ≡ New) ⊎ ((mark ≡ Open) ⊎ (mark ≡ Done))
mark_cases New = inl refl
mark_cases Open = inr (inl refl)
mark_cases Done = inr (inr refl)

pub is_order : (graph : List (List ℕ)) (nodes : List Node) (path order : List ℕ) → IsWalk graph nodes path order → path ≡ [] → AreSeen nodes (length graph) → IsOrder graph order
is_order graph nodes path order walk empty seen = record {
  each = λ number known. elim (mark_cases (mark_at nodes number)) [
    | inl new ↦ absurd (seen number known new)
    | inr other ↦ elim other [
      | inl was ↦ let stands = walk.opened number known was in let none = ap length empty in let less = stands.1 in absurd (omega (arith, none, less))
      | inr done ↦ walk.done number known done
    ]
  ];
  known = walk.known;
  few = omega (arith, walk.count);
  before = walk.before;
}

pub more_seen : (nodes new_nodes : List Node) (root : ℕ) → AreSeen nodes root → StaySeen nodes new_nodes → (¬ (mark_at new_nodes root ≡ New)) → AreSeen new_nodes (root + 1)
more_seen nodes new_nodes root below stay here number less new =
    elim (cases_eq number root) [
      | inl e ↦ here (sym (ap (mark_at new_nodes) e) ∙ new)
      | inr apart ↦ below number (omega (arith, less, apart)) (stay number new)
    ]
