-- The steps of a walk that goes on past cycles keep what it keeps true.
use Rattle.std.proofs.Common.{◌≡◌, ◌≤◌, ◌<◌, inl, inr, ℕ, ◌+◌, ◌-◌, List, [], ◌∷◌, ◌++◌, length, set, Some, Ok, Err, sym, ◌∙◌, ap, subst, arith, length-append, length-set}
use Rattle.std.specs.Prelude.{All, OnOk, Result, slice_get}
use Rattle.std.proofs.lemmas.Bool.{cases_eq}
use Rattle.std.proofs.lemmas.List.{get_or-set_same, get_or-set_other}
use Rattle.std.proofs.lemmas.List.Sums.{sum_by-set}
use Rattle.std.proofs.lemmas.List.Elements.{All-push, All-pop}
use Rattle.compat.specs.References.{IsClosed}
use Rattle.compat.specs.Walks.{blank, mark_at, left_at, newness, IsNextBase, IsTour, IsTourStep, IsWalk}
use Rattle.compat.specs.declared.order.Mark.TheVariants.{New, Open, Done}
use Rattle.compat.specs.declared.order.Node.{Node}
use Rattle.compat.proofs.Steps.{last_is}

pub of_walk : (graph : List (List ℕ)) (nodes : List Node) (path order : List ℕ) → IsWalk graph nodes path order → IsTour graph nodes path order
of_walk graph nodes path order walk = record { sizes = walk.sizes; within = walk.within; left = walk.left; known = walk.known }

abbrev weight : Node → ℕ
weight node = node.left + (newness node.mark + newness node.mark)

-- of a node that is changed no more references are left
left_less : (nodes : List Node) (top number : ℕ) (node : Node) → top < length nodes → node.left ≤ left_at nodes top → left_at (set nodes top node) number ≤ left_at nodes number
left_less nodes top number node known less =
    elim (cases_eq number top) [
      | inl e ↦ let is = ap (left_at (set nodes top node)) e ∙ ap (λ (node : Node). node.left) (get_or-set_same nodes top node blank known) in let was = ap (left_at nodes) e in omega (arith, is, was, less)
      | inr apart ↦ let is = ap (λ (node : Node). node.left) (get_or-set_other nodes top number node blank apart) in omega (arith, is)
    ]

module _ (graph : List (List ℕ)) (nodes : List Node) (path order : List ℕ) (tour : IsTour graph nodes path order) (top : ℕ) (known : top < length graph) where
  changed : (node : Node) (new_path new_order : List ℕ) → node.left ≤ left_at nodes top → All (λ number. number < length graph) new_path → All (λ number. number < length graph) new_order
      → IsTour graph (set nodes top node) new_path new_order
  changed node new_path new_order less within orders = record {
    sizes = length-set nodes top node ∙ tour.sizes;
    within = within;
    left = λ number is. let l = left_less nodes top number node (omega (arith, tour.sizes)) less in omega (arith, l, tour.left number is);
    known = orders;
  }

  pub looks : (new_nodes : List Node) (new_path new_order : List ℕ) → 0 < left_at nodes top → new_nodes ≡ set nodes top (record { mark = mark_at nodes top; left = left_at nodes top - 1 }) → new_path ≡ path → new_order ≡ order
      → IsTourStep graph nodes path new_nodes new_path new_order
  looks new_nodes new_path new_order some becomes same_path same_order =
      let node : Node = record { mark = mark_at nodes top; left = left_at nodes top - 1 } in
      let sum = sum_by-set weight nodes top node blank (omega (arith, tour.sizes)) in
      rw (becomes, same_path, same_order) (record { tour = changed node path order (omega arith) tour.within tour.known; fewer = omega (arith, sum, some) })

  pub opens : (new_nodes : List Node) (new_path new_order : List ℕ) → new_nodes ≡ set nodes top (record { mark = Open; left = left_at nodes top }) → new_path ≡ path ++ top ∷ [] → new_order ≡ order → IsTour graph new_nodes new_path new_order
  opens new_nodes new_path new_order becomes longer same_order =
      let node : Node = record { mark = Open; left = left_at nodes top } in
      rw (becomes, longer, same_order) (changed node (path ++ top ∷ []) order (omega arith) (All-push (λ number. number < length graph) path top tour.within known) tour.known)

  pub step_opens : (new_nodes : List Node) (new_path new_order : List ℕ) → mark_at nodes top ≡ New → new_nodes ≡ set nodes top (record { mark = Open; left = left_at nodes top }) → new_path ≡ path ++ top ∷ [] → new_order ≡ order
      → IsTourStep graph nodes path new_nodes new_path new_order
  step_opens new_nodes new_path new_order new becomes longer same_order =
      let node : Node = record { mark = Open; left = left_at nodes top } in
      let sum = sum_by-set weight nodes top node blank (omega (arith, tour.sizes)) in
      let was = ap newness new in
      let lengths = ap length longer ∙ length-append path (top ∷ []) in
      record {
        tour = opens new_nodes new_path new_order becomes longer same_order;
        fewer = rw becomes (omega (arith, sum, was, lengths));
      }

  pub closes : (new_nodes : List Node) (new_path new_order : List ℕ) → new_nodes ≡ set nodes top (record { mark = Done; left = left_at nodes top }) → path ≡ new_path ++ top ∷ [] → new_order ≡ order ++ top ∷ []
      → IsTourStep graph nodes path new_nodes new_path new_order
  closes new_nodes new_path new_order becomes shorter longer =
      let node : Node = record { mark = Done; left = left_at nodes top } in
      let sum = sum_by-set weight nodes top node blank (omega (arith, tour.sizes)) in
      let lengths = ap length shorter ∙ length-append new_path (top ∷ []) in
      rw (becomes, longer) (record {
        tour = changed node new_path (order ++ top ∷ []) (omega arith) (All-pop (λ number. number < length graph) path new_path (Some top) shorter tour.within).0 (All-push (λ number. number < length graph) order top tour.known known);
        fewer = omega (arith, sum, lengths);
      })

pub last_within : (graph : List (List ℕ)) (nodes : List Node) (path order : List ℕ) (top : ℕ) → IsTour graph nodes path order → slice_get path (length path - 1) ≡ Some top → top < length graph
last_within graph nodes path order top tour last =
    let is = last_is path top last in
    subst (λ n. n < length graph) is.1 (tour.within (length path - 1) 0 (omega (arith, is.0)))

-- what follows on Ok from three facts that hold on Ok
pub on_ok : {X E A B C D : Type 0} (result : Result X E) → OnOk result A → OnOk result B → OnOk result C → (A → B → C → D) → OnOk result D
on_ok (Ok x) a b c follows = follows a b c
on_ok (Err e) a b c follows = tt

pub two_ok : {X E A B C : Type 0} (result : Result X E) → OnOk result A → OnOk result B → (A → B → C) → OnOk result C
two_ok (Ok x) a b follows = follows a b
two_ok (Err e) a b follows = tt

pub next_known : (graph : List (List ℕ)) (nodes : List Node) (path order : List ℕ) (top base : ℕ) → IsTour graph nodes path order → IsClosed graph → top < length graph → IsNextBase graph nodes top base → base < length graph
next_known graph nodes path order top base tour closed known next =
    subst (λ n. n < length graph) (sym next.is) (closed top (left_at nodes top - 1) 0 (omega (arith, next.some, tour.left top known)))
