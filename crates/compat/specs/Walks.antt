-- A walk through all references, depth first, and what it keeps true.
use Rattle.std.specs.Prelude.{◌≡◌, ℕ, ◌+◌, ◌<◌, ◌≤◌, ◌-◌, List, [], length, take, All, Contains, slice_index, slice_index_or, sum_by}
use Rattle.compat.specs.References.{bases_at}
use Rattle.compat.specs.declared.order.Mark.{Mark}
use Rattle.compat.specs.declared.order.Mark.TheVariants.{New, Open, Done}
use Rattle.compat.specs.declared.order.Node.{Node}

abbrev pub blank : Node
blank = record { mark = New; left = 0 }

abbrev pub mark_at : List Node → ℕ → Mark
mark_at nodes number = (slice_index_or nodes number blank).mark

abbrev pub left_at : List Node → ℕ → ℕ
left_at nodes number = (slice_index_or nodes number blank).left

-- 1 for one that isn't reached yet
abbrev pub newness : Mark → ℕ
newness New = 1
newness Open = 0
newness Done = 0

abbrev pub count_new : List Node → ℕ
count_new nodes = sum_by (λ (node : Node). newness node.mark) nodes

-- how many steps are left: one for each reference not yet looked at, one to open each that is new, and one to
-- close each that is open or new
abbrev pub steps_left : List Node → List ℕ → ℕ
steps_left nodes path = sum_by (λ (node : Node). node.left + (newness node.mark + newness node.mark)) nodes + length path

-- What holds at each step, `path` being those that are open, each referring to the next, and `order` those that are
-- done.
pub record IsWalk (graph : List (List ℕ)) (nodes : List Node) (path order : List ℕ) : Type 0 where
  pub sizes : length nodes ≡ length graph
  pub within : All (λ number. number < length graph) path
  pub reached : All (λ number. newness (mark_at nodes number) ≡ 0) path
  pub chain : (index : ℕ) → index + 1 < length path → Contains (bases_at graph (slice_index path index)) (slice_index path (index + 1))
  pub opened : (number : ℕ) → number < length graph → mark_at nodes number ≡ Open → Contains path number
  pub left : (number : ℕ) → number < length graph → left_at nodes number ≤ length (bases_at graph number)
  pub looked : (number index : ℕ) → number < length graph → left_at nodes number ≤ index → index < length (bases_at graph number)
      → mark_at nodes (slice_index (bases_at graph number) index) ≡ Done
  pub done : (number : ℕ) → number < length graph → mark_at nodes number ≡ Done → Contains order number
  pub known : All (λ number. number < length graph) order
  pub before : (index : ℕ) → index < length order → All (Contains (take index order)) (bases_at graph (slice_index order index))
  pub count : length order + (length path + count_new nodes) ≡ length graph

-- what was reached stays so
abbrev pub StaySeen : List Node → List Node → Type 0
StaySeen old new = (number : ℕ) → mark_at new number ≡ New → mark_at old number ≡ New

-- all below a number are reached
abbrev pub AreSeen : List Node → ℕ → Type 0
AreSeen nodes end = (number : ℕ) → number < end → ¬ (mark_at nodes number ≡ New)

-- the next to which one refers that hasn't been looked at
pub record IsNextBase (graph : List (List ℕ)) (nodes : List Node) (top base : ℕ) : Type 0 where
  pub some : 0 < left_at nodes top
  pub is : base ≡ slice_index (bases_at graph top) (left_at nodes top - 1)

-- a step of the walk: it stays one, forgets nothing that was reached, and has less to do
pub record IsStep (graph : List (List ℕ)) (nodes : List Node) (path : List ℕ) (new_nodes : List Node) (new_path new_order : List ℕ) : Type 0 where
  pub walk : IsWalk graph new_nodes new_path new_order
  pub seen : StaySeen nodes new_nodes
  pub fewer : steps_left new_nodes new_path + 1 ≡ steps_left nodes path

-- What holds at each step of a walk that goes on past cycles.
pub record IsTour (graph : List (List ℕ)) (nodes : List Node) (path order : List ℕ) : Type 0 where
  pub sizes : length nodes ≡ length graph
  pub within : All (λ number. number < length graph) path
  pub left : (number : ℕ) → number < length graph → left_at nodes number ≤ length (bases_at graph number)
  pub known : All (λ number. number < length graph) order

-- a step of such a walk: it stays one, and has less to do
pub record IsTourStep (graph : List (List ℕ)) (nodes : List Node) (path : List ℕ) (new_nodes : List Node) (new_path new_order : List ℕ) : Type 0 where
  pub tour : IsTour graph new_nodes new_path new_order
  pub fewer : steps_left new_nodes new_path < steps_left nodes path

-- a walk from a root through all that it reaches: it ends at rest, and the root is reached
pub record IsVisit (graph : List (List ℕ)) (nodes : List Node) (root : ℕ) (new_nodes : List Node) (new_path new_order : List ℕ) : Type 0 where
  pub walk : IsWalk graph new_nodes new_path new_order
  pub at_rest : new_path ≡ []
  pub seen : StaySeen nodes new_nodes
  pub root_seen : ¬ (mark_at new_nodes root ≡ New)
