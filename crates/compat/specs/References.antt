-- What refers to what. The things are numbered from 0, and a list gives for each the numbers of those that it refers
-- to: for each drawing the numbers of its components' bases.
use Rattle.std.specs.Prelude.{ℕ, ◌<◌, ◌≤◌, List, [], length, take, All, Contains, slice_index, slice_index_or}

-- the numbers of those to which the one of this number refers
abbrev pub bases_at : List (List ℕ) → ℕ → List ℕ
bases_at graph number = slice_index_or graph number []

-- one reaches another by one reference, or by one and then more
pub data Reaches (graph : List (List ℕ)) : ℕ → ℕ → Type 0 where
  direct : {from to : ℕ} → Contains (bases_at graph from) to → Reaches graph from to
  onward : {from next to : ℕ} → Contains (bases_at graph from) next → Reaches graph next to → Reaches graph from to

-- something reaches itself
abbrev pub HasCycle : List (List ℕ) → Type 0
HasCycle graph = (number : ℕ) × Reaches graph number number

-- nothing does
abbrev pub HasNoCycle : List (List ℕ) → Type 0
HasNoCycle graph = (number : ℕ) → ¬ Reaches graph number number

-- each reference is to something of the list
abbrev pub IsClosed : List (List ℕ) → Type 0
IsClosed graph = (number : ℕ) → All (λ base. base < length graph) (bases_at graph number)

-- An order in which everything stands, after all to which it refers.
pub record IsOrder (graph : List (List ℕ)) (order : List ℕ) : Type 0 where
  pub each : (number : ℕ) → number < length graph → Contains order number
  pub known : All (λ number. number < length graph) order
  pub few : length order ≤ length graph
  pub before : (index : ℕ) → index < length order → All (Contains (take index order)) (bases_at graph (slice_index order index))

-- the first of those that reach themselves
pub record IsFirstOnCycle (graph : List (List ℕ)) (number : ℕ) : Type 0 where
  pub on_cycle : Reaches graph number number
  pub none_before : (other : ℕ) → other < number → ¬ Reaches graph other other
