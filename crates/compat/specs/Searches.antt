-- A search for all that one thing reaches, and what it keeps true.
use Rattle.std.specs.Prelude.{◌≡◌, ◌≢◌, ℕ, ◌+◌, ◌<◌, ◌⊎◌, Bool, true, false, List, length, All, Contains, slice_index_or, sum_by}
use Rattle.compat.specs.References.{bases_at, Reaches}

-- whether the one of this number is marked
abbrev pub is_marked : List Bool → ℕ → Bool
is_marked marked number = slice_index_or marked number false

-- 1 for one that isn't marked
abbrev pub unmarked : Bool → ℕ
unmarked true = 0
unmarked false = 1

-- how many steps are left: one for each that waits, and one for each that isn't marked
abbrev pub work_left : List Bool → List ℕ → ℕ
work_left marked waiting = sum_by unmarked marked + length waiting

-- What marking one changes.
pub record IsMarking (base : ℕ) (marked : List Bool) (waiting : List ℕ) (new_marked : List Bool) (new_waiting : List ℕ) : Type 0 where
  pub sizes : length new_marked ≡ length marked
  pub here : is_marked new_marked base ≡ true
  pub there : (number : ℕ) → number ≢ base → is_marked new_marked number ≡ is_marked marked number
  pub waits : (number : ℕ) → Contains waiting number → Contains new_waiting number
  pub added : (is_marked marked base ≡ true) ⊎ Contains new_waiting base
  pub only : (number : ℕ) → Contains new_waiting number → Contains waiting number ⊎ (base ≡ number)
  pub work : work_left new_marked new_waiting ≡ work_left marked waiting

-- What marking some of the bases changes: those now marked were marked or are bases, and what is newly marked waits.
pub record AreMarkings (bases : List ℕ) (marked : List Bool) (waiting : List ℕ) (new_marked : List Bool) (new_waiting : List ℕ) : Type 0 where
  pub sizes : length new_marked ≡ length marked
  pub keeps : (number : ℕ) → is_marked marked number ≡ true → is_marked new_marked number ≡ true
  pub from : (number : ℕ) → is_marked new_marked number ≡ true → (is_marked marked number ≡ true) ⊎ Contains bases number
  pub waits : (number : ℕ) → Contains waiting number → Contains new_waiting number
  pub added : (number : ℕ) → is_marked new_marked number ≡ true → (is_marked marked number ≡ true) ⊎ Contains new_waiting number
  pub only : (number : ℕ) → Contains new_waiting number → Contains waiting number ⊎ Contains bases number
  pub work : work_left new_marked new_waiting ≡ work_left marked waiting

-- What holds at each step of the search from `start`: what is marked is reached, and of `start` and of each that is
-- marked all bases are marked, but of those that wait.
pub record IsSearch (graph : List (List ℕ)) (start : ℕ) (marked : List Bool) (waiting : List ℕ) : Type 0 where
  pub sizes : length marked ≡ length graph
  pub sound : (number : ℕ) → is_marked marked number ≡ true → Reaches graph start number
  pub waits : (number : ℕ) → Contains waiting number → (number ≡ start) ⊎ (is_marked marked number ≡ true)
  pub within : (number : ℕ) → Contains waiting number → number < length graph
  pub closed : (number : ℕ) → (number ≡ start) ⊎ (is_marked marked number ≡ true)
      → Contains waiting number ⊎ All (λ base. is_marked marked base ≡ true) (bases_at graph number)

-- What is marked refers only to what is marked.
abbrev pub AreSettled : List (List ℕ) → List Bool → Type 0
AreSettled graph marked = (number : ℕ) → is_marked marked number ≡ true → All (λ base. is_marked marked base ≡ true) (bases_at graph number)

-- What holds at each step of a search that marks what isn't marked yet: of each that is marked all bases are marked,
-- but of those that wait.
pub record IsSpreading (graph : List (List ℕ)) (marked : List Bool) (waiting : List ℕ) : Type 0 where
  pub sizes : length marked ≡ length graph
  pub within : (number : ℕ) → Contains waiting number → number < length graph
  pub settled : (number : ℕ) → is_marked marked number ≡ true → Contains waiting number ⊎ All (λ base. is_marked marked base ≡ true) (bases_at graph number)

-- Those that are marked don't reach themselves.
abbrev pub AreClear : List (List ℕ) → List Bool → Type 0
AreClear graph clear = (number : ℕ) → is_marked clear number ≡ true → ¬ Reaches graph number number

-- as many lists as a count says, of numbers below it
pub record AreReferrers (count : ℕ) (referrers : List (List ℕ)) : Type 0 where
  pub sizes : length referrers ≡ count
  pub below : (number : ℕ) → All (λ referrer. referrer < count) (bases_at referrers number)
