-- What is kept of a text while it is read: the part of a state that is told.
use Rattle.std.specs.Prelude.{◌≡◌, ℕ, Bool, false, List, [], Option, Some, None, MatchOption, Result, Ok, Err}
use Rattle.std.specs.Borrow.{Bor}
use Rattle.basics.specs.declared.fault.Stop.{Stop}
use Rattle.basics.specs.Reading.{Fails}
use Rattle.markup_rules.specs.Faults.{Context}
use Rattle.markup_rules.specs.Reading.{item_at}
use Rattle.markup_rules.specs.Tree.{Tree}
use Rattle.markup_rules.specs.Outcome.{State, context_of, outcome}
use Rattle.markup.specs.Steps.{step_at}

-- the state but for its document type, of which no part is told
abbrev pub undeclared : State → State
undeclared s = record s { declared = false }

-- where the text has ended
abbrev pub rooted : Tree → State
rooted tree = record { frames = []; root = Some tree; declared = false }

-- where the root has ended no element is open
abbrev pub IsClosed : State → Type 0
IsClosed s = MatchOption s.root (Unit {0}) (λ tree. s.frames ≡ [])

-- a reader of this context, with this part, stands in the state
abbrev pub IsAt : {P : Type 0} → (P → State → Type 0) → Context → P → State → Type 0
IsAt Keeps context part s = (context_of s ≡ context) × (IsClosed s × Keeps part (undeclared s))

-- a call took the item at the start of the bytes and answered what follows it, or stopped
abbrev pub Steps : {P : Type 0} → (P → State → Type 0) → Result (Bor (List ℕ)) Stop → Context → P → ℕ → List ℕ → State → Type 0
Steps Keeps (Ok after) context part total bytes s =
    (next : State) × ((step_at total bytes s ≡ Ok next) × (after.now ≡ (item_at bytes).1)) × IsAt Keeps context part next
Steps Keeps (Err stop) context part total bytes s = Fails stop (step_at total bytes s)

-- what is kept of a whole text, or the stop at its fault
abbrev pub Keeping : {P : Type 0} → (P → State → Type 0) → List ℕ → Result P Stop → Type 0
Keeping Keeps text (Ok part) = (tree : Tree) × (outcome text ≡ Ok tree) × Keeps part (rooted tree)
Keeping Keeps text (Err stop) = Fails stop (outcome text)
