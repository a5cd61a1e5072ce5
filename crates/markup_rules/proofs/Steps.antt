-- Reading item by item, as a loop over the text does.
use Rattle.std.proofs.Common.{◌≡◌, ℕ, ◌<◌, List, [], ◌∷◌, length, Ok, Err, refl, sym, ap, ◌∙◌, arith}
use Rattle.std.specs.Prelude.{Result}
use Rattle.basics.specs.declared.fault.Spot.{Spot}
use Rattle.basics.specs.Reading.{◌>>=◌}
use Rattle.markup_rules.specs.Tree.{Tree}
use Rattle.markup_rules.specs.Reading.{item_at, items_of}
use Rattle.markup_rules.specs.Faults.{after_mark}
use Rattle.markup_rules.specs.Outcome.{State, initial, step, run, root_or_fault, outcome}
use Rattle.markup_rules.proofs.Fuel.{entry_at, items_next, item_length}

-- what is left of a text of so many bytes comes to this
unfoldable pub rest_from : ℕ → State → List ℕ → Result Tree Spot
rest_from total state bytes = run total state (items_of bytes)

pub rest_begins : (text : List ℕ) → rest_from (length text) initial (after_mark text) ≡ outcome text
unfolding rest_from outcome
rest_begins text = refl

pub rest_done : (total : ℕ) (state : State) (bytes : List ℕ) → length bytes ≡ 0 → rest_from total state bytes ≡ root_or_fault total state.root
unfolding rest_from items_of
rest_done total state [] e = refl
rest_done total state (b ∷ bytes) e = absurd cc

pub rest_next : (total : ℕ) (state : State) (b : ℕ) (bytes : List ℕ) → rest_from total state (b ∷ bytes) ≡ (step total (entry_at (b ∷ bytes)) state >>= λ next. rest_from total next (item_at (b ∷ bytes)).1)
unfolding rest_from
rest_next total state b bytes = ap (run total state) (items_next b bytes)

pub rest_step : (total : ℕ) (state next : State) (bytes : List ℕ) → 0 < length bytes → step total (entry_at bytes) state ≡ Ok next → rest_from total next (item_at bytes).1 ≡ rest_from total state bytes
rest_step total state next [] some e = absurd (omega arith)
rest_step total state next (b ∷ bytes) some e = sym (rest_next total state b bytes ∙ ap (λ o. o >>= λ later. rest_from total later (item_at (b ∷ bytes)).1) e)

pub rest_fault : (total : ℕ) (state : State) (bytes : List ℕ) (fault : Spot) → 0 < length bytes → step total (entry_at bytes) state ≡ Err fault → rest_from total state bytes ≡ Err fault
rest_fault total state [] fault some e = absurd (omega arith)
rest_fault total state (b ∷ bytes) fault some e = rest_next total state b bytes ∙ ap (λ o. o >>= λ later. rest_from total later (item_at (b ∷ bytes)).1) e

pub rest_shorter : (bytes : List ℕ) → 0 < length bytes → length (item_at bytes).1 < length bytes
rest_shorter [] some = absurd (omega arith)
rest_shorter (b ∷ bytes) some = omega (arith, item_length b bytes)
