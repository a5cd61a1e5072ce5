-- The fault that reading comes to is the first one by items.
use Rattle.std.proofs.Common.{◌≡◌, ℕ, ◌-◌, Bool, List, [], ◌∷◌, length, Option, Some, None, Ok, Err, refl, sym, ap, ◌∙◌}
use Rattle.std.specs.Prelude.{Result}
use Rattle.basics.specs.declared.fault.Spot.{Spot}
use Rattle.markup_rules.specs.Tree.{Tree}
use Rattle.markup_rules.specs.Reading.{Entry, Markup, start, empty, finish, aside, doctype, content, bad, items_of, markup_of}
use Rattle.markup_rules.specs.Faults.{context_after, closed_context, item_fault, fault_from, fault_of, or_else, after_mark}
use Rattle.markup_rules.specs.Outcome.{Frame, State, initial, context_of, changed, adopted, ended, run, root_or_fault, outcome}

abbrev fault_in : Result Tree Spot → Option Spot
fault_in (Ok tree) = None
fault_in (Err fault) = Some fault

abbrev state : List Frame → Option Tree → Bool → State
state frames root declared = record { frames = frames; root = root; declared = declared }

context_adopted : (tree : Tree) (name : List ℕ) (f : Frame) (frames : List Frame) (root : Option Tree) (declared : Bool)
    → context_of (adopted tree frames (state (f ∷ frames) root declared)) ≡ closed_context (f.name ∷ (context_of (state frames root declared)).names) (context_of (state (f ∷ frames) root declared))
context_adopted tree name f [] root declared = refl
context_adopted tree name f (g ∷ frames) root declared = refl

-- the context after an item is that of the state after it
context_changed : (at : ℕ) (markup : Markup) (frames : List Frame) (root : Option Tree) (declared : Bool)
    → context_of (changed at markup (state frames root declared)) ≡ context_after (context_of (state frames root declared)) markup
context_changed at (start opening) frames root declared = refl
context_changed at (empty opening) [] root declared = refl
context_changed at (empty opening) (f ∷ frames) root declared = refl
context_changed at (finish name) [] root declared = refl
context_changed at (finish name) (f ∷ frames) root declared = context_adopted (ended f) name f frames root declared
context_changed at aside frames root declared = refl
context_changed at doctype frames root declared = refl
context_changed at (content blank text) [] root declared = refl
context_changed at (content blank text) (f ∷ frames) root declared = refl
context_changed at bad frames root declared = refl

abbrev Later : ℕ → List Entry → Type 0
Later total entries = (s : State) → fault_in (run total s entries) ≡ fault_from total (context_of s) entries

fault_step : (total : ℕ) (entry : Entry) (entries : List Entry) (s : State) (fault : Option Spot) → item_fault total (context_of s) entry ≡ fault → Later total entries
    → fault_in (run total s (entry ∷ entries)) ≡ or_else (item_fault total (context_of s) entry) (fault_from total (context_after (context_of s) (markup_of entry.item)) entries)
fault_step total entry entries s (Some fault) e later = rw e refl
fault_step total entry entries s None e later =
    rw e (later (changed (total - entry.left) (markup_of entry.item) s) ∙ ap (λ p. fault_from total p entries) (context_changed (total - entry.left) (markup_of entry.item) s.frames s.root s.declared))

fault_end : (total : ℕ) (frames : List Frame) (root : Option Tree) (declared : Bool) → fault_in (root_or_fault total root) ≡ fault_from total (context_of (state frames root declared)) []
fault_end total frames (Some tree) declared = refl
fault_end total frames None declared = refl

fault_run : (total : ℕ) (entries : List Entry) → Later total entries
fault_run total [] s = fault_end total s.frames s.root s.declared
fault_run total (entry ∷ entries) s = fault_step total entry entries s (item_fault total (context_of s) entry) refl (fault_run total entries)

fault_whole : (text : List ℕ) → fault_in (outcome text) ≡ fault_of text
unfolding outcome fault_of
fault_whole text = fault_run (length text) (items_of (after_mark text)) initial

fault_from_result : (result : Result Tree Spot) (fault : Spot) → fault_in result ≡ Some fault → result ≡ Err fault
fault_from_result (Ok tree) fault e = absurd cc
fault_from_result (Err found) fault e = cc

pub fault_takes : (text : List ℕ) (fault : Spot) → outcome text ≡ Err fault → fault_of text ≡ Some fault
fault_takes text fault e = sym (fault_whole text) ∙ ap fault_in e

pub fault_again : (text : List ℕ) (fault : Spot) → fault_of text ≡ Some fault → outcome text ≡ Err fault
fault_again text fault e = fault_from_result (outcome text) fault (fault_whole text ∙ e)
