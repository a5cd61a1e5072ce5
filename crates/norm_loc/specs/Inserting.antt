-- Putting a pair among pairs from their end, and what making all pairs of an axis answers.
use Rattle.std.specs.Prelude.{◌≡◌, ℤ, ◌≤◌, List, length, false, not, Some, None, Result, Ok, Err}
use Rattle.std.specs.List.{insert, list_any}
use Rattle.norm_loc.specs.declared.stop.MapStop.{MapStop}
use Rattle.norm_loc.specs.declared.stop.MapStop.TheVariants.{MapOrder, MapRange, MapCollapse, NoMemory}
use Rattle.norm_loc.specs.declared.pairs.Insertion.{Insertion}
use Rattle.norm_loc.specs.declared.pairs.Insertion.TheVariants.{At, Taken}
use Rattle.norm_loc.specs.AvarPairs.{fixed_pairs, with_nodes, with_pair}
use Rattle.norm_loc.specs.MapFaults.{against, is_against}
use Rattle.norm_loc.specs.Normalising.{Limits}

-- where a pair belongs among others, and whether none of them stands against it
abbrev pub IsInsertion : ℤ × ℤ → List (ℤ × ℤ) → Insertion → Type 0
IsInsertion p pairs (At index) =
    (index ≤ length pairs) × (insert pairs index p ≡ with_pair p pairs) × (list_any (is_against p) pairs ≡ false)
IsInsertion p pairs (Taken same) = (pairs ≡ with_pair p pairs) × (list_any (is_against p) pairs ≡ not same)

-- all pairs, where none stands against another; else the first node whose pair does; want of memory is free
abbrev pub AnswersPairs : Limits → Limits → List (ℤ × ℤ) → Result (List (ℤ × ℤ)) MapStop → Type 0
AnswersPairs user design nodes (Ok pairs) =
    (pairs ≡ with_nodes user design fixed_pairs nodes) × (against user design fixed_pairs 0 nodes ≡ None)
AnswersPairs user design nodes (Err (MapCollapse number)) = against user design fixed_pairs 0 nodes ≡ Some number
AnswersPairs user design nodes (Err NoMemory) = Unit {0}
AnswersPairs user design nodes (Err (MapOrder number)) = ⊥
AnswersPairs user design nodes (Err MapRange) = ⊥
