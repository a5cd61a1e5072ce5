-- What the reading of a text comes to, item by item, with the elements that are open.
use Rattle.std.specs.Prelude.{ℕ, ◌-◌, Bool, true, false, List, [], ◌∷◌, ◌++◌, length, map, Option, Some, None, is_some, Result, Ok, Err}
use Rattle.basics.specs.declared.kinds.Kind.TheVariants.{Unfinished}
use Rattle.basics.specs.declared.fault.Spot.{Spot}
use Rattle.basics.specs.Reading.{◌>>=◌}
use Rattle.markup_rules.specs.Tree.{Tree, node, trees_of}
use Rattle.markup_rules.specs.Reading.{Entry, Opening, Markup, start, empty, finish, aside, doctype, content, bad, items_of, markup_of}
use Rattle.markup_rules.specs.Faults.{Context, after_mark, item_fault, spot}

-- an element that is open, with what stands in it so far
pub record Frame : Type 0 where
  pub name : List ℕ
  pub attributes : List (List ℕ × List ℕ)
  pub children : List Tree
  pub text : List ℕ
  pub at : ℕ

-- the open elements, the innermost first, the root where it has ended, and whether a document type has stood
pub record State : Type 0 where
  pub frames : List Frame
  pub root : Option Tree
  pub declared : Bool

abbrev pub initial : State
initial = record { frames = []; root = None; declared = false }

abbrev pub context_of : State → Context
context_of s = record { names = map (λ (f : Frame). f.name) s.frames; rooted = is_some s.root; declared = s.declared }

-- an element that has just begun, and one that has ended
abbrev pub begun : ℕ → Opening → Frame
begun at opening = record { name = opening.name; attributes = opening.attributes; children = []; text = []; at = at }

abbrev pub ended : Frame → Tree
ended f = node f.name f.attributes (trees_of f.children) f.text f.at

-- the element goes to the innermost open one, or is the root
abbrev pub adopted : Tree → List Frame → State → State
adopted tree [] s = record s { frames = []; root = Some tree }
adopted tree (f ∷ frames) s = record s { frames = record f { children = f.children ++ tree ∷ [] } ∷ frames }

abbrev pub closed : List Frame → State → State
closed [] s = s
closed (f ∷ frames) s = adopted (ended f) frames s

abbrev pub texted : List ℕ → List Frame → State → State
texted text [] s = s
texted text (f ∷ frames) s = record s { frames = record f { text = f.text ++ text } ∷ frames }

-- what a right item at an offset makes of the state
abbrev pub changed : ℕ → Markup → State → State
changed at (start opening) s = record s { frames = begun at opening ∷ s.frames }
changed at (empty opening) s = adopted (ended (begun at opening)) s.frames s
changed at (finish name) s = closed s.frames s
changed at aside s = s
changed at doctype s = record s { declared = true }
changed at (content blank text) s = texted text s.frames s
changed at bad s = s

-- the fault of an item, or the state after it
abbrev pub step_by : ℕ → Entry → State → Option Spot → Result State Spot
step_by total entry s (Some fault) = Err fault
step_by total entry s None = Ok (changed (total - entry.left) (markup_of entry.item) s)

abbrev pub step : ℕ → Entry → State → Result State Spot
step total entry s = step_by total entry s (item_fault total (context_of s) entry)

-- at the end of the text
abbrev pub root_or_fault : ℕ → Option Tree → Result Tree Spot
root_or_fault total (Some tree) = Ok tree
root_or_fault total None = Err (spot Unfinished total)

abbrev pub run : ℕ → State → List Entry → Result Tree Spot
run total s [] = root_or_fault total s.root
run total s (entry ∷ entries) = step total entry s >>= λ next. run total next entries

-- the tree of a text, or its fault
unfoldable pub outcome : List ℕ → Result Tree Spot
outcome text = run (length text) initial (items_of (after_mark text))
