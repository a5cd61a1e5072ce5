-- What the part that keeps the whole stands for.
use Rattle.std.specs.Prelude.{◌≡◌, ℕ, List, [], ◌∷◌, reverse, map, option_map, false, string_bytes, Option, None, Some}
use Rattle.basics.specs.declared.fault.Stop.{Stop}
use Rattle.basics.specs.declared.fault.Stop.TheVariants.{At, NoMemory}
use Rattle.markup_rules.specs.Outcome as rules
use Rattle.markup_rules.specs.Faults.{fault_of}
use Rattle.markup.specs.Plain.{plain}
use Rattle.markup.specs.declared.trees.Open.{Open}
use Rattle.markup.specs.declared.trees.TreePart.{TreePart}

abbrev pub frame_of : Open → rules.Frame
frame_of o = record { name = o.name; attributes = o.attributes; children = map plain o.children.items; text = string_bytes o.text; at = o.at }

-- the innermost one, and those around it, of which the outermost stands first
abbrev pub frames_of : Option Open → List Open → List rules.Frame
frames_of None outer = []
frames_of (Some innermost) outer = frame_of innermost ∷ reverse (map frame_of outer)

abbrev pub state_of : TreePart → rules.State
state_of s = record { frames = frames_of s.innermost s.outer.items; root = option_map plain s.root; declared = false }

-- want of memory is free, and a fault is the first one of the text by items
abbrev pub IsFault : List ℕ → Stop → Type 0
IsFault text NoMemory = Unit {0}
IsFault text (At fault) = fault_of text ≡ Some fault
