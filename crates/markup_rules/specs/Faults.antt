-- The one fault of a text that has no tree: items are tested in order, and the first faulty one decides.
use Rattle.std.specs.Prelude.{ℕ, ◌-◌, pos, Bool, true, false, not, ◌&&◌, ◌||◌, List, [], ◌∷◌, length, drop, Option, Some, None, nat_le, if◌then◌else◌}
use Rattle.std.specs.Str.{bytes_eq}
use Rattle.basics.specs.declared.kinds.Kind.{Kind}
use Rattle.basics.specs.declared.kinds.Kind.TheVariants.{Unfinished, BadText, TooDeep}
use Rattle.basics.specs.declared.fault.Spot.{Spot}
use Rattle.markup_rules.specs.Syntax.{order_mark}
use Rattle.markup_rules.specs.Reading.{Item, unended, data_to_end, Entry, Markup, start, empty, finish, aside, doctype, content, bad, is_nil, items_of, markup_of}
use Rattle.basics.specs.Bytes.{begins}

-- where an item stands: the names of the open elements, the innermost first, and whether the root has ended
-- and a document type has stood
pub record Context : Type 0 where
  pub names : List (List ℕ)
  pub rooted : Bool
  pub declared : Bool

abbrev pub beginning : Context
beginning = record { names = []; rooted = false; declared = false }

abbrev pub is_innermost : List ℕ → List (List ℕ) → Bool
is_innermost name [] = false
is_innermost name (open_name ∷ names) = bytes_eq name open_name

-- whether an item is of a right form, and may stand here
abbrev pub is_allowed_at : Context → Markup → Bool
is_allowed_at context (start opening) = not context.rooted
is_allowed_at context (empty opening) = not context.rooted
is_allowed_at context (finish name) = is_innermost name context.names
is_allowed_at context aside = true
is_allowed_at context doctype = is_nil context.names && (not context.rooted && not context.declared)
is_allowed_at context (content blank text) = not (is_nil context.names) || blank
is_allowed_at context bad = false

-- data that reach the end of the text have no end inside an element, and end there outside
abbrev pub lacks_end : Context → Item → Bool
lacks_end context unended = true
lacks_end context (data_to_end bytes) = not (is_nil context.names)
lacks_end context _ = false

-- the other fields of a fault are empty or 0
abbrev pub spot : Kind → ℕ → Spot
spot kind at = record { kind = kind; item = []; at = at; also = 0; first = pos 0; second = pos 0 }

-- the fault of one item of a text of so many bytes, in the order of the tests
abbrev pub item_fault : ℕ → Context → Entry → Option Spot
item_fault total context entry =
    if entry.opening && nat_le 64 (length context.names) then Some (spot TooDeep (total - entry.left)) else
    (if lacks_end context entry.item then Some (spot Unfinished total) else
    (if is_allowed_at context (markup_of entry.item) then None else Some (spot BadText (total - entry.left))))

-- the context after the end of the innermost element
abbrev pub closed_context : List (List ℕ) → Context → Context
closed_context [] context = context
closed_context (name ∷ names) context = record context { names = names; rooted = is_nil names || context.rooted }

-- the context after an item
abbrev pub context_after : Context → Markup → Context
context_after context (start opening) = record context { names = opening.name ∷ context.names }
context_after context (empty opening) = record context { rooted = is_nil context.names || context.rooted }
context_after context (finish name) = closed_context context.names context
context_after context aside = context
context_after context doctype = record context { declared = true }
context_after context (content blank text) = context
context_after context bad = context

-- the first of two faults
abbrev pub or_else : Option Spot → Option Spot → Option Spot
or_else (Some fault) later = Some fault
or_else None later = later

-- the first fault of the items from here on; where none is faulty and no root has ended, the text is unfinished
abbrev pub fault_from : ℕ → Context → List Entry → Option Spot
fault_from total context [] = if context.rooted then None else Some (spot Unfinished total)
fault_from total context (entry ∷ entries) = or_else (item_fault total context entry) (fault_from total (context_after context (markup_of entry.item)) entries)

-- the text without the byte order mark
abbrev pub after_mark : List ℕ → List ℕ
after_mark text = if begins order_mark text then drop 3 text else text

-- the fault of a text, or none; offsets count the byte order mark
unfoldable pub fault_of : List ℕ → Option Spot
fault_of text = fault_from (length text) beginning (items_of (after_mark text))
