-- What can be wrong with the map of an axis. Nodes are numbered from 0 in the document's order.
use Rattle.std.specs.Prelude.{◌≡◌, ℕ, ◌+◌, ℤ, pos, neg_ℤ, Bool, not, ◌&&◌, ◌||◌, List, [], ◌∷◌, length, Option, Some, None, Result, Ok, Err, if◌then◌else◌, int_lt, int_le, option_map}
use Rattle.std.specs.List.{list_any}
use Rattle.std.specs.Ordering.{int_eq}
use Rattle.norm_loc.specs.declared.stop.MapStop.{MapStop}
use Rattle.norm_loc.specs.declared.stop.MapStop.TheVariants.{MapOrder, MapRange, MapCollapse, NoMemory}
use Rattle.norm_loc.specs.AxisMaps.{Mapping, forward, design_of}
use Rattle.norm_loc.specs.AvarPairs.{fixed_pairs, is_on_axis, pair_of, with_node}
use Rattle.norm_loc.specs.Normalising.{Limits}

-- ---- MapOrder: inputs and outputs rise strictly

-- both numbers of a node are above those of the one before it
abbrev pub rises : ℤ × ℤ → ℤ × ℤ → Bool
rises before node = int_lt before.0 node.0 && int_lt before.1 node.1

-- the first node that doesn't rise above the one before it, the nodes after this one counted on from a number
abbrev pub unordered_after : ℤ × ℤ → ℕ → List (ℤ × ℤ) → Option ℕ
unordered_after before number [] = None
unordered_after before number (node ∷ nodes) =
    if rises before node then unordered_after node (number + 1) nodes else Some number

abbrev pub unordered : List (ℤ × ℤ) → Option ℕ
unordered [] = None
unordered (node ∷ nodes) = unordered_after node 1 nodes

-- ---- MapRange: the ends of the design span fit a number with 16 binary places

abbrev pub fits : ℤ → Bool
fits v = int_le (neg_ℤ (pos 2147483648)) v && int_le v (pos 2147483647)

abbrev pub is_in_range : Mapping → Bool
is_in_range m = fits (forward m m.user.min) && fits (forward m m.user.max)

-- ---- MapCollapse: the pairs are a function, and no side of the axis vanishes

-- a pair with the same first number and another second one
abbrev pub is_against : ℤ × ℤ → ℤ × ℤ → Bool
is_against p q = int_eq p.0 q.0 && not (int_eq p.1 q.1)

abbrev pub stands_against : Limits → Limits → ℤ × ℤ → List (ℤ × ℤ) → Bool
stands_against user design node pairs =
    is_on_axis user node && list_any (is_against (pair_of user design node)) pairs

-- the first node whose pair stands against one of these or of an earlier node, counted on from a number
abbrev pub against : Limits → Limits → List (ℤ × ℤ) → ℕ → List (ℤ × ℤ) → Option ℕ
against user design pairs number [] = None
against user design pairs number (node ∷ nodes) =
    if stands_against user design node pairs then Some number
    else against user design (with_node user design node pairs) (number + 1) nodes

-- a side of the user span has values, and the same side of the design span has none
abbrev pub side_vanishes : Limits → Limits → Bool
side_vanishes user design =
    (int_lt user.min user.default && not (int_lt design.min design.default)) || (int_lt user.default user.max && not (int_lt design.default design.max))

abbrev pub or_else : {A : Type 0} → Option A → Option A → Option A
or_else (Some x) other = Some x
or_else None other = other

abbrev pub collapsed : Mapping → Option ℕ
collapsed m =
    or_else (against m.user (design_of m) fixed_pairs 0 m.nodes) (if side_vanishes m.user (design_of m) then Some (length m.nodes) else None)

-- ---- the first fault of the three, in this order

abbrev pub fault_of : Mapping → Option MapStop
fault_of m =
    or_else (option_map MapOrder (unordered m.nodes)) (or_else (if is_in_range m then None else Some MapRange) (option_map MapCollapse (collapsed m)))

-- a call answered the map where it has no fault, else its first fault; want of memory is free
abbrev pub AnswersMap : Mapping → Result Mapping MapStop → Type 0
AnswersMap m (Ok map) = (map ≡ m) × (fault_of m ≡ None)
AnswersMap m (Err NoMemory) = Unit {0}
AnswersMap m (Err stop) = fault_of m ≡ Some stop
