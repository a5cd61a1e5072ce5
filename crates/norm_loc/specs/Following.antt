-- A list of nodes as a function: straight lines from node to node, and whole steps beyond the ends.
use Rattle.std.specs.Prelude.{ℤ, ◌+ℤ◌, ◌*ℤ◌, ◌-ℤ◌, ◌<ℤ◌, List, [], ◌∷◌, if◌then◌else◌, int_lt, unsigned_abs}
use Rattle.fixpoint.specs.Rounding.{round_up}
use Rattle.norm_loc.specs.declared.follow.Direction.{Direction}
use Rattle.norm_loc.specs.declared.follow.Direction.TheVariants.{Forward, Backward}

-- the number of a node that is looked up, and the one that it leads to
abbrev pub key : Direction → ℤ × ℤ → ℤ
key Forward node = node.0
key Backward node = node.1

abbrev pub value : Direction → ℤ × ℤ → ℤ
value Forward node = node.1
value Backward node = node.0

-- beyond the first or the last node: the number moves as that node does
unfoldable pub moved : ℤ → ℤ → ℤ → ℤ
moved x0 y0 v = v +ℤ (y0 -ℤ x0)

-- between two nodes: on the line from one to the other
unfoldable pub between : ℤ → ℤ → ℤ → ℤ → ℤ → ℤ
between x0 y0 x1 y1 v = y0 +ℤ round_up ((y1 -ℤ y0) *ℤ (v -ℤ x0)) (unsigned_abs (x1 -ℤ x0))

-- what the number becomes that is at this node or above it, with the nodes that follow
abbrev pub followed_after : Direction → ℤ × ℤ → List (ℤ × ℤ) → ℤ → ℤ
followed_after d node [] v = moved (key d node) (value d node) v
followed_after d node (next ∷ nodes) v =
    if int_lt v (key d next) then between (key d node) (value d node) (key d next) (value d next) v
    else followed_after d next nodes v

abbrev pub followed : Direction → List (ℤ × ℤ) → ℤ → ℤ
followed d [] v = v
followed d (node ∷ nodes) v =
    if int_lt v (key d node) then moved (key d node) (value d node) v else followed_after d node nodes v

-- the numbers that are looked up rise strictly, from this node on
abbrev pub KeysRiseAfter : Direction → ℤ × ℤ → List (ℤ × ℤ) → Type 0
KeysRiseAfter d node [] = Unit {0}
KeysRiseAfter d node (next ∷ nodes) = (key d node <ℤ key d next) × KeysRiseAfter d next nodes

abbrev pub KeysRise : Direction → List (ℤ × ℤ) → Type 0
KeysRise d [] = Unit {0}
KeysRise d (node ∷ nodes) = KeysRiseAfter d node nodes
