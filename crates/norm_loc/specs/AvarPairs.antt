-- The pairs of an axis in table avar: from normalised user values to normalised design values.
use Rattle.std.specs.Prelude.{ℤ, pos, neg_ℤ, Bool, ◌&&◌, List, [], ◌∷◌, if◌then◌else◌, int_lt, int_le}
use Rattle.norm_loc.specs.declared.follow.Direction.TheVariants.{Forward}
use Rattle.norm_loc.specs.AxisMaps.{Mapping, design_of}
use Rattle.norm_loc.specs.Following.{followed}
use Rattle.norm_loc.specs.Normalising.{Limits, normalised}

-- the pairs that each axis has
abbrev pub fixed_pairs : List (ℤ × ℤ)
fixed_pairs = (neg_ℤ (pos 16384), neg_ℤ (pos 16384)) ∷ (pos 0, pos 0) ∷ (pos 16384, pos 16384) ∷ []

-- whether a node lies on the axis: others make no pair
abbrev pub is_on_axis : Limits → ℤ × ℤ → Bool
is_on_axis user node = int_le user.min node.0 && int_le node.0 user.max

-- the pair of a node, by the limits in user values and in design values
abbrev pub pair_of : Limits → Limits → ℤ × ℤ → ℤ × ℤ
pair_of user design node = (normalised user node.0, normalised design node.1)

-- a pair where it belongs among pairs that rise by their first numbers; kept once
abbrev pub with_pair : ℤ × ℤ → List (ℤ × ℤ) → List (ℤ × ℤ)
with_pair p [] = p ∷ []
with_pair p (q ∷ qs) =
    if int_lt p.0 q.0 then p ∷ q ∷ qs else (if int_lt q.0 p.0 then q ∷ with_pair p qs else q ∷ qs)

abbrev pub with_node : Limits → Limits → ℤ × ℤ → List (ℤ × ℤ) → List (ℤ × ℤ)
with_node user design node pairs = if is_on_axis user node then with_pair (pair_of user design node) pairs else pairs

-- these pairs, and those of the nodes
abbrev pub with_nodes : Limits → Limits → List (ℤ × ℤ) → List (ℤ × ℤ) → List (ℤ × ℤ)
with_nodes user design pairs [] = pairs
with_nodes user design pairs (node ∷ nodes) = with_nodes user design (with_node user design node pairs) nodes

abbrev pub avar_pairs : Mapping → List (ℤ × ℤ)
avar_pairs m = with_nodes m.user (design_of m) fixed_pairs m.nodes

-- The normalised design value of a normalised one: on the line between the neighbouring pairs. At 16384, the last
-- pair's first number, it is that pair's second number.
abbrev pub avar_at : Mapping → ℤ → ℤ
avar_at m v = followed Forward (avar_pairs m) v
