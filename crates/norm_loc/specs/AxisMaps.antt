-- The map of an axis (Designspace, "axis" and "map"): from user values, as an application shows them, to design
-- values, at which sources are drawn.
use Rattle.std.specs.Prelude.{ℤ, List}
use Rattle.norm_loc.specs.declared.follow.Direction.TheVariants.{Forward, Backward}
use Rattle.norm_loc.specs.Following.{followed}
use Rattle.norm_loc.specs.Normalising.{Limits, brought}

-- the limits of an axis in user values, and the nodes of its map, each a user value and its design value
pub record Mapping : Type 0 where
  pub user : Limits
  pub nodes : List (ℤ × ℤ)

-- the design value of a user value
abbrev pub forward : Mapping → ℤ → ℤ
forward m v = followed Forward m.nodes (brought m.user.min m.user.max v)

-- the limits in design values
abbrev pub design_of : Mapping → Limits
design_of m = record {
  min = forward m m.user.min;
  default = forward m m.user.default;
  max = forward m m.user.max;
}

-- the user value of a design value
abbrev pub backward : Mapping → ℤ → ℤ
backward m w =
    brought m.user.min m.user.max (followed Backward m.nodes (brought (design_of m).min (design_of m).max w))
