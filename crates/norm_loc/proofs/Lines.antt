-- Following nodes: how far a loop over them has come.
use Rattle.std.proofs.Common.{◌≡◌, ℤ, ◌≤ℤ◌, List, FitsSigned}
use Rattle.std.specs.Int.{w32}
use Rattle.norm_loc.specs.declared.follow.Direction.{Direction}
use Rattle.norm_loc.specs.Following.{KeysRiseAfter, followed_after, key, value}

-- a number is at a node or above it, and the nodes from there on lead to this
pub record IsAt (d : Direction) (x y : ℤ) (nodes : List (ℤ × ℤ)) (v whole : ℤ) : Type 0 where
  pub node : ℤ × ℤ
  pub x_is : x ≡ key d node
  pub y_is : y ≡ value d node
  pub x_fits : FitsSigned w32 x
  pub y_fits : FitsSigned w32 y
  pub rise : KeysRiseAfter d node nodes
  pub above : x ≤ℤ v
  pub leads : followed_after d node nodes v ≡ whole
