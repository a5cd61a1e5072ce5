-- What holds of the parts of a map that code holds.
use Rattle.std.specs.Prelude.{◌≡◌, ℤ, List, None}
use Rattle.norm_loc.specs.declared.span.Span.{Span}
use Rattle.norm_loc.specs.AvarPairs.{avar_pairs}
use Rattle.norm_loc.specs.AxisMaps.{design_of}
use Rattle.norm_loc.specs.MapFaults.{fault_of}
use Rattle.norm_loc.specs.Spans.{limits}

-- the map has no fault, and its design span and its pairs are made
pub record IsMade (user design : Span) (nodes pairs : List (ℤ × ℤ)) : Type 0 where
  pub faultless : fault_of (record { user = limits user; nodes = nodes }) ≡ None
  pub spans : limits design ≡ design_of (record { user = limits user; nodes = nodes })
  pub made : pairs ≡ avar_pairs (record { user = limits user; nodes = nodes })
