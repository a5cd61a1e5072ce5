-- Where a fault of an axis is. Axes are numbered from 0 in the document's order.
use Rattle.std.specs.Prelude.{ℕ, pos, [], Result, Err}
use Rattle.basics.specs.declared.kinds.Kind.{Kind}
use Rattle.basics.specs.declared.fault.Spot.{Spot}

-- a fault of the axis with this number, and with a second one
abbrev pub axis_spot : Kind → ℕ → ℕ → Spot
axis_spot kind axis also = record { kind = kind; item = []; at = axis; also = also; first = pos 0; second = pos 0 }

abbrev pub axis_fault : {A : Type 0} → Kind → ℕ → ℕ → Result A Spot
axis_fault kind axis also = Err (axis_spot kind axis also)
