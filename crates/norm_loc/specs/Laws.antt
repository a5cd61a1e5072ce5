-- What holds of the pairs of every map that has no fault.
use Rattle.std.specs.Prelude.{◌≡◌, ℤ, Contains, None, Some, IsTrue}
use Rattle.norm_loc.specs.declared.follow.Direction.TheVariants.{Forward}
use Rattle.norm_loc.specs.AvarPairs.{avar_at, avar_pairs, is_on_axis}
use Rattle.norm_loc.specs.AxisMaps.{Mapping, design_of}
use Rattle.norm_loc.specs.Following.{KeysRise}
use Rattle.norm_loc.specs.MapFaults.{fault_of}
use Rattle.norm_loc.specs.Normalising.{AreRising, normalised}
use Rattle.norm_loc.specs.PairBounds.{AreSegments, IsCoordinate}
use Rattle.norm_loc.specs.SegmentMap.{mapped}

-- at each node on the axis the normalised input becomes the normalised output
abbrev pub NodesAreMet : Type 0
NodesAreMet =
    (m : Mapping) (node : ℤ × ℤ) → fault_of m ≡ None → Contains m.nodes node → IsTrue (is_on_axis m.user node)
    → avar_at m (normalised m.user node.0) ≡ normalised (design_of m) node.1

-- the pairs rise strictly by their first numbers
abbrev pub PairsRise : Type 0
PairsRise = (m : Mapping) → KeysRise Forward (avar_pairs m)

-- they are pairs of coordinates, from -1 to 1, and few
abbrev pub PairsAreSegments : Type 0
PairsAreSegments = (m : Mapping) → AreRising m.user → AreRising (design_of m) → AreSegments (avar_pairs m)

-- they take a coordinate to what the map makes of it
abbrev pub PairsMap : Type 0
PairsMap =
    (m : Mapping) → AreRising m.user → AreRising (design_of m) → (v : ℤ) → IsCoordinate v
    → mapped (avar_pairs m) v ≡ Some (avar_at m v)
