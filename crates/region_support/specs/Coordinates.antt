-- Locations and supports as plain lists.
use Rattle.std.specs.Prelude.{ℤ, List, map}
use Rattle.arrayvec.specs.ArrayVec.{ArrayVec}
use Rattle.variation_rules.specs.declared.region.Triple.{Triple}

abbrev pub coordinates_of : List (ArrayVec ℤ) → List (List ℤ)
coordinates_of locations = map (λ at. at.items) locations

abbrev pub regions_in : List (ArrayVec Triple) → List (List Triple)
regions_in supports = map (λ support. support.items) supports
