-- What orders a master among all, and its number.
use Rattle.std.specs.Prelude.{ℕ, ℤ, List, map, unsigned_abs}
use Rattle.region_support.specs.MasterOrder.{rank, points_from, axes_from, values_of, is_above}
use Rattle.region_support.specs.declared.key.Key.{Key}

abbrev pub key_of : List (List ℤ) → ℕ → List ℤ → Key
key_of locations number at = record {
  rank = rank at;
  points = record { 0 = points_from locations 0 at };
  axes = record { items = axes_from 0 at };
  sides = record { items = map is_above (values_of at) };
  distances = record { items = map unsigned_abs (values_of at) };
  number = number;
}
