use Rattle.std.proofs.Common.{◌≡◌, None, rules}
use Rattle.region_support.specs.MasterOrder.{axes_of}
use Rattle.region_support.specs.Coordinates.{coordinates_of}
use Rattle.region_support.specs.Sorting.{model_fault, IsOrder}
use Rattle.region_support.proofs.KeyLemmas.{order_value, coordinates_lengths}
use Rattle.region_support.proofs.sorting.order.Goals as goal

pub returns-clause-value : goal.returns-clause-value
returns-clause-value c =
    let coordinate_lists = coordinates_of c.args.locations.now in
    let sound : model_fault coordinate_lists ≡ None = search rules in
    let order : IsOrder coordinate_lists c.in_ok-sorted_numbers.field-0 = search rules in
    order_value coordinate_lists c.in_ok-sorted_numbers.field-0 (coordinates_lengths (axes_of coordinate_lists) c.args.locations.now c.requires.lengths) sound order
