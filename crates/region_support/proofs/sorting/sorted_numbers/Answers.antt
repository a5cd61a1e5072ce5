use Rattle.std.proofs.Common.{◌≡◌, ◌++◌, ℕ, List, map, subst, sym, ◌∙◌, ap, append-nil, arith, rules}
use Rattle.std.specs.Prelude.{IsPermutation}
use Rattle.std.proofs.lemmas.List.{drop_all}
use Rattle.region_support.specs.MasterOrder.{axes_of}
use Rattle.region_support.specs.Coordinates.{coordinates_of}
use Rattle.region_support.specs.Sorting.{IsOrder}
use Rattle.region_support.specs.declared.key.Key.{Key}
use Rattle.region_support.proofs.KeyLemmas.{keys_from, keys_order, coordinates_lengths}
use Rattle.region_support.proofs.sorting.sorted_numbers.Goals as goal

pub returns : goal.returns
returns c =
    let coordinate_lists = coordinates_of c.args.locations.now in
    let all_keys : c.loop-number.keys.items ≡ keys_from coordinate_lists 0 coordinate_lists =
    sym (append-nil c.loop-number.keys.items) ∙ (sym (ap (λ left. c.loop-number.keys.items ++ keys_from coordinate_lists c.loop-number.number (coordinates_of left)) (drop_all c.loop-number.number c.args.locations.now (omega arith))) ∙ c.loop-number.invariant) in
    let moved : IsPermutation (keys_from coordinate_lists 0 coordinate_lists) c.sort_unstable.new.self.items =
    subst (λ (l : List Key). IsPermutation l c.sort_unstable.new.self.items) all_keys c.sort_unstable.ensures.permutation in
    let numbers : c.from_vec.result ≡ map (λ (k : Key). k.number) c.sort_unstable.new.self.items = search rules in
    subst (λ (ns : List ℕ). IsOrder coordinate_lists ns) (sym numbers)
    (keys_order coordinate_lists c.sort_unstable.new.self.items (coordinates_lengths (axes_of coordinate_lists) c.args.locations.now c.requires.lengths) c.requires.sound moved c.sort_unstable.ensures.sorted)
