use Rattle.std.proofs.Common.{FitsSigned, to_z-of_z, arith}
use Rattle.std.proofs.lemmas.Int.{ints}
use Rattle.std.specs.Int.{w32, w64}
use Rattle.norm_loc.specs.declared.follow.Direction.TheVariants.{Forward}
use Rattle.norm_loc.proofs.RisingLemmas.{keys_rise, ordered}
use Rattle.norm_loc.proofs.axis_map.design_value.Goals as goal

pub followed-requires : goal.followed-requires
followed-requires c =
    let min : FitsSigned w64 c.wide.result = omega (arith, ints) in
    let max : FitsSigned w64 c.wide-2.result = omega (arith, ints) in
    let wide : FitsSigned w64 c.brought-value.result = omega (arith, ints) in
    let short : FitsSigned w32 c.brought-value.result = omega (arith, ints) in
    (omega arith, (keys_rise Forward c.args.nodes.now (ordered c.args.nodes.now c.requires), simp to_z-of_z short))
