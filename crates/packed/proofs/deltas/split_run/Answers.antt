-- The values counted in the class of the first one are the first run.
use Rattle.std.proofs.Common.{get_or, pos, SFits, arith, rules}
use Rattle.std.proofs.lemmas.Int.{to_z-of_z}
use Rattle.std.specs.Int.{w32}
use Rattle.variation_rules.specs.PackedDeltas.{class_of_delta}
use Rattle.packed.specs.Classes.{same_delta_class}
use Rattle.packed.proofs.FirstRun.{count_bounds, first_run, tells_deltas}
use Rattle.packed.proofs.deltas.split_run.Goals as goal

pub split_at-requires : goal.split_at-requires
split_at-requires c = omega (arith, count_bounds class_of_delta same_delta_class 64 c.class_of-class.result c.args.values.now, c.run_len.ensures)

pub returns : goal.returns
returns c =
    let fits : SFits w32 (get_or c.args.values.now 0 (pos 0)) = search rules in
    first_run class_of_delta same_delta_class 64 tells_deltas (omega arith) _ _ _ _ _ (pos 0) c.requires (simp to_z-of_z at c.class_of-class.ensures) c.run_len.ensures c.split_at.ensures.front c.split_at.ensures.back
