-- The differences counted in the class of the first one are the first run.
use Rattle.std.proofs.Common.{arith}
use Rattle.variation_rules.specs.PackedPoints.{class_of_difference}
use Rattle.packed.specs.Classes.{same_point_class}
use Rattle.packed.proofs.FirstRun.{count_bounds, first_run, tells_points}
use Rattle.packed.proofs.points.split_run.Goals as goal

pub split_at-requires : goal.split_at-requires
split_at-requires c = omega (arith, count_bounds class_of_difference same_point_class 128 c.class_of-class.result c.args.differences.now, c.run_len.ensures)

pub returns : goal.returns
returns c =
    first_run class_of_difference same_point_class 128 tells_points (omega arith) _ _ _ _ _ 0 c.requires c.class_of-class.ensures c.run_len.ensures c.split_at.ensures.front c.split_at.ensures.back
