use Rattle.std.proofs.Common.{◌+◌, ◌*◌, ◌++◌}
use Rattle.std.specs.List.{flat_map}
use Rattle.feature_var.specs.Layout.{condition_offsets, long_bytes}
use Rattle.feature_var.proofs.Writing.{offset_more}
use Rattle.feature_var.proofs.conditions.put_condition_offsets.Goals as goal

pub loop-number-preserved : goal.loop-number-preserved
loop-number-preserved c =
    offset_more long_bytes 8 (2 + 4 * c.args.count) c.args.count c.loop-number.number c.loop-number.out.items c.put_u32.new.out.items (c.args.out.now.items ++ flat_map long_bytes (condition_offsets c.args.count)) c.loop-number-test.true c.in_ok-put_u32.ensures.ok c.loop-number.invariant
