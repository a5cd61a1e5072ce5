use Rattle.std.proofs.Common.{◌+◌, ◌*◌, ◌++◌}
use Rattle.std.specs.List.{flat_map}
use Rattle.feature_var.specs.Layout.{lookup_offsets, word_bytes}
use Rattle.feature_var.proofs.Writing.{offset_more}
use Rattle.feature_var.proofs.lookups.put_lookup_offsets.Goals as goal

pub loop-number-preserved : goal.loop-number-preserved
loop-number-preserved c =
    offset_more word_bytes 16 (2 + 2 * c.args.count) c.args.count c.loop-number.number c.loop-number.out.items c.put_u16.new.out.items (c.args.out.now.items ++ flat_map word_bytes (lookup_offsets c.args.count)) c.loop-number-test.true c.in_ok-put_u16.ensures.ok c.loop-number.invariant
