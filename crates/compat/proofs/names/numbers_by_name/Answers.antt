use Rattle.std.proofs.Common.{◌<◌, ◌-◌, length, arith}
use Rattle.std.proofs.lemmas.Map.Text.{hash_map_updates_str}
use Rattle.compat.specs.Names.{number_in}
use Rattle.compat.proofs.Named.{named_more}
use Rattle.compat.proofs.names.numbers_by_name.Goals as goal

pub loop-number-preserved : goal.loop-number-preserved
loop-number-preserved c = λ name.
    let less : c.loop-number.number - 1 < length c.args.drawings.now = omega (arith, c.loop-number.auto) in
    let insert = c.in_ok-insert.ensures in
    named_more c.args.drawings.now (c.loop-number.number - 1) c.loop-number.number c.index-drawings-number.result c.as_str.result.now (omega (arith, c.loop-number-test.true)) less c.as_str.ensures
    (number_in c.loop-number.numbers) (number_in c.insert.new.self) name
    (hash_map_updates_str c.as_str.result.now c.loop-number.numbers c.insert.new.self _ insert.updates name)
    (c.loop-number.invariant name)
