use Rattle.std.proofs.Common.{◌<◌, ◌-◌, length, arith}
use Rattle.std.proofs.lemmas.Map.Text.{hash_map_updates_str}
use Rattle.ufo_source.specs.Naming.{kept_in}
use Rattle.ufo_source.proofs.Named.{named_more}
use Rattle.ufo_source.proofs.index.by_name.Goals as goal

pub loop-number-preserved : goal.loop-number-preserved
loop-number-preserved g c = λ name.
    let less : c.loop-number.number - 1 < length c.args.entries.now = omega (arith, c.loop-number.auto) in
    named_more c.args.entries.now (c.loop-number.number - 1) c.loop-number.number _ c.as_str.result.now (omega (arith, c.loop-number-test.true)) less c.index-entries-number.is c.as_str.ensures
    (kept_in c.loop-number.found) (kept_in c.insert.new.self) name
    (hash_map_updates_str c.as_str.result.now c.loop-number.found c.insert.new.self _ c.in_ok-insert.ensures.updates name)
    (c.loop-number.invariant name)
