use Rattle.std.proofs.Common.{◌<◌, ◌-◌, ◌∙◌, length, ap, arith}
use Rattle.std.proofs.lemmas.Map.Text.{hash_map_updates_str}
use Rattle.font_sources.specs.Naming.{position_in}
use Rattle.font_sources.proofs.Names.{named_more}
use Rattle.font_sources.proofs.naming.by_name.Goals as goal

pub loop-position-preserved : goal.loop-position-preserved
loop-position-preserved c = λ name.
    let less : c.loop-position.position - 1 < length c.args.names.now = omega (arith, c.loop-position.auto) in
    named_more c.args.names.now (c.loop-position.position - 1) c.loop-position.position c.index-names-position.result c.as_str.result.now (omega (arith, c.loop-position-test.true)) less
    (c.as_str.ensures ∙ c.index-names-position.is)
    (position_in c.loop-position.found) (position_in c.insert.new.self) name
    (hash_map_updates_str c.as_str.result.now c.loop-position.found c.insert.new.self _ c.in_ok-insert.ensures.updates name)
    (c.loop-position.invariant name)
