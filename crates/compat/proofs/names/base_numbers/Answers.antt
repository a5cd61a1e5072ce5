use Rattle.std.proofs.Common.{ap}
use Rattle.std.specs.Option.{option_map}
use Rattle.compat.specs.Names.{dangling_refusal, number_in}
use Rattle.compat.proofs.Named.{base_missing, base_found}
use Rattle.compat.proofs.names.base_numbers.Goals as goal

pub returns-in-None : goal.returns-in-None
returns-in-None c =
    ap (option_map (dangling_refusal c.args.number)) (base_missing (number_in c.args.numbers.now) c.args.drawing.now c.as_slice-component-items.result.now c.loop-index.index c.component-item.result c.as_slice-component-items.ensures c.loop-index-test.true c.component-item.is
    c.in-None.ensures c.loop-index.invariant.1)

pub loop-index-preserved : goal.loop-index-preserved
loop-index-preserved c =
    let push = c.in_ok-push-in-Some.ensures in
    base_found (number_in c.args.numbers.now) c.args.drawing.now c.as_slice-component-items.result.now c.loop-index.index c.component-item.result c.in-Some.base c.as_slice-component-items.ensures c.loop-index-test.true c.component-item.is
    c.in-Some.ensures c.loop-index.invariant.1 c.loop-index.bases.items c.push.new.self.items c.loop-index.invariant.0 push.items
