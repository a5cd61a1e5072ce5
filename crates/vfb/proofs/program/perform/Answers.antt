use Rattle.std.proofs.Common.{List, Ok, map, subst, sym}
use Rattle.commands.specs.Words.{asked}
use Rattle.vfb.specs.Calls.{Image}
use Rattle.vfb.specs.Performing.{Performs}
use Rattle.vfb.specs.declared.ending.Ending.{Ending}
use Rattle.vfb.proofs.PerformingLemmas.{performs_stopped, performs_written}
use Rattle.vfb.proofs.program.perform.Goals as goal

pub returns-in-Ok : goal.returns-in-Ok
returns-in-Ok g c =
    let images : List Image = map (λ filter. (goal.GlyphFilter-dyn g (filter.vtable, filter.value)).image filter.value ((goal.GlyphFilter-dyn g (filter.vtable, filter.value)).setting filter.value)) c.args.filters.items in
    performs_written (record { command = asked c.args.command.now; images = images }) c.in-Ok.product c.write_product.result c.in-Ok.ensures c.write_product.ensures

pub returns-in-Err : goal.returns-in-Err
returns-in-Err g c =
    let images : List Image = map (λ filter. (goal.GlyphFilter-dyn g (filter.vtable, filter.value)).image filter.value ((goal.GlyphFilter-dyn g (filter.vtable, filter.value)).setting filter.value)) c.args.filters.items in
    let performs = λ (ending : Ending). Performs (g.S.Sources.state c.args.sources.now) (g.S.Sources.state c.make.new.sources)
    (g.O.Outputs.state c.args.outputs.now) (g.O.Outputs.state c.args.outputs.now)
    (g.T.Say.state c.args.say.now) (g.T.Say.state c.args.say.now) (Ok (record { command = asked c.args.command.now; images = images })) ending in
    subst performs (sym c.from_stop.ensures)
    (performs_stopped (record { command = asked c.args.command.now; images = images }) c.one_answer.ensures (g.O.Outputs.state c.args.outputs.now) (g.T.Say.state c.args.say.now) c.in-Err.stop c.in-Err.ensures)
