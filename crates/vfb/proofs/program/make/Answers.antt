use Rattle.std.proofs.Common.{List, map}
use Rattle.commands.specs.Words.{asked_tuples}
use Rattle.vfb.specs.Calls.{Image}
use Rattle.vfb.proofs.StoppedLemmas.{tuples_made}
use Rattle.vfb.proofs.program.make.Goals as goal

pub returns-in-Tuples : goal.returns-in-Tuples
returns-in-Tuples g c =
    let images : List Image = map (λ filter. (goal.GlyphFilter-dyn g (filter.vtable, filter.value)).image filter.value ((goal.GlyphFilter-dyn g (filter.vtable, filter.value)).setting filter.value)) c.args.filters.items in
    rw c.in-Tuples.is (tuples_made images (asked_tuples c.in-Tuples.command) c.make_tuples.result c.make_tuples.ensures)
