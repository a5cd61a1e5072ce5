use Rattle.std.proofs.Common.{List, map}
use Rattle.commands.specs.Words.{asked, seen_word}
use Rattle.vfb.specs.Calls.{Handed, Image, seen}
use Rattle.vfb.proofs.PerformingLemmas.{performs_with, performs_without}
use Rattle.vfb.proofs.program.perform_filtered.Goals as goal

pub returns-in-Ok : goal.returns-in-Ok
returns-in-Ok g c =
    let handed : List Handed = map (seen (λ filter. (goal.GlyphFilter-dyn g (filter.vtable, filter.value)).called filter.value) (λ filter. (goal.GlyphFilter-dyn g (filter.vtable, filter.value)).setting_of filter.value) (λ filter. (goal.GlyphFilter-dyn g (filter.vtable, filter.value)).image filter.value)) c.args.filters.items in
    let images : List Image = map (λ filter. (goal.GlyphFilter-dyn g (filter.vtable, filter.value)).image filter.value ((goal.GlyphFilter-dyn g (filter.vtable, filter.value)).setting filter.value)) c.in-Ok.chosen.items in
    performs_with handed (asked c.args.command.now) (map seen_word c.filter_words.result.now) images c.perform.result c.filter_words.ensures c.in-Ok.ensures c.perform.ensures

pub returns-in-Err : goal.returns-in-Err
returns-in-Err g c =
    let handed : List Handed = map (seen (λ filter. (goal.GlyphFilter-dyn g (filter.vtable, filter.value)).called filter.value) (λ filter. (goal.GlyphFilter-dyn g (filter.vtable, filter.value)).setting_of filter.value) (λ filter. (goal.GlyphFilter-dyn g (filter.vtable, filter.value)).image filter.value)) c.args.filters.items in
    performs_without (g.S.Sources.state c.args.sources.now) (g.O.Outputs.state c.args.outputs.now) (g.T.Say.state c.args.say.now) handed (asked c.args.command.now) (map seen_word c.filter_words.result.now) c.in-Err.ending c.filter_words.ensures c.in-Err.ensures
