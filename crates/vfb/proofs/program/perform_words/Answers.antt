use Rattle.std.proofs.Common.{Option, IfSome, List, option_map, map, string_bytes, ap, sym, ◌∙◌, subst, refl}
use Rattle.commands.specs.Command.{Command}
use Rattle.commands.specs.Proper.{IsProper}
use Rattle.commands.specs.Syntax.{command_of}
use Rattle.commands.specs.Words.{asked}
use Rattle.vfb.specs.Calls.{Handed, call_by, seen, words}
use Rattle.vfb.specs.Performing.{Performs}
use Rattle.vfb.specs.declared.ending.Ending.TheVariants as ending
use Rattle.vfb.specs.declared.misuse.Misuse.TheVariants as misuse
use Rattle.vfb.proofs.PerformingLemmas.{performs_no_memory, performs_usage}
use Rattle.vfb.proofs.program.perform_words.Goals as goal

pub perform_filtered-requires : goal.perform_filtered-requires
perform_filtered-requires g c = subst (λ found. IfSome (option_map asked found) IsProper) c.in-Ok-Some.field-0-is c.in-Ok-Some.ensures.proper

pub returns-in-Ok-Some : goal.returns-in-Ok-Some
returns-in-Ok-Some g c =
    let handed : List Handed = map (seen (λ filter. (goal.GlyphFilter-dyn g (filter.vtable, filter.value)).called filter.value) (λ filter. (goal.GlyphFilter-dyn g (filter.vtable, filter.value)).setting_of filter.value) (λ filter. (goal.GlyphFilter-dyn g (filter.vtable, filter.value)).image filter.value)) c.args.filters.items in
    subst (λ (command : Option Command). Performs (g.S.Sources.state c.args.sources.now) (g.S.Sources.state c.perform_filtered.new.sources)
    (g.O.Outputs.state c.args.outputs.now) (g.O.Outputs.state c.perform_filtered.new.outputs)
    (g.T.Say.state c.args.say.now) (g.T.Say.state c.perform_filtered.new.say) (call_by handed command) c.perform_filtered.result)
    (ap (option_map asked) (sym c.in-Ok-Some.field-0-is) ∙ c.in-Ok-Some.ensures.command) c.perform_filtered.ensures

pub returns-in-Ok-None : goal.returns-in-Ok-None
returns-in-Ok-None g c =
    let handed : List Handed = map (seen (λ filter. (goal.GlyphFilter-dyn g (filter.vtable, filter.value)).called filter.value) (λ filter. (goal.GlyphFilter-dyn g (filter.vtable, filter.value)).setting_of filter.value) (λ filter. (goal.GlyphFilter-dyn g (filter.vtable, filter.value)).image filter.value)) c.args.filters.items in
    subst (λ (command : Option Command). Performs (g.S.Sources.state c.args.sources.now) (g.S.Sources.state c.args.sources.now)
    (g.O.Outputs.state c.args.outputs.now) (g.O.Outputs.state c.args.outputs.now)
    (g.T.Say.state c.args.say.now) (g.T.Say.state c.args.say.now) (call_by handed command) (ending.Usage misuse.Words))
    (ap (option_map asked) (sym c.in-Ok-None.field-0-is) ∙ c.in-Ok-None.ensures.command)
    (performs_usage (g.S.Sources.state c.args.sources.now) (g.O.Outputs.state c.args.outputs.now) (g.T.Say.state c.args.say.now) words misuse.Words refl)

pub returns-in-Err : goal.returns-in-Err
returns-in-Err g c =
    let handed : List Handed = map (seen (λ filter. (goal.GlyphFilter-dyn g (filter.vtable, filter.value)).called filter.value) (λ filter. (goal.GlyphFilter-dyn g (filter.vtable, filter.value)).setting_of filter.value) (λ filter. (goal.GlyphFilter-dyn g (filter.vtable, filter.value)).image filter.value)) c.args.filters.items in
    performs_no_memory (g.S.Sources.state c.args.sources.now) (g.O.Outputs.state c.args.outputs.now) (g.T.Say.state c.args.say.now)
    (call_by handed (command_of (map string_bytes c.args.words.now.items)))
