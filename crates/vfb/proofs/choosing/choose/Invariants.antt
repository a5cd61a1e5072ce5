use Rattle.std.proofs.Common.{◌≡◌, map, drop}
use Rattle.basics.specs.Reading.{with_prefix}
use Rattle.commands.specs.Words.{seen_word}
use Rattle.vfb.specs.Calls.{images_of, seen}
use Rattle.vfb.proofs.choosing.choose.Given as goal

-- the words that are left complete the images
abbrev pub invariant-loop-word : goal.invariant-loop-word
invariant-loop-word g l =
    with_prefix (map (λ filter. (goal.GlyphFilter-dyn g (filter.vtable, filter.value)).image filter.value ((goal.GlyphFilter-dyn g (filter.vtable, filter.value)).setting filter.value)) l.chosen.items)
    (images_of (map (seen (λ filter. (goal.GlyphFilter-dyn g (filter.vtable, filter.value)).called filter.value) (λ filter. (goal.GlyphFilter-dyn g (filter.vtable, filter.value)).setting_of filter.value) (λ filter. (goal.GlyphFilter-dyn g (filter.vtable, filter.value)).image filter.value)) l.handed.items)
    (map seen_word (drop l.word-index l.words)))
    ≡ images_of (map (seen (λ filter. (goal.GlyphFilter-dyn g (filter.vtable, filter.value)).called filter.value) (λ filter. (goal.GlyphFilter-dyn g (filter.vtable, filter.value)).setting_of filter.value) (λ filter. (goal.GlyphFilter-dyn g (filter.vtable, filter.value)).image filter.value)) l.fn.handed.items)
    (map seen_word l.words)
