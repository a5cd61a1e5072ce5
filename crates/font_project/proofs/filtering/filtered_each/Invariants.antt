use Rattle.std.specs.Vec.Iter.{into_iter_items}
use Rattle.font_project.proofs.FilteredSources.{AreMaking}
use Rattle.font_project.proofs.filtering.filtered_each.Given as goal

abbrev pub invariant-loop-source : goal.invariant-loop-source
invariant-loop-source g l =
    AreMaking (record {
      called = λ filter. (goal.GlyphFilter-dyn g (filter.vtable, filter.value)).called filter.value;
      setting = λ filter. (goal.GlyphFilter-dyn g (filter.vtable, filter.value)).setting filter.value;
      setting_of = λ filter. (goal.GlyphFilter-dyn g (filter.vtable, filter.value)).setting_of filter.value;
      image = λ filter. (goal.GlyphFilter-dyn g (filter.vtable, filter.value)).image filter.value;
      kinds = λ filter. (goal.GlyphFilter-dyn g (filter.vtable, filter.value)).kinds filter.value;
      touches = λ filter. (goal.GlyphFilter-dyn g (filter.vtable, filter.value)).touches filter.value;
    }) l.initial.filters l.filters l.names l.fn.sources.items (into_iter_items l.source-iterator) l.made.items
