use Rattle.std.specs.Vec.Iter.{into_iter_items}
use Rattle.font_project.proofs.FilteredOutlines.{AreMaking}
use Rattle.font_project.proofs.filtering.filtered_outlines.Given as goal

abbrev pub invariant-loop-outline : goal.invariant-loop-outline
invariant-loop-outline g l =
    AreMaking (record {
      called = λ filter. (goal.GlyphFilter-dyn g (filter.vtable, filter.value)).called filter.value;
      setting = λ filter. (goal.GlyphFilter-dyn g (filter.vtable, filter.value)).setting filter.value;
      setting_of = λ filter. (goal.GlyphFilter-dyn g (filter.vtable, filter.value)).setting_of filter.value;
      image = λ filter. (goal.GlyphFilter-dyn g (filter.vtable, filter.value)).image filter.value;
      kinds = λ filter. (goal.GlyphFilter-dyn g (filter.vtable, filter.value)).kinds filter.value;
      touches = λ filter. (goal.GlyphFilter-dyn g (filter.vtable, filter.value)).touches filter.value;
    }) l.initial.filters l.filters l.names l.folder l.fn.outlines (into_iter_items l.outline-iterator) l.made l.glyph
