use Rattle.filters.proofs.Applying.{AreApplying}
use Rattle.filters.proofs.in_order.apply_all.Given as goal

abbrev pub invariant-loop-number : goal.invariant-loop-number
invariant-loop-number g l =
    AreApplying l.initial.filters l.filters l.number l.initial.outline l.outline (record {
      called = λ filter. (goal.GlyphFilter-dyn g (filter.vtable, filter.value)).called filter.value;
      setting = λ filter. (goal.GlyphFilter-dyn g (filter.vtable, filter.value)).setting filter.value;
      setting_of = λ filter. (goal.GlyphFilter-dyn g (filter.vtable, filter.value)).setting_of filter.value;
      image = λ filter. (goal.GlyphFilter-dyn g (filter.vtable, filter.value)).image filter.value;
      kinds = λ filter. (goal.GlyphFilter-dyn g (filter.vtable, filter.value)).kinds filter.value;
      touches = λ filter. (goal.GlyphFilter-dyn g (filter.vtable, filter.value)).touches filter.value;
    })
