use Rattle.std.specs.Str.{bytes_eq}
use Rattle.vfb.proofs.Firsts.{HasPassed}
use Rattle.vfb.proofs.named.number_called.Given as goal

abbrev pub invariant-loop-number : goal.invariant-loop-number
invariant-loop-number g l =
    HasPassed (λ filter. bytes_eq ((goal.GlyphFilter-dyn g (filter.vtable, filter.value)).called filter.value) l.name) l.filters l.number
