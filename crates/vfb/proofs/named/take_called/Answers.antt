use Rattle.std.proofs.Common.{sym, ◌∙◌}
use Rattle.std.specs.Str.{bytes_eq}
use Rattle.std.specs.Cmp.Lexicographic.{same_text}
use Rattle.vfb.proofs.Firsts.{taken, none_taken, taken_passes, removed, none_removed}
use Rattle.vfb.proofs.named.take_called.Goals as goal

pub returns-in_err-number-clause-taken : goal.returns-in_err-number-clause-taken
returns-in_err-number-clause-taken g c = let at = rw c.deref.ensures.value at c.in_err-number.ensures in
    c.from_residual.ensures ∙ none_taken (λ filter. bytes_eq ((goal.GlyphFilter-dyn g (filter.vtable, filter.value)).called filter.value) c.args.name.now) c.args.filters.now.items at

pub returns-in_err-number-clause-others : goal.returns-in_err-number-clause-others
returns-in_err-number-clause-others g c = let at = rw c.deref.ensures.value at c.in_err-number.ensures in none_removed _ _ at

pub returns-clause-taken : goal.returns-clause-taken
returns-clause-taken g c = let at = rw c.deref.ensures.value at c.in_ok-number.ensures in taken _ _ c.in_ok-number.number c.remove.result at c.remove.ensures.value

pub returns-clause-named : goal.returns-clause-named
returns-clause-named g c =
    let at = rw c.deref.ensures.value at c.in_ok-number.ensures in
    let passes = taken_passes _ _ c.in_ok-number.number c.remove.result at c.remove.ensures.value in same_text _ _ (sym passes)

pub returns-clause-others : goal.returns-clause-others
returns-clause-others g c = let at = rw c.deref.ensures.value at c.in_ok-number.ensures in c.remove.ensures.items ∙ removed _ _ c.in_ok-number.number at
