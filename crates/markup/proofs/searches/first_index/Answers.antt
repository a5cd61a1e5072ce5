use Rattle.std.proofs.Common.{◌≡◌, ◌∙◌, sym, ap, false, drop}
use Rattle.std.proofs.lemmas.List.{take_rest}
use Rattle.markup_rules.proofs.Searches.{first_index_step}
use Rattle.markup.proofs.searches.first_index.Goals as goal
use Rattle.basics.specs.Bytes.{begins}

pub loop-index-preserved : goal.loop-index-preserved
loop-index-preserved c =
    let none : begins c.args.mark.now (drop c.loop-index.index c.args.bytes.now) ≡ false = ap (begins c.args.mark.now) (sym (take_rest c.args.bytes.now c.loop-index.index)) ∙ (sym c.begins.ensures.value ∙ c.if-begins.false) in
    first_index_step (begins c.args.mark.now) c.args.bytes.now c.loop-index.index c.loop-index-test.true none ∙ c.loop-index.invariant
