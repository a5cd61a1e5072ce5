use Rattle.std.proofs.Common.{All, FitsSigned, SFits, pos, get_or, refl, rules, subst}
use Rattle.std.specs.Int.{w16, w32}
use Rattle.std.proofs.lemmas.Int.{to_z-of_z}
use Rattle.std.proofs.lemmas.List.{take_all}
use Rattle.std.proofs.lemmas.List.Elements.{All-more}
use Rattle.packed.proofs.tests.are_words.Goals as goal

pub loop-value-preserved : goal.loop-value-preserved
loop-value-preserved c =
    let fits : SFits w32 (get_or c.args.values.now c.loop-value.value-index (pos 0)) = search rules in
    All-more (FitsSigned w16) c.args.values.now c.loop-value.value-index (pos 0) c.loop-value-test.true c.loop-value.invariant (simp to_z-of_z at (c.if-not-is_word.ensures.0 refl))

pub returns : goal.returns
returns c = λ _. subst (All (FitsSigned w16)) (take_all c.loop-value.value-index c.args.values.now c.loop-value-test.false) c.loop-value.invariant
