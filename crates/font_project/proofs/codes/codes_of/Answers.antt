use Rattle.std.proofs.Common.{◌++◌, List, ℕ, ap, ◌∙◌, sym, subst, length, append-nil}
use Rattle.font_model.specs.Fit.{AreGlyphCodes}
use Rattle.font_project.proofs.CodesFit.{fit_codes}
use Rattle.font_project.proofs.codes.codes_of.Goals as goal

pub returns-clause-exact : goal.returns-clause-exact
returns-clause-exact c =
    sym (append-nil c.loop-code.codes) ∙ (ap (λ (rest : List (ℕ × ℕ)). c.loop-code.codes ++ rest) (sym c.in-None.ensures.steps.0) ∙ (c.loop-code.invariant ∙ (c.into_iter-code-iterator.ensures.into_iter_gives.0 ∙ c.in_ok-map.ensures)))

pub returns-clause-fit : goal.returns-clause-fit
returns-clause-fit c = subst (AreGlyphCodes (length c.args.drawings.now)) (sym (returns-clause-exact c)) (fit_codes c.args.drawings.now c.requires.points)
