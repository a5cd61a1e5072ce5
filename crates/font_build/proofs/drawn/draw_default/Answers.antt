use Rattle.std.proofs.Common.{All, sym, subst}
use Rattle.font_build.proofs.FitLemmas.{are_fit, drawable, outlines_within}
use Rattle.glif.specs.Limits.{IsWithinLimits}
use Rattle.glyf_loca.specs.Limits.{AreFit}
use Rattle.font_build.proofs.drawn.draw_default.Goals as goal

pub outlines-requires : goal.outlines-requires
outlines-requires c = drawable c.args.project.now c.requires

pub tables-requires : goal.tables-requires
tables-requires c = subst AreFit (sym c.in_ok-outlines.ensures) (are_fit c.args.project.now c.requires)

pub facts-requires-clause-within : goal.facts-requires-clause-within
facts-requires-clause-within c = subst (All IsWithinLimits) (sym c.in_ok-outlines.ensures) (outlines_within c.args.project.now c.requires)
