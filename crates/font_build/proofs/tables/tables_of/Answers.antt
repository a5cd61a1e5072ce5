use Rattle.std.proofs.Common.{sym, subst}
use Rattle.font_build.proofs.FitLemmas.{are_facts}
use Rattle.font_build.proofs.RuleLemmas.{gsub_writable}
use Rattle.plain_tables.specs.Conditions.{AreFacts}
use Rattle.font_build.proofs.tables.tables_of.Goals as goal

pub tell_facts-requires : goal.tell_facts-requires
tell_facts-requires c = subst AreFacts (sym c.in_ok-glyf.ensures.facts) (are_facts c.args.project.now c.requires)

pub gsub-requires : goal.gsub-requires
gsub-requires c = gsub_writable c.args.project.now c.requires
