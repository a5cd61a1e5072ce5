use Rattle.std.proofs.Common.{◌∙◌}
use Rattle.commands.proofs.WordLemmas.{are_on_axes_by_first}
use Rattle.commands.proofs.located.are_on_axes.Goals as goal

pub returns-in-len1-up : goal.returns-in-len1-up
returns-in-len1-up c = c.have_axes.ensures ∙ are_on_axes_by_first c.args.drawings.now c.first-item.result c.len.result c.in-len1-up.len_at_least c.first-item.is c.len.ensures.value
