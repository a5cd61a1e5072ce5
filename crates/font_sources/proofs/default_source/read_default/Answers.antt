use Rattle.std.proofs.Common.{subst, sym}
use Rattle.font_sources.specs.Limits.{IsDefaultWithin}
use Rattle.font_sources.proofs.Whole.{default_within}
use Rattle.font_sources.proofs.default_source.read_default.Goals as goal

pub returns-clause-within : goal.returns-clause-within
returns-clause-within g c = subst IsDefaultWithin (sym c.in_ok-default_of.ensures) (default_within c.in_ok-master.master c.in_ok-master.ensures.within c.in_ok-master.ensures.whole)
