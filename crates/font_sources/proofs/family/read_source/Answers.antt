use Rattle.font_sources.proofs.Whole.{source_within}
use Rattle.font_sources.proofs.family.read_source.Goals as goal

pub returns-clause-within : goal.returns-clause-within
returns-clause-within g c =
    source_within c.args.default.now c.args.source.now c.in_ok-master.master c.in_ok-source_of.field-0 c.in_ok-source_of.ensures c.requires c.in_ok-master.ensures.within c.in_ok-master.ensures.wanted
