use Rattle.font_sources.proofs.Whole.{family_within}
use Rattle.font_sources.proofs.family.read_parted.Goals as goal

pub returns-clause-within : goal.returns-clause-within
returns-clause-within g c =
    family_within c.in_ok-default.default c.args.source.now c.args.before.now c.args.after.now c.in_ok-earlier.earlier c.in_ok-later.later c.in_ok-joined.field-0
    c.in_ok-joined.ensures c.in_ok-default.ensures.within c.in_ok-earlier.ensures.within c.in_ok-later.ensures.within c.in_ok-earlier.ensures.folders c.in_ok-later.ensures.folders
