use Rattle.std.proofs.Common.{subst, sym}
use Rattle.fontinfo.specs.Keys.{IsShort}
use Rattle.fontinfo.proofs.Short.{plain_version_short, regular_short, untitled_short}
use Rattle.fontinfo.proofs.info.Info.plain.Goals as goal

pub returns-clause-texts : goal.returns-clause-texts
returns-clause-texts c = record {
  family_within = subst (IsShort 100) (sym c.in_ok-family.ensures) untitled_short;
  style_within = subst (IsShort 100) (sym c.in_ok-style.ensures) regular_short;
  copyright_within = tt;
  version_within = subst (IsShort 100) (sym c.in_ok-version.ensures) plain_version_short;
}
