use Rattle.std.proofs.Common.{◌≡◌, Ok, refl, rules}
use Rattle.plist.specs.Values.{plain_value}
use Rattle.fontinfo.specs.Lines.{hhea_of}
use Rattle.fontinfo.specs.Tables.{os2_of, tables_of}
use Rattle.fontinfo.specs.Underlines.{underline_of}
use Rattle.fontinfo.proofs.tables.read_tables.Goals as goal

pub returns-in_err-underline-clause-exact : goal.returns-in_err-underline-clause-exact
unfolding tables_of
returns-in_err-underline-clause-exact c =
    let lines : hhea_of c.args.ascender c.args.descender (plain_value c.args.info.now) ≡ Ok c.in_ok-hhea.hhea = search rules in
    let os2 : os2_of c.args.ascender c.args.descender (plain_value c.args.info.now) ≡ Ok c.in_ok-os2.os2 = search rules in
    rw (lines, os2) (search rules)

pub returns-clause-exact : goal.returns-clause-exact
unfolding tables_of
returns-clause-exact c =
    let lines : hhea_of c.args.ascender c.args.descender (plain_value c.args.info.now) ≡ Ok c.in_ok-hhea.hhea = search rules in
    let os2 : os2_of c.args.ascender c.args.descender (plain_value c.args.info.now) ≡ Ok c.in_ok-os2.os2 = search rules in
    let under : underline_of c.args.units (plain_value c.args.info.now) ≡ Ok c.in_ok-underline.underline = search rules in
    rw (lines, os2, under) refl
