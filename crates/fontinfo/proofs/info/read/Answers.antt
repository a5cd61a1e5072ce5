use Rattle.std.proofs.Common.{◌≡◌, Ok, rules}
use Rattle.plist.specs.Values.{plain_value}
use Rattle.fontinfo.specs.FontInfo.{info_of}
use Rattle.fontinfo.specs.Tables.{tables_of}
use Rattle.fontinfo.proofs.info.read.Goals as goal

pub returns-in_err-tables-clause-exact : goal.returns-in_err-tables-clause-exact
unfolding info_of
returns-in_err-tables-clause-exact c =
    rw (c.in_ok-check_dict.ensures, c.in_ok-metrics.ensures.exact, c.in_ok-naming.ensures.exact) (search rules)

pub returns-clause-exact : goal.returns-clause-exact
unfolding info_of
returns-clause-exact c =
    let tables : tables_of c.in_ok-metrics.metrics.units c.in_ok-metrics.metrics.heights.ascender c.in_ok-metrics.metrics.heights.descender (plain_value c.args.value.now) ≡ Ok c.in_ok-tables.tables = search rules in
    rw (c.in_ok-check_dict.ensures, c.in_ok-metrics.ensures.exact, c.in_ok-naming.ensures.exact, tables) (search rules)
