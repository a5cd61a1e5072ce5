use Rattle.std.proofs.Common.{length, ap, sym, subst, arith}
use Rattle.std.specs.List.{filter}
use Rattle.std.specs.Str.{IsUtf8}
use Rattle.font_tables.specs.FontNames.{is_plain}
use Rattle.font_tables.proofs.TextLemmas.{cut_length, units_within}
use Rattle.font_tables.proofs.postscript.postscript_name.Goals as goal

pub returns-clause-short : goal.returns-clause-short
returns-clause-short c =
    let name = c.in_ok-name.name in
    let text : IsUtf8 name = subst IsUtf8 (sym c.in_ok-name.ensures) c.as_str-2.utf8 in
    omega (arith, units_within name text, ap length c.in_ok-name.ensures, ap length c.as_str-2.ensures.value, ap length c.in_ok-plain.ensures, cut_length 63 (filter is_plain c.as_str.result.now))
