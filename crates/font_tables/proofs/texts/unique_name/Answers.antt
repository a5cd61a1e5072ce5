use Rattle.std.proofs.Common.{◌≡◌, ap, subst, arith, rules}
use Rattle.std.specs.Str.{IsUtf8}
use Rattle.font_tables.specs.FontNames.{postscript_name, unique_name}
use Rattle.font_text.specs.Utf16.{utf16_length}
use Rattle.font_tables.proofs.TextLemmas.{semicolon_length}
use Rattle.font_tables.proofs.texts.unique_name.Goals as goal

pub returns-clause-short : goal.returns-clause-short
returns-clause-short c =
    let info = c.args.info.now in
    let text : IsUtf8 info.version = subst IsUtf8 c.as_str-version.ensures c.as_str-version.utf8 in
    let is : c.in_ok-text.text ≡ unique_name info = search rules in
    omega (arith, ap utf16_length is, semicolon_length info.version (postscript_name info) text, ap utf16_length c.requires.postscript, c.requires.texts.version_within, c.requires.short)
