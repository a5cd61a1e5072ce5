use Rattle.std.proofs.Common.{◌≡◌, ap, subst, arith, rules}
use Rattle.std.specs.Str.{IsUtf8}
use Rattle.font_tables.specs.FontNames.{full_name}
use Rattle.font_text.specs.Utf16.{utf16_length}
use Rattle.font_tables.proofs.TextLemmas.{space_length}
use Rattle.font_tables.proofs.texts.full_name.Goals as goal

pub returns-clause-short : goal.returns-clause-short
returns-clause-short c =
    let info = c.args.info.now in
    let text : IsUtf8 info.family = subst IsUtf8 c.as_str-family.ensures c.as_str-family.utf8 in
    let is : c.in_ok-text.text ≡ full_name info = search rules in
    omega (arith, ap utf16_length is, space_length info.family info.style text, c.requires.family_within, c.requires.style_within)
