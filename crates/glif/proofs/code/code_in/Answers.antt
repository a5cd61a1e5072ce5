-- Six hexadecimal digits are never refused as a number.
use Rattle.std.proofs.Common.{◌≡◌, true, rules}
use Rattle.glif.specs.Glyphs.{is_hexadecimal}
use Rattle.glif.proofs.Hexadecimal.{is_parsed}
use Rattle.glif.proofs.code.code_in.Goals as goal

pub returns-in-Err : goal.returns-in-Err
returns-in-Err c =
    let digits : is_hexadecimal c.args.text.now ≡ true = search rules in
    absurd (c.in-Err.ensures.value (is_parsed c.args.text.now digits))
