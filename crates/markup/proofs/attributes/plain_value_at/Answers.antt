use Rattle.std.proofs.Common.{◌∙◌, sym}
use Rattle.markup.proofs.PlainValues.{plain_value_in}
use Rattle.markup.proofs.attributes.plain_value_at.Goals as goal

pub returns-in_ok-after-in-len1-up : goal.returns-in_ok-after-in-len1-up
returns-in_ok-after-in-len1-up c =
    plain_value_in c.args.bytes.now c.split_unquoted.result.0.now c.in_ok-after-in-len1-up.after.now c.in-len1-up.len_at_least (sym c.is_quote.ensures ∙ c.if-not-is_quote.false) c.split_unquoted.ensures.prefix
    (sym c.split_unquoted.ensures.rest ∙ c.in_ok-after-in-len1-up.ensures)
