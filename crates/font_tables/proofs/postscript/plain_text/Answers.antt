use Rattle.std.proofs.Common.{◌<◌, length, get_or, ap, ◌∙◌, arith}
use Rattle.std.specs.String.{string_bytes}
use Rattle.font_tables.proofs.TextLemmas.{plain_more}
use Rattle.font_tables.proofs.postscript.plain_text.Goals as goal

pub loop-byte-preserved : goal.loop-byte-preserved
loop-byte-preserved c =
    let text = c.args.text.now in
    let bytes = c.as_bytes-byte-items.result.now in
    let i = c.loop-byte.byte-index in
    let here : i < length text = omega (arith, ap length c.as_bytes-byte-items.ensures.value) in
    c.in_ok-push_plain.ensures ∙ plain_more text (string_bytes c.loop-byte.plain) i (get_or bytes i 0) here (ap (λ t. get_or t i 0) c.as_bytes-byte-items.ensures.value) c.loop-byte.invariant
