use Rattle.std.proofs.Common.{◌≡◌, ◌∙◌, Some, ap, sym, rules}
use Rattle.plist.specs.Values.{as_text, plain_value}
use Rattle.ufo_source.specs.Order.{with_text}
use Rattle.ufo_source.proofs.order.put_text.Goals as goal

pub returns-in_ok-insert-in-Some : goal.returns-in_ok-insert-in-Some
returns-in_ok-insert-in-Some c =
    let text : as_text (plain_value c.args.value.now) ≡ Some c.in_ok-from_str-in-Some.field-0 = search rules in
    c.in_ok-insert-in-Some.ensures.keys ∙ ap (with_text c.args.names.now.keys) (sym text)
