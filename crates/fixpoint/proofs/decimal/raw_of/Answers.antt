use Rattle.fixpoint.proofs.Numbers.{fix16_parts}
use Rattle.fixpoint.specs.PartsView.{parts_view}
use Rattle.fixpoint.proofs.decimal.raw_of.Goals as goal

pub returns : goal.returns
returns c =
    let parts = fix16_parts (parts_view c.args.number) in
    cc (parts, c.with_sign.ensures, c.nearest_fix16-size.ensures, c.number_up_to_cap-whole.ensures.value, c.first_decimals-decimals.ensures.value)
