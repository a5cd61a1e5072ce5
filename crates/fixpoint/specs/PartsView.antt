-- What the parts of a number that code holds stand for.
use Rattle.fixpoint.specs.declared.decimal.Parts.{Parts}
use Rattle.fixpoint.specs.DecimalText.{Decimal}

abbrev pub parts_view : Parts → Decimal
parts_view p = record { is_negative = p.is_negative; whole = p.whole.now; decimals = p.decimals.now }
