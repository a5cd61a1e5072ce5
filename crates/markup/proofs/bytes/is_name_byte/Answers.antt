use Rattle.std.proofs.Common.{refl, arith}
use Rattle.markup.specs.declared.bytes.TheConstants.{CLASS}
use Rattle.markup_rules.specs.Bytes.{is_name_byte}
use Rattle.markup.proofs.Tables.{agree_below, from_table}
use Rattle.markup.proofs.bytes.is_name_byte.Goals as goal

pub returns : goal.returns
unfolding agree_below
returns c = from_table CLASS 4 is_name_byte c.args.byte (omega arith) refl
