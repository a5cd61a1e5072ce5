use Rattle.std.proofs.Common.{refl, arith}
use Rattle.markup.specs.declared.bytes.TheConstants.{CLASS}
use Rattle.markup.specs.Views.{is_unquoted}
use Rattle.markup.proofs.Tables.{agree_below, from_table}
use Rattle.markup.proofs.bytes.is_unquoted.Goals as goal

pub returns : goal.returns
unfolding agree_below
returns c = from_table CLASS 16 is_unquoted c.args.byte (omega arith) refl
