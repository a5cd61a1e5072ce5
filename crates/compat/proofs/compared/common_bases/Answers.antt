use Rattle.std.proofs.Common.{arith}
use Rattle.std.proofs.lemmas.List.Sums.{common_prefix_len-le}
use Rattle.compat.specs.Differences.{have_one_base}
use Rattle.compat.proofs.compared.common_bases.Goals as goal

pub returns-else-count-second : goal.returns-else-count-second
returns-else-count-second c =
    let ends = common_prefix_len-le have_one_base c.args.first.now c.args.second.now in
    omega (arith, ends, c.loop-count.invariant)
