use Rattle.std.proofs.Common.{◌≡◌, ◌+◌, ◌-◌, ◌≤◌, length, drop}
use Rattle.std.specs.List.{common_prefix_len}
use Rattle.compat.specs.Differences.{have_one_base}
use Rattle.compat.proofs.compared.common_bases.Given as goal

abbrev pub invariant-loop-count : goal.invariant-loop-count
invariant-loop-count l = (l.count ≤ length l.first) × (l.count ≤ length l.second) × (common_prefix_len have_one_base l.first l.second ≡ l.count + common_prefix_len have_one_base (drop l.count l.first) (drop l.count l.second))

abbrev pub decreases-loop-count : goal.decreases-loop-count
decreases-loop-count l = length l.first - l.count
