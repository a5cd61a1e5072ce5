use Rattle.std.proofs.Common.{◌≡◌, length}
use Rattle.compat.specs.Searches.{AreClear, AreSettled}
use Rattle.compat.proofs.cycle.clear_of_cycles.Given as goal

abbrev pub invariant-loop-index : goal.invariant-loop-index
invariant-loop-index l =
    (length l.clear.items ≡ length l.graph)
    × (length l.marked.items ≡ length l.graph)
    × AreClear l.graph l.clear.items
    × AreSettled l.graph l.marked.items
