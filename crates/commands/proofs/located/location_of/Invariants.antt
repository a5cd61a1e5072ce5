use Rattle.std.proofs.Common.{◌≡◌, length, ◌==◌}
use Rattle.std.specs.List.{slice_split}
use denote.Text.{Utf8}
use denote.Shadow.{shadow}
use Rattle.commands.specs.Command.{coordinate_of}
use Rattle.commands.proofs.WordLemmas.{with_prefix}
use Rattle.commands.proofs.located.location_of.Given as goal
use Rattle.basics.specs.Optional.{each}

abbrev pub invariant-loop-first : goal.invariant-loop-first
invariant-loop-first l = shadow (Utf8 l.rest)
    × (each coordinate_of (slice_split (λ b. b == 44) l.text) ≡ with_prefix l.at.items (each coordinate_of (slice_split (λ b. b == 44) l.rest)))

abbrev pub decreases-loop-first : goal.decreases-loop-first
decreases-loop-first l = length l.rest
