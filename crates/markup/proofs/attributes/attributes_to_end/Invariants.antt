use Rattle.std.proofs.Common.{◌≡◌, length, map}
use Rattle.markup_rules.proofs.Attributes.{names_of}
use Rattle.markup.specs.Names.{HasNames}
use Rattle.markup.specs.Openings.{attributes_to_end}
use Rattle.markup.specs.Views.{attribute_view}
use Rattle.markup.proofs.Endings.{ending_after}
use Rattle.markup.proofs.attributes.attributes_to_end.Given as goal

abbrev pub invariant-loop-end : goal.invariant-loop-end
invariant-loop-end l = HasNames l.names (names_of (map attribute_view l.room.items)) × (ending_after (map attribute_view l.room.items) l.rest ≡ attributes_to_end l.bytes)

abbrev pub decreases-loop-end : goal.decreases-loop-end
decreases-loop-end l = length l.rest
