use Rattle.std.proofs.Common.{Some, map, take}
use Rattle.markup_rules.proofs.Attributes.{names_of}
use Rattle.markup.specs.Names.{HasNames}
use Rattle.markup.specs.Views.{attribute_view}
use Rattle.markup.proofs.attributes.names_of.Given as goal

abbrev pub invariant-loop-attribute : goal.invariant-loop-attribute
invariant-loop-attribute l = HasNames (Some l.names) (names_of (map attribute_view (take l.attribute-index l.kept)))
