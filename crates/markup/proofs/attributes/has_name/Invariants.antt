use Rattle.std.proofs.Common.{◌≡◌, drop, map}
use Rattle.std.specs.List.{list_any}
use Rattle.std.specs.Str.{bytes_eq}
use Rattle.markup_rules.proofs.Attributes.{names_of}
use Rattle.markup.specs.Views.{attribute_view}
use Rattle.markup.proofs.attributes.has_name.Given as goal

abbrev pub invariant-loop-attribute : goal.invariant-loop-attribute
invariant-loop-attribute l = list_any (bytes_eq l.name) (names_of (map attribute_view (drop l.attribute-index l.attributes))) ≡ list_any (bytes_eq l.name) (names_of (map attribute_view l.attributes))
