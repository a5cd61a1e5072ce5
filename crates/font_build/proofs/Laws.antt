-- The laws of other crates that this one stands on.
use Rattle.font_rules.specs.Laws.{SubstitutesByName}
use Rattle.font_rules.proofs.NamesLaw.{substitutes_by_name}
use Rattle.glyf_loca.specs.Bounds.{BoundsLaw}
use Rattle.glyf_loca.proofs.BoundsLemmas.{bounds_are}
use Rattle.glyph_variations.specs.Draws.{ModelsAreDrawn}
use Rattle.glyph_variations.proofs.DrawsLemmas as draws

pub bounds_law : BoundsLaw
bounds_law = bounds_are

pub drawing_law : ModelsAreDrawn
drawing_law = draws.drawing_law

pub names_law : SubstitutesByName
names_law = substitutes_by_name
