-- The drawing of a source text: that of its tree, or the first fault of the text or of the tree.
use Rattle.std.specs.Prelude.{ℕ, List, Result}
use Rattle.markup_rules.specs.Outcome.{outcome}
use Rattle.basics.specs.Reading.{◌>>=◌}
use Rattle.basics.specs.declared.fault.Spot.{Spot}
use Rattle.glif.specs.declared.shape.Drawing.{Drawing}
use Rattle.glif.specs.Glyphs.{drawing_of}

abbrev pub drawing_of_text : List ℕ → Result Drawing Spot
drawing_of_text text = outcome text >>= drawing_of
