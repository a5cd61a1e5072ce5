-- The drawings that a command names, or the first fault of their files.
use Rattle.std.specs.Prelude.{ℕ, pos, List, [], ◌∷◌, Result, Ok, Err}
use Rattle.outside.specs.Files.{Files}
use Rattle.basics.specs.Reading.{◌>>=◌, each, spot_of}
use Rattle.basics.specs.declared.kinds.Kind.TheVariants.{DanglingComponent}
use Rattle.basics.specs.declared.fault.Fault.{Fault}
use Rattle.basics.specs.declared.fault.Spot.{Spot}
use Rattle.source_files.specs.Trees.{meant_at}
use Rattle.glif.specs.Texts.{drawing_of_text}
use Rattle.glif.specs.declared.shape.Component.{Component}
use Rattle.glif.specs.declared.shape.Drawing.{Drawing}
use Rattle.commands.specs.Command.{Located}

-- a glyph's drawings stand alone, so that no component has a base: the first one is lost
abbrev pub alone_by : Drawing → List Component → Result Drawing Spot
alone_by drawing [] = Ok drawing
alone_by drawing (component ∷ components) = Err (spot_of DanglingComponent drawing.name 0 (pos 0))

abbrev pub alone : Drawing → Result Drawing Spot
alone drawing = alone_by drawing drawing.components

-- a text is that of a GLIF, and its drawing stands alone
unfoldable pub drawn_alone : List ℕ → Result Drawing Spot
drawn_alone text = drawing_of_text text >>= λ drawing. alone drawing

-- what the file of a drawing draws: the drawing of its text, or the first fault of the file
unfoldable pub drawing_at : Files → Located → Result Drawing Fault
drawing_at files located = meant_at drawn_alone files located.path

-- what the files draw, in the order of the words, or the fault of the first that has one
abbrev pub drawings_of : Files → List Located → Result (List Drawing) Fault
drawings_of files drawings = each (drawing_at files) drawings
