-- The commands, each by its case: what its files give or their first fault, what it makes of that, and what this draws.
use Rattle.std.specs.Prelude.{◌≡◌, ℕ, List, [], ◌∷◌, Result, Ok, Err}
use Rattle.outside.specs.Files.{Files, content}
use Rattle.basics.specs.Reading.{◌>>=◌}
use Rattle.basics.specs.declared.fault.Fault.{Fault}
use Rattle.commands.specs.Command.{Command, tuples, build}
use Rattle.font_model.specs.Fonts.{Font}
use Rattle.font_project.specs.Fonts.{IsFontAt}
use Rattle.vfb.specs.Calls.{Image, Task}
use Rattle.vfb.specs.BuiltFont.{DrawsGlyphs, IsFontFileOf, MakesFont}
use Rattle.vfb.specs.Glyph.{IsDataOf, IsDrawnBy}
use Rattle.vfb.specs.Masters.{Masters, masters_of}
use Rattle.vfb.specs.Product.{Product}
use Rattle.vfb.specs.Stops.{StopsAt}

-- what a command whose files have no fault works on
pub data Work : Type 0 where
  glyph : Masters → Work
  font : Font → Work

-- what a document and its sources give under the images: a font, or their first fault
abbrev pub IsFontWork : Files → List ℕ → List Image → Result Work Fault → Type 0
IsFontWork files design images (Ok (font found)) = IsFontAt files design images (Ok found)
IsFontWork files design images (Ok (glyph masters)) = ⊥
IsFontWork files design images (Err fault) = IsFontAt files design images (Err fault)

-- what the files of a command give: its work, or their first fault
abbrev pub IsWorkOf : Files → List Image → Command → Result Work Fault → Type 0
IsWorkOf files images (tuples command) reading = reading ≡ (masters_of files command >>= λ masters. Ok (glyph masters))
IsWorkOf files images (build command) reading = IsFontWork files command.design images reading

abbrev pub IsWork : Files → Task → Result Work Fault → Type 0
IsWork files task reading = IsWorkOf files task.images task.command reading

-- The path of a file that could not be read, where told says that the sources tell their files. Of `build` it can be that
-- of any file.
abbrev pub IsReadBy : Type 0 → Files → Command → List ℕ → Type 0
IsReadBy told files (tuples command) path = StopsAt told files command.drawings path
IsReadBy told files (build command) path = Unit {0}

-- what a command makes of its work
abbrev pub IsMadeOf : Command → Work → Product → Type 0
IsMadeOf (tuples command) (glyph masters) product =
    (bytes : List ℕ) × (product.files ≡ record { path = command.out; pieces = bytes ∷ [] } ∷ []) × IsDataOf masters bytes product.text
IsMadeOf (build command) (font found) product = MakesFont found command.out product
IsMadeOf _ _ product = ⊥

-- what the files of a task make: the product of its work
abbrev pub IsProductOf : Files → Task → Product → Type 0
IsProductOf files task product = (work : Work) × IsWork files task (Ok work) × IsMadeOf task.command work product

-- The headline: what the files have that a command leaves. Each command has a record of its own.
abbrev pub IsLeft : Command → Work → Files → Type 0
IsLeft (tuples command) (glyph masters) files = IsDrawnBy masters (content files command.out)
IsLeft (build command) (font found) files = IsFontFileOf found (content files command.out)
IsLeft _ _ files = ⊥

-- what they draw
abbrev pub IsDrawn : Command → Work → Files → Type 0
IsDrawn (tuples command) (glyph masters) files = IsDrawnBy masters (content files command.out)
IsDrawn (build command) (font found) files = DrawsGlyphs found (content files command.out)
IsDrawn _ _ files = ⊥
