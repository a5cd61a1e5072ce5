-- What making the product of a command answers.
use Rattle.std.specs.Prelude.{◌≡◌, ℕ, List, map, Result, Ok, Err, string_bytes}
use Rattle.outside.specs.Files.{Files}
use Rattle.basics.specs.declared.fault.Fault.{Fault}
use Rattle.region_support.specs.Coordinates.{coordinates_of}
use Rattle.source_files.specs.Stops.{StopsBy}
use Rattle.source_files.specs.declared.stop.ReadStop.{ReadStop}
use Rattle.source_files.specs.declared.stop.ReadStop.TheVariants as stop
use Rattle.vfb.specs.Calls.{Task}
use Rattle.vfb.specs.Lines.{counts_line}
use Rattle.vfb.specs.Masters.{Masters}
use Rattle.vfb.specs.Glyph.{IsDataOf, IsDrawnBy}
use Rattle.vfb.specs.Product.{File, Product, written}
use Rattle.vfb.specs.Work.{Work, IsWork, IsMadeOf, IsLeft}
use Rattle.vfb.specs.declared.masters.Masters as code
use Rattle.vfb.specs.declared.glyph.GlyphData.{GlyphData}
use Rattle.vfb.specs.declared.product.File as file
use Rattle.vfb.specs.declared.product.Product as product

-- masters as contracts see them
abbrev pub shown : code.Masters → Masters
shown masters = record { name = masters.name; locations = coordinates_of masters.locations; outlines = masters.outlines }

-- a product as contracts see it
abbrev pub shown_file : file.File → File
shown_file file = record { path = file.path.now; pieces = map (λ piece. piece.items) file.pieces.items }

abbrev pub shown_product : product.Product → Product
shown_product product = record { files = map shown_file product.files.items; text = string_bytes product.text }

-- the line that is said of the data of a glyph
abbrev pub counts_of : GlyphData → List ℕ
counts_of glyph = counts_line glyph.tuples glyph.explicit glyph.points

-- a call answered the data of the masters that are read, or stopped so
abbrev pub MakesData : Result Masters Fault → Result GlyphData ReadStop → Type 0
MakesData reading (Ok glyph) =
    (masters : Masters) × (reading ≡ Ok masters) × IsDataOf masters glyph.bytes.items (counts_of glyph) × IsDrawnBy masters glyph.bytes.items
MakesData reading (Err stop) = StopsBy stop reading

-- a fault is that of the task's files; a device that fails and want of memory may come before it
abbrev pub Stops : Files → Task → ReadStop → Type 0
Stops files task (stop.Refused fault) = IsWork files task (Err fault)
Stops files task (stop.ReadFault path) = Unit {0}
Stops files task stop.NoMemory = Unit {0}

-- a call answered a product of the work that the files give, which leaves what it must wherever it is written; or it
-- stopped by what they give
abbrev pub Makes : Files → Task → Result product.Product ReadStop → Type 0
Makes files task (Ok product) =
    (work : Work) × IsWork files task (Ok work) × IsMadeOf task.command work (shown_product product)
    × ((old : Files) → IsLeft task.command work (written (shown_product product).files old))
Makes files task (Err stop) = Stops files task stop
