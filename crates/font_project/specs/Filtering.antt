-- The images of the sources' outlines under filters one after another, or the first that isn't within limits.
use Rattle.std.specs.Prelude.{ℕ, zero, suc, ℤ, Bool, List, [], Option, Result, Ok, Err, slice_index_or, insert, remove}
use Rattle.basics.specs.Reading.{◌>>=◌, each, each_numbered, spot_of}
use Rattle.basics.specs.declared.kinds.Kind.TheVariants.{FilterRange}
use Rattle.basics.specs.declared.fault.Fault.{Fault}
use Rattle.filters.specs.Applied.{counted}
use Rattle.filters.specs.InOrder.{through}
use Rattle.glif.specs.declared.shape.Outline.{Outline}
use Rattle.font_project.specs.Columns.{no_outlines}
use Rattle.font_project.specs.declared.outlined.OutlinedSource.{OutlinedSource}

-- what a filter makes of each outline
abbrev pub Image : Type 0
Image = Outline → Outline

-- an image out of limits: the filter's number and the number that is out of them
abbrev pub range_fault : List ℕ → List ℕ → ℕ × ℤ → Fault
range_fault folder name refusal = record { path = folder; spot = spot_of FilterRange name refusal.0 refusal.1 }

abbrev pub image_or : List ℕ → List ℕ → Result Outline (ℕ × ℤ) → Result Outline Fault
image_or folder name (Ok outline) = Ok outline
image_or folder name (Err refusal) = Err (range_fault folder name refusal)

-- that of an outline of the glyph of this name, of the source in this folder
abbrev pub image_of : List Image → List ℕ → List ℕ → Outline → Result Outline Fault
image_of images folder name outline = image_or folder name (through 0 images outline)

-- those of the outlines of a source, glyph by glyph
abbrev pub images_of : List Image → List ℕ → List (List ℕ) → List Outline → Result (List Outline) Fault
images_of images folder names outlines = each_numbered (λ glyph outline. image_of images folder (slice_index_or names glyph []) outline) 0 outlines

unfoldable pub filtered_source : List Image → List (List ℕ) → OutlinedSource → Result OutlinedSource Fault
filtered_source images names source = images_of images source.folder names source.outlines >>= λ outlines. Ok (record { folder = source.folder; outlines = outlines })

-- those of all sources, of which the default's has this number: its own come first, and then those of the others in the
-- document's order
unfoldable pub filtered : List Image → List (List ℕ) → ℕ → List OutlinedSource → Result (List OutlinedSource) Fault
filtered images names default sources =
    filtered_source images names (slice_index_or sources default no_outlines) >>= λ own.
    each (filtered_source images names) (remove sources default) >>= λ others.
    Ok (insert others default own)

-- ---- the filters

-- what contracts see of a filter but for its count
pub record Seen : Type 0 where
  pub called : List ℕ
  pub setting : List ℤ
  pub setting_of : List ℕ → Option (List ℤ)
  pub image : List ℤ → Outline → Outline
  pub kinds : List ℤ → List (List Bool) → List (List Bool)

abbrev pub seen : {A : Type 0} → (A → List ℕ) → (A → List ℤ) → (A → List ℕ → Option (List ℤ)) → (A → List ℤ → Outline → Outline)
    → (A → List ℤ → List (List Bool) → List (List Bool)) → A → Seen
seen called setting setting_of image kinds filter = record {
  called = called filter;
  setting = setting filter;
  setting_of = setting_of filter;
  image = image filter;
  kinds = kinds filter;
}

-- its image, and the kinds of the points of that, under its setting
abbrev pub image_under : Seen → Image
image_under filter = filter.image filter.setting

abbrev pub kinds_under : Seen → List (List Bool) → List (List Bool)
kinds_under filter = filter.kinds filter.setting

-- a count with so many calls more
abbrev pub raised : ℕ → ℕ → ℕ
raised zero touches = touches
raised (suc calls) touches = counted (raised calls touches)
