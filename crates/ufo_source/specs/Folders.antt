-- What a UFO folder (UFO 3) is as a source of a font, or the first fault of its files, which are read in this order.
use Rattle.std.specs.Prelude.{ℕ, List, [], map, Option, Some, None, Result, Ok}
use Rattle.outside.specs.Files.{Files}
use Rattle.basics.specs.Reading.{◌>>=◌}
use Rattle.basics.specs.declared.fault.Fault.{Fault}
use Rattle.ufo_source.specs.declared.folder.Master.{Master}
use Rattle.ufo_source.specs.Metainfo.{metainfo_at}
use Rattle.ufo_source.specs.Information.{info_at}
use Rattle.ufo_source.specs.Order.{order_at}
use Rattle.ufo_source.specs.Layers.{layer_at}
use Rattle.ufo_source.specs.Contents.{all_contents_at, contents_at}
use Rattle.ufo_source.specs.Glyphs.{all_glyphs, wanted_glyphs}

-- the whole source: the order of its glyphs too, and all of them in the byte order of their names
unfoldable pub whole_at : Files → List ℕ → Option (List ℕ) → Result Master Fault
whole_at files folder name = do
  checked ← metainfo_at files folder
  info ← info_at files folder
  order ← order_at files folder
  layer ← layer_at files folder name
  entries ← all_contents_at files folder layer
  glyphs ← all_glyphs files folder layer entries
  Ok (record { info = info; order = order; names = map (λ entry. entry.0) entries; glyphs = glyphs })

-- a source of which these glyphs alone are wanted
unfoldable pub part_at : Files → List ℕ → Option (List ℕ) → List (List ℕ) → Result Master Fault
part_at files folder name names = do
  checked ← metainfo_at files folder
  info ← info_at files folder
  layer ← layer_at files folder name
  entries ← contents_at files folder layer
  glyphs ← wanted_glyphs files folder layer entries names
  Ok (record { info = info; order = []; names = names; glyphs = glyphs })

abbrev pub master_at : Files → List ℕ → Option (List ℕ) → Option (List (List ℕ)) → Result Master Fault
master_at files folder name None = whole_at files folder name
master_at files folder name (Some names) = part_at files folder name names
