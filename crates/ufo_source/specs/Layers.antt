-- The layers of a UFO folder (UFO 3, "layercontents.plist"), and the folder of the layer that is read.
use Rattle.std.specs.Prelude.{ℕ, pos, Bool, List, [], ◌∷◌, codes, find, Option, Some, None, Result, Ok, Err}
use Rattle.std.specs.Str.{bytes_eq}
use Rattle.outside.specs.Files.{Files}
use Rattle.basics.specs.Reading.{◌>>=◌, each, spot_of}
use Rattle.basics.specs.declared.kinds.Kind.TheVariants.{NoLayer}
use Rattle.basics.specs.declared.fault.Fault.{Fault}
use Rattle.basics.specs.declared.fault.Spot.{Spot}
use Rattle.source_files.specs.Trees.{in_file}
use Rattle.plist.specs.Values.{PlainValue, as_array, as_text}
use Rattle.ufo_source.specs.declared.layers.Layer.{Layer}
use Rattle.ufo_source.specs.Paths.{file_name, path_in}
use Rattle.ufo_source.specs.PropertyLists.{of_kind, value_if_there, wrong_kind}

-- two texts: the layer's name and its folder's
abbrev pub two_texts : List PlainValue → Result Layer Spot
two_texts [] = wrong_kind
two_texts (name ∷ []) = wrong_kind
two_texts (name ∷ folder ∷ []) = of_kind (as_text name) >>= λ n. of_kind (as_text folder) >>= λ f. Ok (record { name = n; folder = f })
two_texts (name ∷ folder ∷ more ∷ others) = wrong_kind

unfoldable pub layer_of : PlainValue → Result Layer Spot
layer_of value = of_kind (as_array value) >>= λ texts. two_texts texts

abbrev pub layers_among : List PlainValue → Result (List Layer) Spot
layers_among values = each layer_of values

unfoldable pub layers_of : PlainValue → Result (List Layer) Spot
layers_of value = of_kind (as_array value) >>= λ values. layers_among values

abbrev pub layers_path : List ℕ → List ℕ
layers_path folder = path_in folder (codes "layercontents.plist")

-- a folder without the file has the one layer that UFO 3 asks of all
abbrev pub public_layer : Layer
public_layer = record { name = codes "public.default"; folder = codes "glyphs" }

abbrev pub layers_or_public : List ℕ → Option PlainValue → Result (List Layer) Fault
layers_or_public path None = Ok (public_layer ∷ [])
layers_or_public path (Some value) = in_file path (layers_of value)

unfoldable pub layers_at : Files → List ℕ → Result (List Layer) Fault
layers_at files folder = value_if_there files (layers_path folder) >>= λ value. layers_or_public (layers_path folder) value

-- ---- the layer that is read

-- the first of a name, or without one the first whose folder is `glyphs`
abbrev pub is_asked : Option (List ℕ) → Layer → Bool
is_asked None layer = bytes_eq layer.folder (codes "glyphs")
is_asked (Some name) layer = bytes_eq layer.name name

abbrev pub asked : Option (List ℕ) → List ℕ
asked None = codes "glyphs"
asked (Some name) = name

abbrev pub folder_or : List ℕ → Option Layer → Result (List ℕ) Spot
folder_or item None = Err (spot_of NoLayer item 0 (pos 0))
folder_or item (Some layer) = Ok layer.folder

abbrev pub folder_among : Option (List ℕ) → List Layer → Result (List ℕ) Spot
folder_among name layers = folder_or (asked name) (find (is_asked name) layers)

-- the name of the folder of the layer that is read
unfoldable pub layer_at : Files → List ℕ → Option (List ℕ) → Result (List ℕ) Fault
layer_at files folder name =
    layers_at files folder >>= λ layers.
    in_file folder (folder_among name layers) >>= λ layer.
    in_file (layers_path folder) (file_name layer) >>= λ _.
    Ok layer
