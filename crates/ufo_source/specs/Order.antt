-- The glyph names that a UFO folder lists in order (UFO 3, "lib.plist", "public.glyphOrder"). The file may be absent.
use Rattle.std.specs.Prelude.{ℕ, List, [], ◌∷◌, ◌++◌, codes, fold, Option, Some, None, Result, Ok, if◌then◌else◌}
use Rattle.std.specs.List.{list_any}
use Rattle.std.specs.Str.{bytes_eq}
use Rattle.outside.specs.Files.{Files}
use Rattle.basics.specs.Reading.{◌>>=◌}
use Rattle.basics.specs.declared.fault.Fault.{Fault}
use Rattle.basics.specs.declared.fault.Spot.{Spot}
use Rattle.source_files.specs.Trees.{in_file}
use Rattle.plist.specs.Values.{PlainValue, as_array, as_dict, as_text, get}
use Rattle.ufo_source.specs.Paths.{path_in}
use Rattle.ufo_source.specs.PropertyLists.{of_kind, value_or_empty}

-- a text after others, where it isn't among them; other values are passed over
abbrev pub with_text : List (List ℕ) → Option (List ℕ) → List (List ℕ)
with_text names None = names
with_text names (Some text) = if list_any (bytes_eq text) names then names else names ++ text ∷ []

abbrev pub with_value : List (List ℕ) → PlainValue → List (List ℕ)
with_value names value = with_text names (as_text value)

-- the texts among values, of equal ones the first alone
abbrev pub names_among : List PlainValue → List (List ℕ)
names_among values = fold with_value [] values

-- those of an array; a value that is no array is passed over
abbrev pub texts_of : Option (List PlainValue) → List (List ℕ)
texts_of None = []
texts_of (Some values) = names_among values

abbrev pub order_by : Option PlainValue → List (List ℕ)
order_by None = []
order_by (Some value) = texts_of (as_array value)

unfoldable pub order_of : PlainValue → Result (List (List ℕ)) Spot
order_of value = of_kind (as_dict value) >>= λ _. Ok (order_by (get (codes "public.glyphOrder") value))

abbrev pub lib_path : List ℕ → List ℕ
lib_path folder = path_in folder (codes "lib.plist")

unfoldable pub order_at : Files → List ℕ → Result (List (List ℕ)) Fault
order_at files folder = value_or_empty files (lib_path folder) >>= λ value. in_file (lib_path folder) (order_of value)
