-- What a command asks for, and what the words of drawings and filters mean. 64 is the sign @, 44 the comma, and 58 the
-- colon.
use Rattle.std.specs.Prelude.{ℕ, ℤ, pos, negsuc, int_le, Bool, false, ◌&&◌, ◌+◌, List, [], ◌∷◌, length, take, drop, position, ◌==◌, nat_eq, nat_le, Option, Some, None, Result, Ok, Err, if◌then◌else◌}
use Rattle.std.specs.List.{list_all, slice_split}
use Rattle.std.specs.Path.{rsplit_once}
use Rattle.fixpoint.specs.DecimalText.{whole_of}
use Rattle.fixpoint.specs.declared.decimal.NumberFault.{NumberFault}
use Rattle.basics.specs.Optional.{◌>>=◌, each}

-- a drawing's file, and where in the design space it stands: one normalised coordinate an axis
pub record Located : Type 0 where
  pub path : List ℕ
  pub at : List ℤ

-- the file to write, and the drawings whose glyph it is about
pub record Tuples : Type 0 where
  pub out : List ℕ
  pub drawings : List Located

-- a filter that is asked for, and the text that configures it
pub record FilterWord : Type 0 where
  pub name : List ℕ
  pub text : List ℕ

-- the designspace document, the file to write, and the filters in the order of their words
pub record Build : Type 0 where
  pub design : List ℕ
  pub out : List ℕ
  pub filters : List FilterWord

-- what words ask for: one case a command
pub data Command : Type 0 where
  tuples : Tuples → Command
  build : Build → Command

-- a filter's name, and after the word's first colon the text, which is empty where there is no colon
abbrev pub filter_by : List ℕ → Option ℕ → FilterWord
filter_by word None = record { name = word; text = [] }
filter_by word (Some colon) = record { name = take colon word; text = drop (colon + 1) word }

abbrev pub filter_of : List ℕ → FilterWord
filter_of word = filter_by word (position (λ b. b == 58) word)

-- a number from -16384 to 16384
abbrev pub coordinate_by : Result ℤ NumberFault → Option ℤ
coordinate_by (Ok raw) = if int_le (negsuc 16383) raw && int_le raw (pos 16384) then Some raw else None
coordinate_by (Err _) = None

-- a coordinate from -1 to 1 in F2DOT14, as a whole number
unfoldable pub coordinate_of : List ℕ → Option ℤ
coordinate_of text = coordinate_by (whole_of text)

-- coordinates of at most eight axes, with commas between them
unfoldable pub location_of : List ℕ → Option (List ℤ)
location_of text = each coordinate_of (slice_split (λ b. b == 44) text) >>= λ at. if nat_le (length at) 8 then Some at else None

-- a path, after its last sign @ the location
unfoldable pub located_of : List ℕ → Option Located
located_of word = rsplit_once 64 word >>= λ parts. location_of parts.1 >>= λ at. Some (record { path = parts.0; at = at })

-- all drawings stand on the axes of the first, which there is
abbrev pub are_on_axes : List Located → Bool
are_on_axes [] = false
are_on_axes (first ∷ more) = list_all (λ located. nat_eq (length located.at) (length first.at)) more

abbrev pub drawings_named : List (List ℕ) → Option (List Located)
drawings_named words = each located_of words >>= λ drawings. if nat_le (length drawings) 128 && are_on_axes drawings then Some drawings else None
