-- The values of the property lists of a UFO folder, or the first fault of the file.
use Rattle.std.specs.Prelude.{ℕ, pos, List, [], Option, Some, None, Result, Ok, Err}
use Rattle.outside.specs.Files.{Files}
use Rattle.basics.specs.Reading.{◌>>=◌, spot_of}
use Rattle.basics.specs.declared.kinds.Kind.TheVariants.{NotPlist}
use Rattle.basics.specs.declared.fault.Fault.{Fault}
use Rattle.basics.specs.declared.fault.Spot.{Spot}
use Rattle.markup_rules.specs.Tree.{Tree}
use Rattle.source_files.specs.Trees.{in_file, tree_at, tree_if_there}
use Rattle.plist.specs.Reading.{value_of}
use Rattle.plist.specs.Values.{PlainValue, dict, no_entries}

-- a value of the wrong kind, or a list of the wrong length
abbrev pub wrong_kind : {A : Type 0} → Result A Spot
wrong_kind = Err (spot_of NotPlist [] 0 (pos 0))

-- what a value holds, if it is of the kind that is wanted
abbrev pub of_kind : {A : Type 0} → Option A → Result A Spot
of_kind None = wrong_kind
of_kind (Some held) = Ok held

-- the value of a file that must be there
unfoldable pub value_at : Files → List ℕ → Result PlainValue Fault
value_at files path = tree_at files path >>= λ tree. in_file path (value_of tree)

-- the value of a file, if there is one
abbrev pub value_or_none : List ℕ → Option Tree → Result (Option PlainValue) Fault
value_or_none path None = Ok None
value_or_none path (Some tree) = in_file path (value_of tree) >>= λ value. Ok (Some value)

unfoldable pub value_if_there : Files → List ℕ → Result (Option PlainValue) Fault
value_if_there files path = tree_if_there files path >>= λ tree. value_or_none path tree

-- a file that is absent means an empty dictionary
abbrev pub or_empty : Option PlainValue → Result PlainValue Fault
or_empty None = Ok (dict no_entries)
or_empty (Some value) = Ok value

unfoldable pub value_or_empty : Files → List ℕ → Result PlainValue Fault
value_or_empty files path = value_if_there files path >>= λ found. or_empty found
