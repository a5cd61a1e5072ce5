-- How the words of a call are read: the commands that `clap` reads them by, and which command they are.
--
-- `fault_of` is the meaning of words for `clap`: by which kinds of error it refuses them, where it does. By it, before a
-- word `--`, a word that begins with `-` and isn't `-` alone is an option, and every option other than `--filter` of
-- `build` is refused, `--help` and `--version` too; that one takes the next word, which is no option, or what follows its
-- sign `=`; after `--` every word is a positional; and there is no subcommand `help`.
use Rattle.std.specs.Prelude.{Bool, false, ◌||◌, List, [], ◌∷◌, map, codes, bytes_eq, true, Option, Some, None, if◌then◌else◌}
use Rattle.basics.specs.Optional.{◌>>=◌}
use Rattle.clap.specs.Faults.{fault_of}
use Rattle.clap.specs.Kinds.{Kinds}
use Rattle.clap.specs.Simple.{App, new_app, new_rule, on_top, subcommand_of, with_rule, with_subcommand}
use Rattle.clap.specs.Walk.{Row, Rule, Text, all_of, first_of}
use Rattle.clap.specs.declared.builder.ArgAction.TheVariants.{Append}
use Rattle.commands.specs.Command.{Command, FilterWord, tuples, build, drawings_named, filter_of}

-- a positional that has to be there
abbrev pub needed : Text → Rule
needed id = record (new_rule id) { required = true }

-- an option with a value, which may stand there more than once
abbrev pub listed : Text → Rule
listed name = record (new_rule name) { long = Some name; action = Some Append }

-- a subcommand without help
abbrev pub silent : Text → App
silent name = on_top (λ shape. record shape { disable_help_flag = true }) (new_app name)

-- `tuples OUT DRAWING...`
abbrev pub tuples_app : App
tuples_app = with_rule (with_rule (silent (codes "tuples")) (needed (codes "out"))) (record (needed (codes "drawings")) { action = Some Append })

-- `build DESIGNSPACE OUT [--filter F]...`
abbrev pub build_files_app : App
build_files_app = with_rule (with_rule (silent (codes "build")) (needed (codes "design"))) (needed (codes "out"))

abbrev pub build_app : App
build_app = with_rule build_files_app (listed (codes "filter"))

-- a program that has one of these subcommands, and nothing else
abbrev pub bare_app : App
bare_app = on_top (λ shape. record shape { disable_help_flag = true; disable_help_subcommand = true; subcommand_required = true }) (new_app (codes "vfb"))

abbrev pub vfb_app : App
vfb_app = with_subcommand (with_subcommand bare_app tuples_app.top) build_app.top

-- the kinds of error by which `clap` refuses words, none where it takes them
unfoldable pub refusals : List Text → Kinds
refusals words = fault_of vfb_app words

-- the subcommand that words name, with the values of its positionals
unfoldable pub entered : List Text → Option (Text × List Row)
entered words = subcommand_of vfb_app words

-- ---- the commands

-- these positionals, where they are there
abbrev pub tuples_by : Option Text → Option (List Text) → Option Command
tuples_by out words = do
  out ← out
  words ← words
  drawings ← drawings_named words
  Some (tuples (record { out = out; drawings = drawings }))

abbrev pub tuples_in : List Row → Option Command
tuples_in rows = tuples_by (first_of (codes "out") rows) (all_of (codes "drawings") rows)

-- the filters of the words of an option, where it is there
abbrev pub filters_of : Option (List Text) → List FilterWord
filters_of None = []
filters_of (Some words) = map filter_of words

abbrev pub build_by : Option Text → Option Text → List FilterWord → Option Command
build_by design out filters = do
  design ← design
  out ← out
  Some (build (record { design = design; out = out; filters = filters }))

abbrev pub filters_in : List Row → List FilterWord
filters_in rows = filters_of (all_of (codes "filter") rows)

abbrev pub build_in : List Row → Option Command
build_in rows = build_by (first_of (codes "design") rows) (first_of (codes "out") rows) (filters_in rows)

abbrev pub command_in : Option (Text × List Row) → Option Command
command_in None = None
command_in (Some (name, rows)) = if bytes_eq name (codes "tuples") then tuples_in rows else build_in rows

abbrev pub command_if : Kinds → Option (Text × List Row) → Option Command
command_if [] found = command_in found
command_if (kind ∷ kinds) found = None

-- before a word `--`, the option with nothing after its sign `=`, which `clap` would take for an empty value
abbrev pub lacks_value : List Text → Bool
lacks_value [] = false
lacks_value (word ∷ words) = if bytes_eq word (codes "--") then false else bytes_eq word (codes "--filter=") || lacks_value words

-- among the words after the program's name
abbrev pub lacks_option_value : List Text → Bool
lacks_option_value [] = false
lacks_option_value (program ∷ words) = lacks_value words

-- The words are the program's name, the name of a command, and its positionals and options: of `tuples` the file to write
-- and 1 to 128 drawings at locations of as many axes; of `build` the designspace document, the file to write and any
-- filters. All other words are none of a command.
unfoldable pub command_of : List Text → Option Command
command_of words = if lacks_option_value words then None else command_if (refusals words) (entered words)
