-- What a command that was read asks for.
use Rattle.std.specs.Prelude.{map}
use Rattle.commands.specs.Command.{Command, Tuples, Build, FilterWord, Located, tuples, build}
use Rattle.commands.specs.declared.command.Command as code
use Rattle.commands.specs.declared.command.Command.TheVariants as command
use Rattle.commands.specs.declared.command.Build as read_build
use Rattle.commands.specs.declared.filtered.FilterWord as read_filter
use Rattle.commands.specs.declared.command.Tuples as read_tuples
use Rattle.commands.specs.declared.located.Located as read_located

abbrev pub seen : read_located.Located → Located
seen located = record { path = located.path.now; at = located.at.items }

abbrev pub asked_tuples : read_tuples.Tuples → Tuples
asked_tuples command = record { out = command.out.now; drawings = map seen command.drawings.items }

abbrev pub seen_word : read_filter.FilterWord → FilterWord
seen_word word = record { name = word.name.now; text = word.text.now }

abbrev pub asked_build : read_build.Build → Build
asked_build command = record { design = command.design.now; out = command.out.now; filters = map seen_word command.filters.items }

abbrev pub asked : code.Command → Command
asked (command.Tuples words) = tuples (asked_tuples words)
asked (command.Build words) = build (asked_build words)
