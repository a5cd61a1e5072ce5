use Rattle.std.proofs.Common.{◌≡◌, map, take}
use Rattle.commands.specs.Command.{filter_of}
use Rattle.commands.specs.Words.{seen_word}
use Rattle.commands.proofs.filtered.filter_words.Given as goal

abbrev pub invariant-loop-word : goal.invariant-loop-word
invariant-loop-word l = map seen_word l.filters.items ≡ map filter_of (map (λ word. word.now) (take l.word-index l.words))
