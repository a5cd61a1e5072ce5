use Rattle.std.proofs.Common.{drop, map}
use Rattle.commands.specs.Words.{seen}
use Rattle.commands.proofs.WordLemmas.{AreLeft}
use Rattle.commands.proofs.located.drawings_named.Given as goal

abbrev pub invariant-loop-word : goal.invariant-loop-word
invariant-loop-word l = AreLeft (map (λ word. word.now) l.words) (map seen l.drawings.items) (map (λ word. word.now) (drop l.word-index l.words))
