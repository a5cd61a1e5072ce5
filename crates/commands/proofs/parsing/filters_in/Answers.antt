use Rattle.std.proofs.Common.{Some, None, map, ◌∙◌, ap, sym}
use Rattle.std.proofs.lemmas.Result.{IfOk-weaker}
use Rattle.clap.specs.Words.{found_of}
use Rattle.commands.specs.Words.{seen_word}
use Rattle.commands.proofs.ParsingLemmas.{filters_found}
use Rattle.commands.proofs.parsing.filters_in.Goals as goal

pub returns-in-Some : goal.returns-in-Some
returns-in-Some c =
    IfOk-weaker c.filter_words.result _ _ (λ filters are. are ∙ filters_found (found_of c.args.matches.now) (Some (map (λ word. word.now) c.in-Some.words.now)) c.in-Some.ensures) c.filter_words.ensures

pub returns-in-None : goal.returns-in-None
returns-in-None c = ap (map seen_word) c.new.ensures.items ∙ filters_found (found_of c.args.matches.now) None c.in-None.ensures
