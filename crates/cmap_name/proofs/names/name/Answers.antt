use Rattle.std.proofs.Common.{All, ap, subst, ◌∙◌, arith}
use Rattle.std.proofs.lemmas.Grind.{common_steps}
use Rattle.cmap_name.specs.Names.{names_in}
use Rattle.cmap_name.specs.Steps.{IsName}
use Rattle.cmap_name.proofs.NameReading.{name_back}
use Rattle.cmap_name.proofs.names.name.Goals as goal

pub returns-clause-written : goal.returns-clause-written
returns-clause-written c = grind (arith, common_steps)

pub returns-clause-means : goal.returns-clause-means
returns-clause-means c =
    ap names_in (returns-clause-written c)
    ∙ name_back c.args.records.now c.requires (subst (All IsName) c.as_slice-names.ensures c.in_ok-put_records.ensures.fit)
