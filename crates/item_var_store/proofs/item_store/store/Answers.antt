use Rattle.std.proofs.Common.{arith}
use Rattle.std.proofs.lemmas.Grind.{common_steps}
use Rattle.item_var_store.proofs.StoreReading.{means_rows}
use Rattle.item_var_store.proofs.item_store.store.Goals as goal

pub returns-clause-written : goal.returns-clause-written
returns-clause-written c = grind (arith, common_steps)

pub returns-clause-means : goal.returns-clause-means
returns-clause-means c =
    means_rows c.args.axes c.args.regions.now c.args.rows.now c.put_item_data.new.out.items c.requires (returns-clause-written c)
