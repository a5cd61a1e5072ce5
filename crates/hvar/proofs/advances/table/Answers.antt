use Rattle.std.proofs.Common.{sym, subst, arith}
use Rattle.std.proofs.lemmas.Grind.{common_steps}
use Rattle.region_support.specs.Coordinates.{regions_in}
use Rattle.item_var_store.specs.Layout.{store_bytes}
use Rattle.item_var_store.specs.Rows.{MeansRows}
use Rattle.hvar.specs.Advances.{MeansAdvances}
use Rattle.hvar.proofs.AdvanceReading.{means_advances}
use Rattle.hvar.proofs.advances.table.Goals as goal

pub returns-clause-written : goal.returns-clause-written
returns-clause-written c = grind (arith, common_steps)

pub returns-clause-means : goal.returns-clause-means
returns-clause-means c =
    let own : MeansRows c.args.axes (regions_in c.args.regions.now) c.args.rows.now (store_bytes c.args.axes (regions_in c.args.regions.now) c.args.rows.now) =
    subst (MeansRows c.args.axes (regions_in c.args.regions.now) c.args.rows.now) c.in_ok-store.ensures.written c.in_ok-store.ensures.means in
    subst (MeansAdvances c.args.axes (regions_in c.args.regions.now) c.args.rows.now) (sym (returns-clause-written c))
    (means_advances c.args.axes (regions_in c.args.regions.now) c.args.rows.now (store_bytes c.args.axes (regions_in c.args.regions.now) c.args.rows.now) own)
