use Rattle.std.proofs.Common.{◌≡◌, ◌<◌, length, take, ap, arith}
use Rattle.std.proofs.lemmas.List.{length_push, length-take}
use Rattle.delta_solve.specs.Tables.{IsRow}
use Rattle.delta_solve.proofs.TableLemmas.{rows_step, rows_pushed}
use Rattle.delta_solve.proofs.scalars.table.Goals as goal

-- one row more
pub loop-master-preserved : goal.loop-master-preserved
loop-master-preserved c =
    let k = c.loop-master.master in
    let rows = c.loop-master.rows.items in
    let supports = c.args.supports.now in
    let sorted = c.args.sorted.now in
    let row = c.in_ok-row.row in
    let also : k < length sorted = omega (arith, ap length c.as_slice-sorted.ensures) in
    let inside : k < length supports = omega (arith, c.requires.one_each) in
    let taken : length (take k supports) ≡ k = omega (arith, length-take k supports) in
    let value = rw c.as_slice-supports.ensures at c.in_ok-row.ensures.value in
    let are : IsRow k row = rw taken at (rw c.as_slice-supports.ensures at c.in_ok-row.ensures.are) in
    rw c.in_ok-push.ensures.items (record {
      count = omega (arith, length_push rows row);
      are = rows_pushed rows row k c.loop-master.invariant.count c.loop-master.invariant.are are;
      rest = rows_step rows supports sorted k c.index-sorted-master.result row _ inside also (rw c.as_slice-sorted.ensures at c.index-sorted-master.is) value c.loop-master.invariant.rest;
    })
