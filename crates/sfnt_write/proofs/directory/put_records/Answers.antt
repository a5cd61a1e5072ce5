use Rattle.std.proofs.Common.{◌+◌, ◌^◌, List, ℕ, ◌%◌, ap, drop, map, subst, arith, ◌∙◌}
use Rattle.std.proofs.lemmas.List.{take_all}
use Rattle.std.specs.Prelude.{All}
use Rattle.be_bytes.specs.WordSum.{word_sum}
use Rattle.sfnt_write.specs.Steps.{FitsTag, tables_sum}
use Rattle.sfnt_write.specs.Tables.{slice_of}
use Rattle.sfnt_write.specs.declared.table.Table.{Table}
use Rattle.sfnt_write.proofs.RecordSteps.{fit_more, left_is, room_more, size_left, sum_left, sum_more, written_more}
use Rattle.sfnt_write.proofs.directory.put_records.Goals as goal

pub put_record-requires-clause-small : goal.put_record-requires-clause-small
put_record-requires-clause-small c =
    let i = c.loop-table.table-index in
    let own = c.table-item.result in
    let tables = c.args.tables.now in
    let left = left_is tables i own (omega arith) c.table-item.is in
    omega (arith, size_left (drop i tables) (drop (i + 1) tables) own left)

pub loop-table-preserved : goal.loop-table-preserved
loop-table-preserved c =
    let i = c.loop-table.table-index in
    let own = c.table-item.result in
    let tables = c.args.tables.now in
    let left = left_is tables i own (omega arith) c.table-item.is in
    let size = size_left (drop i tables) (drop (i + 1) tables) own left in
    let before = c.loop-table.invariant in
    record {
      written = written_more c.loop-table.out.items c.put_record.new.out.items _ c.loop-table.offset c.end_of-offset.result (drop i tables) (drop (i + 1) tables) own left c.in_ok-put_record.ensures.written c.end_of-offset.ensures before.written;
      sum = sum_more c.loop-table.sum c.sum32-checksum.result (word_sum own.bytes.items) (tables_sum (map slice_of (drop (i + 1) tables))) (tables_sum (map slice_of (drop i tables))) (tables_sum (map slice_of tables)) (sum_left (drop i tables) (drop (i + 1) tables) own left) (c.sum32-checksum.ensures ∙ ap (λ (b : List ℕ). word_sum b % 2 ^ 32) c.deref.ensures.value) before.sum;
      small = omega (arith, size, before.small);
      room = room_more c.loop-table.offset c.end_of-offset.result (620 + 2 ^ 31) (drop i tables) (drop (i + 1) tables) own left c.end_of-offset.ensures before.room;
      fit = fit_more tables i own (omega arith) c.table-item.is before.fit c.in_ok-put_record.ensures.fits;
    }

pub returns-clause-fit : goal.returns-clause-fit
returns-clause-fit c =
    subst (λ (tables : List Table). All FitsTag (map slice_of tables)) (take_all c.loop-table.table-index c.args.tables.now c.loop-table-test.false) c.loop-table.invariant.fit
