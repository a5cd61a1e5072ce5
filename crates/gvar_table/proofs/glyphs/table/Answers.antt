-- Each turn adds a glyph's data and an offset; in the end no glyph is left.
use Rattle.std.proofs.Common.{◌++◌, ◌^◌, ◌<◌, ◌≤◌, length, get_or, ap, subst, sym, ◌∙◌, arith, length-append}
use Rattle.gvar_table.specs.Table.{table_header}
use Rattle.gvar_table.specs.Tuples.{AreTuplesOf}
use Rattle.gvar_table.proofs.TableLemmas.{next_glyph, one_count_each, table_spelled, tuples_at, wanted_at_first, wanted_here, written_table}
use Rattle.gvar_table.proofs.TableReading.{means_at, packs_at, reads}
use Rattle.gvar_table.proofs.glyphs.table.Goals as goal

pub bounds-counts-i : goal.bounds-counts-i
bounds-counts-i c =
    omega (arith, c.loop-i-test.true, ap length c.as_slice-counts.ensures, ap length c.as_slice-glyphs.ensures, one_count_each c.args.axes c.args.counts.now c.args.glyphs.now c.requires.each)

pub push_glyph-requires-clause-are : goal.push_glyph-requires-clause-are
push_glyph-requires-clause-are c =
    let i = c.loop-i.i in
    let within : i < length c.args.glyphs.now = omega (arith, c.loop-i-test.true, ap length c.as_slice-glyphs.ensures) in
    let count_is = ap (λ counts. get_or counts i 0) c.as_slice-counts.ensures in
    let tuples_are = c.index-glyphs-i.is ∙ ap (λ glyphs. get_or glyphs i c.index-glyphs-i.result) c.as_slice-glyphs.ensures in
    let here = tuples_at c.args.axes c.args.counts.now c.args.glyphs.now i c.index-glyphs-i.result within c.requires.each in
    subst (λ count. AreTuplesOf c.args.axes count c.index-glyphs-i.result) (sym count_is) (subst (AreTuplesOf c.args.axes (get_or c.args.counts.now i 0)) (sym tuples_are) here)

pub push_glyph-requires-clause-room : goal.push_glyph-requires-clause-room
push_glyph-requires-clause-room c =
    let i = c.loop-i.i in
    let within : i < length c.args.glyphs.now = omega (arith, c.loop-i-test.true, ap length c.as_slice-glyphs.ensures) in
    let inside : i < length c.args.counts.now = omega (arith, within, one_count_each c.args.axes c.args.counts.now c.args.glyphs.now c.requires.each) in
    let count_is = ap (λ counts. get_or counts i 0) c.as_slice-counts.ensures in
    let tuples_are = c.index-glyphs-i.is ∙ ap (λ glyphs. get_or glyphs i c.index-glyphs-i.result) c.as_slice-glyphs.ensures in
    omega (arith, c.loop-i.invariant.room, wanted_at_first c.args.axes c.args.counts.now c.args.glyphs.now c.requires, wanted_here i _ c.args.counts.now c.index-glyphs-i.result c.args.glyphs.now inside within count_is tuples_are)

pub loop-i-preserved : goal.loop-i-preserved
loop-i-preserved c =
    let i = c.loop-i.i in
    let kept = c.loop-i.invariant in
    let adds = c.in_ok-push_glyph.ensures in
    let within : i < length c.args.glyphs.now = omega (arith, c.loop-i-test.true, ap length c.as_slice-glyphs.ensures) in
    let inside : i < length c.args.counts.now = omega (arith, within, one_count_each c.args.axes c.args.counts.now c.args.glyphs.now c.requires.each) in
    let count_is = ap (λ counts. get_or counts i 0) c.as_slice-counts.ensures in
    let tuples_are = c.index-glyphs-i.is ∙ ap (λ glyphs. get_or glyphs i c.index-glyphs-i.result) c.as_slice-glyphs.ensures in
    record {
      completes = next_glyph i _ c.args.counts.now c.index-glyphs-i.result c.args.glyphs.now _ _ _ _ inside within count_is tuples_are adds kept.completes;
      room = omega (arith, kept.room, wanted_here i _ c.args.counts.now c.index-glyphs-i.result c.args.glyphs.now inside within count_is tuples_are, adds.short, ap length adds.body_after, length-append c.loop-i.body.items adds.own);
    }

pub returns-clause-written : goal.returns-clause-written
returns-clause-written c =
    let no_glyphs : length c.args.glyphs.now ≤ c.loop-i.i = omega (arith, c.loop-i-test.false, ap length c.as_slice-glyphs.ensures) in
    let no_counts : length c.args.counts.now ≤ c.loop-i.i = omega (arith, no_glyphs, one_count_each c.args.axes c.args.counts.now c.args.glyphs.now c.requires.each) in
    let small : length c.loop-i.body.items < 2 ^ 32 = omega (arith, c.loop-i.invariant.room, wanted_at_first c.args.axes c.args.counts.now c.args.glyphs.now c.requires) in
    let prefix = c.in_ok-push_header.ensures ∙ ap (λ glyphs. c.new-bytes.result.items ++ table_header c.args.axes (length glyphs)) c.as_slice-glyphs.ensures in
    let spelled = table_spelled (table_header c.args.axes (length c.args.glyphs.now)) _ _ _ _ _ _ _ _ c.new-bytes.ensures.items prefix c.deref.ensures.value c.in_ok-put_bytes.ensures.ok c.deref-2.ensures.value c.in_ok-put_bytes-2.ensures.ok in
    written_table c.args.axes c.loop-i.i c.args.counts.now c.args.glyphs.now _ _ _ no_counts no_glyphs small c.loop-i.invariant.completes spelled

pub returns-clause-reads : goal.returns-clause-reads
returns-clause-reads c = reads _ _ _ _ c.requires (returns-clause-written c)

pub returns-clause-means : goal.returns-clause-means
returns-clause-means c = means_at _ _ _ _ c.requires (returns-clause-written c)

pub returns-clause-packs : goal.returns-clause-packs
returns-clause-packs c = packs_at _ _ _ _ c.requires (returns-clause-written c)
