-- Each turn adds a header and a packed part; in the end no tuple is left.
use Rattle.std.proofs.Common.{◌+◌, ◌++◌, ◌^◌, ◌<◌, ◌≤◌, length, get_or, ap, subst, sym, ◌∙◌, arith}
use Rattle.variation_rules.specs.Fields.{word}
use Rattle.variation_decoder.proofs.Glyph.{means_one}
use Rattle.gvar_table.specs.Tuples.{IsTupleOf}
use Rattle.gvar_table.proofs.GlyphLemmas.{all_written, data_spelled, means, next_header, next_tuple, packs}
use Rattle.gvar_table.proofs.SizeLemmas.{written_length}
use Rattle.gvar_table.proofs.glyph.glyph_data.Goals as goal

pub loop-tuple-preserved : goal.loop-tuple-preserved
loop-tuple-preserved c =
    let i = c.loop-tuple.tuple-index in
    let same = c.as_slice-tuples.ensures in
    let inside : i < length c.args.tuples.now = omega (arith, c.loop-tuple-test.true, ap length same) in
    let is = c.tuple-item.is ∙ ap (λ tuples. get_or tuples i c.tuple-item.result) same in
    let kept = c.loop-tuple.invariant in
    let is_tuple : IsTupleOf c.args.axes c.args.count c.tuple-item.result = subst (IsTupleOf c.args.axes c.args.count) (sym is) (c.requires.each i c.tuple-item.result inside) in
    let adds = c.in_ok-push_tuple.ensures in
    record {
      completes = next_tuple c.args.count i c.tuple-item.result c.args.tuples.now _ _ _ _ inside is adds kept.completes;
      short = next_header c.args.axes c.args.count i c.tuple-item.result _ _ _ _ c.requires.few_axes is_tuple adds kept.short;
    }

pub returns-clause-written : goal.returns-clause-written
returns-clause-written c =
    let same = c.as_slice-tuples.ensures in
    let some : 0 < length c.args.tuples.now = grind (arith, ap length same, c.if-is_empty.ensures) in
    let end : length c.args.tuples.now ≤ c.loop-tuple.tuple-index = omega (arith, c.loop-tuple-test.false, ap length same) in
    let near : 4 + length c.loop-tuple.headers.items < 2 ^ 16 = omega (arith, c.loop-tuple.invariant.short, c.loop-tuple.auto.tuple-index-end, c.requires.few, ap length same) in
    let prefix = c.in_ok-put_u16.ensures.ok ∙ ap (λ n. c.new-bytes.result.items ++ word n) (ap length same) in
    let words = c.in_ok-put_u16-2.ensures.ok ∙ ap (λ n. c.put_u16.new.out.items ++ word (4 + n)) (c.len.ensures ∙ c.loop-tuple.headers.ok.0) in
    let spelled = data_spelled (length c.args.tuples.now) (4 + length c.loop-tuple.headers.items) _ _ _ _ _ _ _ _ _ c.new-bytes.ensures.items prefix words c.deref.ensures.value c.in_ok-put_bytes.ensures.ok c.deref-2.ensures.value c.in_ok-put_bytes-2.ensures.ok in
    all_written c.args.count c.loop-tuple.tuple-index c.args.tuples.now _ _ _ some end near c.loop-tuple.invariant.completes spelled

pub returns-clause-means : goal.returns-clause-means
returns-clause-means c = means _ _ _ _ c.requires (returns-clause-written c)

pub returns-clause-packs : goal.returns-clause-packs
returns-clause-packs c = packs _ _ _ _ c.requires (returns-clause-written c)

pub returns-clause-only : goal.returns-clause-only
returns-clause-only c = λ others read. means_one _ _ _ _ _ _ read (returns-clause-means c)

pub returns-clause-short : goal.returns-clause-short
returns-clause-short c = written_length _ _ _ _ c.requires (returns-clause-written c)
