use Rattle.std.proofs.Common.{◌≡◌, ◌∙◌, arith, rules, length, subst, sym, ap}
use Rattle.std.specs.Vec.Iter.{into_iter_items}
use Rattle.source_files.specs.Stops.{StopsBy}
use Rattle.font_project.proofs.FilteredOutlines.{at_old, none_made, one_made, stops_here}
use Rattle.font_project.proofs.filtering.filtered_outlines.Goals as goal

pub loop-outline-init : goal.loop-outline-init
loop-outline-init g c =
    let left : into_iter_items c.into_iter-outline-iterator.result ≡ c.args.outlines = search rules in
    none_made _ c.args.filters.now c.args.names.now c.args.folder.now c.args.outlines (into_iter_items c.into_iter-outline-iterator.result) c.new-made.result left c.new-made.ensures c.requires.one_each c.requires.within

pub returns-in_err-filtered_outline-clause-answers : goal.returns-in_err-filtered_outline-clause-answers
returns-in_err-filtered_outline-clause-answers g c =
    let stops = stops_here _ c.args.filters.now c.args.names.now c.args.folder.now c.args.outlines c.loop-outline.filters c.loop-outline.filters _ (into_iter_items c.next.new.self) c.loop-outline.made c.loop-outline.glyph
    c.in-Some.outline c.loop-outline.invariant c.in-Some.ensures.steps.0 c.in_err-filtered_outline.field-0.0
    (subst (StopsBy c.in_err-filtered_outline.field-0.0) (at_old _ c.args.filters.now c.args.names.now c.args.folder.now c.args.outlines c.loop-outline.filters c.loop-outline.filters _ (into_iter_items c.next.new.self) c.loop-outline.made c.loop-outline.glyph
    c.in-Some.outline c.loop-outline.invariant c.in-Some.ensures.steps.0 c.index-names-glyph.result c.index-names-glyph.is (omega (arith, c.loop-outline.invariant.numbered, ap length c.in-Some.ensures.steps.0))) c.in_err-filtered_outline.ensures.answers) in
    search rules

pub loop-outline-preserved : goal.loop-outline-preserved
loop-outline-preserved g c =
    one_made _ c.args.filters.now c.args.names.now c.args.folder.now c.args.outlines c.loop-outline.filters c.filtered_outline.new.filters _ (into_iter_items c.next.new.self) c.loop-outline.made c.loop-outline.glyph
    c.in-Some.outline c.loop-outline.invariant c.in-Some.ensures.steps.0 c.push.new.self c.in_ok-filtered_outline.field-0
    (sym (at_old _ c.args.filters.now c.args.names.now c.args.folder.now c.args.outlines c.loop-outline.filters c.loop-outline.filters _ (into_iter_items c.next.new.self) c.loop-outline.made c.loop-outline.glyph
    c.in-Some.outline c.loop-outline.invariant c.in-Some.ensures.steps.0 c.index-names-glyph.result c.index-names-glyph.is (omega (arith, c.loop-outline.invariant.numbered, ap length c.in-Some.ensures.steps.0))) ∙ c.in_ok-filtered_outline.ensures.answers)
    c.in_ok-filtered_outline.ensures.shape c.in_ok-push.ensures.ok c.in_ok-filtered_outline.ensures.same c.in_ok-filtered_outline.ensures.touched
