use Rattle.std.proofs.Common.{◌∙◌, rules, subst, sym}
use Rattle.std.specs.Vec.Iter.{into_iter_items}
use Rattle.source_files.specs.Stops.{StopsBy}
use Rattle.font_project.proofs.FilteredSources.{at_old, one_made, stops_here}
use Rattle.font_project.proofs.filtering.filtered_each.Goals as goal

pub returns-in_err-filtered_source-clause-answers : goal.returns-in_err-filtered_source-clause-answers
returns-in_err-filtered_source-clause-answers g c =
    let stops = stops_here _ c.args.filters.now c.args.names.now c.args.sources.items c.loop-source.filters c.loop-source.filters _ (into_iter_items c.next.new.self) c.loop-source.made.items c.in-Some.source
    c.loop-source.invariant c.in-Some.ensures.steps.0 c.in_err-filtered_source.field-0.0
    (subst (StopsBy c.in_err-filtered_source.field-0.0) (at_old _ c.args.filters.now c.args.names.now c.args.sources.items c.loop-source.filters c.loop-source.filters _ (into_iter_items c.next.new.self) c.loop-source.made.items c.in-Some.source
    c.loop-source.invariant c.in-Some.ensures.steps.0) c.in_err-filtered_source.ensures.answers) in
    search rules

pub loop-source-preserved : goal.loop-source-preserved
loop-source-preserved g c =
    one_made _ c.args.filters.now c.args.names.now c.args.sources.items c.loop-source.filters c.filtered_source.new.filters _ (into_iter_items c.next.new.self) c.loop-source.made.items c.in-Some.source
    c.loop-source.invariant c.in-Some.ensures.steps.0 c.push.new.self.items c.in_ok-filtered_source.field-0
    (sym (at_old _ c.args.filters.now c.args.names.now c.args.sources.items c.loop-source.filters c.loop-source.filters _ (into_iter_items c.next.new.self) c.loop-source.made.items c.in-Some.source
    c.loop-source.invariant c.in-Some.ensures.steps.0) ∙ c.in_ok-filtered_source.ensures.answers)
    c.in_ok-filtered_source.ensures.shape c.in_ok-push.ensures.items c.in_ok-filtered_source.ensures.same c.in_ok-filtered_source.ensures.touched
