use Rattle.std.proofs.Common.{◌≡◌, List, Ok, rules, sym, subst, length, map}
use Rattle.source_files.specs.Stops.{StopsBy}
use Rattle.font_project.specs.Filtering.{Image}
use Rattle.font_project.specs.Fonts.{IsFontOf, IsFontOfDrawn, default_number, font_of}
use Rattle.font_project.specs.Limits.{AreDrawnWithin}
use Rattle.font_project.specs.Making.{MakesProject, StopsWith}
use Rattle.font_project.specs.Presence.{are_there}
use Rattle.font_project.specs.Units.{have_units}
use Rattle.font_project.specs.declared.drawn.DrawnSource.{DrawnSource}
use Rattle.font_project.proofs.DrawnSources.{are_drawn}
use Rattle.font_project.proofs.FontSteps.{made_of_all, there_stop, units_stop}
use Rattle.font_project.proofs.JoinedSteps.{seen_so, stop_seen}
use Rattle.font_project.proofs.steps.project_of.Goals as goal

pub returns-in_err-have_units-clause-makes : goal.returns-in_err-have_units-clause-makes
returns-in_err-have_units-clause-makes g c =
    let images : List Image = map (λ filter. (goal.GlyphFilter-dyn g (filter.vtable, filter.value)).image filter.value ((goal.GlyphFilter-dyn g (filter.vtable, filter.value)).setting filter.value)) c.args.filters.now in
    let same : mir.Val.to_z mir.Syntax.w32 (mir.Val.of_z mir.Syntax.w32 c.args.found.info.units) ≡ c.args.found.info.units = search rules in
    let here : StopsBy c.in_err-have_units.field-0.0 (have_units c.args.found.info.units c.args.found.sources) =
    stop_seen have_units (mir.Val.to_z mir.Syntax.w32 (mir.Val.of_z mir.Syntax.w32 c.args.found.info.units)) c.args.found.info.units c.as_slice.result.now c.args.found.sources c.in_err-have_units.field-0.0 same c.as_slice.ensures c.in_err-have_units.ensures.answers in
    let stops : StopsWith (IsFontOf c.args.path.now images (Ok c.args.found)) c.in_err-have_units.field-0.0 = units_stop c.args.path.now images c.args.found c.in_err-have_units.field-0.0 here in
    search rules

pub returns-in_err-are_there-clause-makes : goal.returns-in_err-are_there-clause-makes
returns-in_err-are_there-clause-makes g c =
    let images : List Image = map (λ filter. (goal.GlyphFilter-dyn g (filter.vtable, filter.value)).image filter.value ((goal.GlyphFilter-dyn g (filter.vtable, filter.value)).setting filter.value)) c.args.filters.now in
    let same : mir.Val.to_z mir.Syntax.w32 (mir.Val.of_z mir.Syntax.w32 c.args.found.info.units) ≡ c.args.found.info.units = search rules in
    let units : have_units c.args.found.info.units c.args.found.sources ≡ Ok tt =
    seen_so have_units (mir.Val.to_z mir.Syntax.w32 (mir.Val.of_z mir.Syntax.w32 c.args.found.info.units)) c.args.found.info.units c.as_slice.result.now c.args.found.sources (Ok tt) same c.as_slice.ensures c.in_ok-have_units.ensures.answers in
    let here : StopsBy c.in_err-are_there.field-0.0 (are_there c.args.found.sources c.args.found.names) =
    stop_seen are_there c.as_slice-3.result.now c.args.found.sources c.as_slice-2.result.now c.args.found.names c.in_err-are_there.field-0.0 c.as_slice-3.ensures c.as_slice-2.ensures c.in_err-are_there.ensures.answers in
    let stops : StopsWith (IsFontOf c.args.path.now images (Ok c.args.found)) c.in_err-are_there.field-0.0 = there_stop c.args.path.now images c.args.found c.in_err-are_there.field-0.0 units here in
    search rules

pub made-requires-clause-drawn : goal.made-requires-clause-drawn
made-requires-clause-drawn g c =
    let there : are_there c.args.found.sources c.args.found.names ≡ Ok tt =
    seen_so are_there c.as_slice-3.result.now c.args.found.sources c.as_slice-2.result.now c.args.found.names (Ok tt) c.as_slice-3.ensures c.as_slice-2.ensures c.in_ok-are_there.ensures.answers in
    subst (AreDrawnWithin (length c.args.found.names) (length c.args.found.design.sources) (default_number c.args.found)) (sym c.in_ok-drawn.ensures) (are_drawn c.args.found c.requires there)

pub returns-clause-makes : goal.returns-clause-makes
unfolding font_of
returns-clause-makes g c =
    let images : List Image = map (λ filter. (goal.GlyphFilter-dyn g (filter.vtable, filter.value)).image filter.value ((goal.GlyphFilter-dyn g (filter.vtable, filter.value)).setting filter.value)) c.args.filters.now in
    let same : mir.Val.to_z mir.Syntax.w32 (mir.Val.of_z mir.Syntax.w32 c.args.found.info.units) ≡ c.args.found.info.units = search rules in
    let units : have_units c.args.found.info.units c.args.found.sources ≡ Ok tt =
    seen_so have_units (mir.Val.to_z mir.Syntax.w32 (mir.Val.of_z mir.Syntax.w32 c.args.found.info.units)) c.args.found.info.units c.as_slice.result.now c.args.found.sources (Ok tt) same c.as_slice.ensures c.in_ok-have_units.ensures.answers in
    let there : are_there c.args.found.sources c.args.found.names ≡ Ok tt =
    seen_so are_there c.as_slice-3.result.now c.args.found.sources c.as_slice-2.result.now c.args.found.names (Ok tt) c.as_slice-3.ensures c.as_slice-2.ensures c.in_ok-are_there.ensures.answers in
    made_of_all c.args.path.now images c.args.found c.made.result units there
    (subst (λ (drawn : List DrawnSource). MakesProject (IsFontOfDrawn c.args.path.now images c.args.found (Ok drawn)) c.made.result) c.in_ok-drawn.ensures c.made.ensures.makes)
