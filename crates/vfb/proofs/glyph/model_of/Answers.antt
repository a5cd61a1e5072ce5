use Rattle.std.proofs.Common.{◌≡◌, Err, rules, subst, sym, ap, ◌∙◌}
use Rattle.region_support.specs.Coordinates.{coordinates_of, regions_in}
use Rattle.delta_solve.specs.GlyphModels.{IsStopOf, delta_fault}
use Rattle.vfb.specs.Making.{shown}
use Rattle.vfb.specs.Masters.{range_fault}
use Rattle.vfb.proofs.GlyphLemmas.{one_region_each, fitting_fault}
use Rattle.vfb.proofs.glyph.model_of.Goals as goal

pub table-requires-clause-one_each : goal.table-requires-clause-one_each
table-requires-clause-one_each c = one_region_each c.args.supports.now c.args.masters.now.locations c.requires.regions

-- a delta that doesn't fit is refused
pub returns-in-Err-DeltaRange-clause-fits : goal.returns-in-Err-DeltaRange-clause-fits
returns-in-Err-DeltaRange-clause-fits c =
    let masters = shown c.args.masters.now in
    let found = regions_in c.args.supports.now in
    let arm = c.in-Err-DeltaRange in
    let stops = subst (IsStopOf (delta_fault found masters.locations masters.outlines)) arm.field-0-is (arm.ensures.stops_regions found (coordinates_of c.args.masters.now.locations) c.in_ok-table.ensures.rows) in
    let same : mir.Val.to_z mir.Syntax.w64 (mir.Val.of_z mir.Syntax.w64 arm.value) ≡ arm.value = search rules in
    fitting_fault masters found _ _ _ _ c.requires.regions stops
    ∙ ap Err (ap (range_fault masters.name arm.master arm.point arm.y) (sym same) ∙ sym c.in_ok-range_fault-in-Err-DeltaRange.ensures)
