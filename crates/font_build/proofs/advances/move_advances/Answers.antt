use Rattle.std.proofs.Common.{◌≡◌, drop, length, map, sym, ap, subst, ◌∙◌}
use Rattle.font_build.proofs.FitLemmas.{are_rows, later_regions_are}
use Rattle.font_build.specs.TableSteps.{later_advances}
use Rattle.hvar.specs.Advances.{MeansAdvances}
use Rattle.item_var_store.specs.Rows.{AreRows}
use Rattle.region_support.specs.Coordinates.{regions_in}
use Rattle.font_build.proofs.advances.move_advances.Goals as goal

pub table-requires : goal.table-requires
table-requires c =
    let project = c.args.project.now in
    let axes = length project.design.axes in
    let regions : c.in_ok-regions.regions ≡ drop 1 project.supports = c.in_ok-regions.ensures ∙ ap (drop 1) c.as_slice.ensures in
    let rows : c.in_ok-rows.rows ≡ map later_advances project.models = c.in_ok-rows.ensures ∙ ap (map later_advances) c.as_slice-2.ensures in
    subst (λ n. AreRows n c.in_ok-regions.regions c.in_ok-rows.rows) (sym c.len-axes.ensures)
    (subst (λ r. AreRows axes r c.in_ok-rows.rows) (sym regions) (subst (AreRows axes (drop 1 project.supports)) (sym rows) (are_rows project c.requires)))

pub returns : goal.returns
returns c =
    let project = c.args.project.now in
    let axes = length project.design.axes in
    let regions : regions_in c.in_ok-regions.regions ≡ drop 1 (regions_in project.supports) = ap regions_in (c.in_ok-regions.ensures ∙ ap (drop 1) c.as_slice.ensures) ∙ later_regions_are project.supports in
    let rows : c.in_ok-rows.rows ≡ map later_advances project.models = c.in_ok-rows.ensures ∙ ap (map later_advances) c.as_slice-2.ensures in
    let bytes = c.in_ok-bytes.bytes.items in
    subst (λ r. MeansAdvances axes (drop 1 (regions_in project.supports)) r bytes) rows
    (subst (λ r. MeansAdvances axes r c.in_ok-rows.rows bytes) regions (subst (λ n. MeansAdvances n (regions_in c.in_ok-regions.regions) c.in_ok-rows.rows bytes) c.len-axes.ensures c.in_ok-bytes.ensures.means))
