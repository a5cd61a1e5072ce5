use Rattle.std.proofs.Common.{◌≡◌, length, map, sym, ap, subst, ◌∙◌, arith}
use Rattle.font_build.proofs.FitLemmas.{are_writable}
use Rattle.font_build.proofs.VariationLemmas.{are_glyphs, is_varied}
use Rattle.font_build.specs.TableSteps.{all_points}
use Rattle.gvar_table.specs.Table.{AreGlyphsOf}
use Rattle.region_support.specs.Coordinates.{regions_in}
use Rattle.font_build.proofs.variations.vary.Goals as goal

pub find-requires-clause-writable : goal.find-requires-clause-writable
find-requires-clause-writable c = (length c.args.project.now.design.axes, are_writable c.args.project.now c.requires)

pub table-requires : goal.table-requires
table-requires c =
    let project = c.args.project.now in
    let axes = length project.design.axes in
    let found = rw c.as_slice-models.ensures at (c.in_ok-found.ensures axes (are_writable project c.requires)) in
    let counts : c.in_ok-counts.counts ≡ map all_points project.models = c.in_ok-counts.ensures ∙ ap (map all_points) c.as_slice-models.ensures in
    let all = are_glyphs axes (regions_in project.supports) project.models c.in_ok-found.found.glyphs (omega (arith, c.requires.design.axes.some)) c.requires.design.axes.few (omega (arith, c.requires.model_each, c.requires.names.few)) c.requires.small found.each in
    subst (λ n. AreGlyphsOf n c.in_ok-counts.counts c.in_ok-found.found.glyphs) (sym c.len-axes.ensures) (subst (λ k. AreGlyphsOf axes k c.in_ok-found.found.glyphs) (sym counts) all)

pub returns : goal.returns
returns c =
    let project = c.args.project.now in
    let axes = length project.design.axes in
    let found = rw c.as_slice-models.ensures at (c.in_ok-found.ensures axes (are_writable project c.requires)) in
    let counts : c.in_ok-counts.counts ≡ map all_points project.models = c.in_ok-counts.ensures ∙ ap (map all_points) c.as_slice-models.ensures in
    is_varied axes (regions_in project.supports) project.models c.in_ok-found.found.glyphs c.in_ok-bytes.bytes.items c.in_ok-found.found.tuples c.in_ok-found.found.explicit c.in_ok-found.found.points found
    (rw c.len-axes.ensures at c.in_ok-bytes.ensures.reads)
    (rw (c.len-axes.ensures, counts) at c.in_ok-bytes.ensures.means)
    (rw (c.len-axes.ensures, counts) at c.in_ok-bytes.ensures.packs)
