use Rattle.std.proofs.Common.{◌≡◌, ◌∷◌, ◌++◌, [], List, All, map, Ok, rules, refl, sym, subst, ap, ◌∙◌}
use Rattle.std.specs.List.{AllZip}
use Rattle.std.proofs.lemmas.List.Elements.{All-nil, All-push}
use Rattle.source_files.specs.Stops.{StopsBy}
use Rattle.glif.specs.Limits.{IsWithinLimits}
use Rattle.glif.specs.declared.shape.Outline.{Outline}
use Rattle.delta_solve.specs.GlyphModels.{AreAlike, IsModelOf, delta_fault}
use Rattle.delta_solve.specs.declared.model.GlyphModel.{GlyphModel}
use Rattle.font_project.specs.Columns.{column, columns, first_or_nothing, rest_of}
use Rattle.font_project.specs.Deltas.{all_fit, fits, fits_or}
use Rattle.font_project.specs.Masters.{AreTuplesWithin, locations, regions}
use Rattle.font_project.proofs.ModelSteps.{column_now, columns_more, drop_none, fit_step, fit_stop, rests_now, zip_push}
use Rattle.font_project.proofs.deltas.models_of.Goals as goal

pub loop-name-init : goal.loop-name-init
loop-name-init c = record {
  walked = c.in_ok-walks.ensures ∙ sym (drop_none c.args.rows.items);
  fitting = refl;
  modelled = subst (AllZip (IsModelOf (regions c.args.masters.now) (locations c.args.masters.now)) []) (sym c.new-models.ensures) tt;
  within = subst (All AreTuplesWithin) (sym c.new-models.ensures) (All-nil AreTuplesWithin);
}

pub model_of-requires-clause-within : goal.model_of-requires-clause-within
model_of-requires-clause-within c =
    let are : c.in_ok-outlines.field-0.outlines ≡ column c.args.rows.items c.loop-name.name-index = c.in_ok-outlines.ensures.here ∙ (ap (map first_or_nothing) c.loop-name.invariant.walked ∙ column_now c.args.rows.items c.loop-name.name-index) in
    subst (All IsWithinLimits) (sym are) (c.requires.rows.within c.loop-name.name-index c.loop-name-test.true)

pub model_of-requires-clause-alike : goal.model_of-requires-clause-alike
model_of-requires-clause-alike c =
    let are : c.in_ok-outlines.field-0.outlines ≡ column c.args.rows.items c.loop-name.name-index = c.in_ok-outlines.ensures.here ∙ (ap (map first_or_nothing) c.loop-name.invariant.walked ∙ column_now c.args.rows.items c.loop-name.name-index) in
    subst AreAlike (sym are) (c.requires.rows.alike c.loop-name.name-index c.loop-name-test.true)

pub returns-in_err-model_of-clause-fits : goal.returns-in_err-model_of-clause-fits
returns-in_err-model_of-clause-fits c =
    let are : c.in_ok-outlines.field-0.outlines ≡ column c.args.rows.items c.loop-name.name-index = c.in_ok-outlines.ensures.here ∙ (ap (map first_or_nothing) c.loop-name.invariant.walked ∙ column_now c.args.rows.items c.loop-name.name-index) in
    let here : StopsBy c.in_err-model_of.field-0.0 (fits (regions c.args.masters.now) (locations c.args.masters.now) c.args.rows.items c.loop-name.name-index c.name-item.result) =
    subst (λ (outlines : List Outline). StopsBy c.in_err-model_of.field-0.0 (fits_or c.name-item.result (delta_fault (regions c.args.masters.now) (locations c.args.masters.now) outlines))) are c.in_err-model_of.ensures.fits in
    let stops : StopsBy c.in_err-model_of.field-0.0 (all_fit (regions c.args.masters.now) (locations c.args.masters.now) c.args.rows.items c.args.names.now) =
    fit_stop (fits (regions c.args.masters.now) (locations c.args.masters.now) c.args.rows.items) c.loop-name.name-index c.args.names.now c.name-item.result _ c.in_err-model_of.field-0.0 c.loop-name-test.true c.name-item.is here c.loop-name.invariant.fitting in
    search rules

pub loop-name-preserved : goal.loop-name-preserved
loop-name-preserved c =
    let are : c.in_ok-outlines.field-0.outlines ≡ column c.args.rows.items c.loop-name.name-index = c.in_ok-outlines.ensures.here ∙ (ap (map first_or_nothing) c.loop-name.invariant.walked ∙ column_now c.args.rows.items c.loop-name.name-index) in
    let passes : fits (regions c.args.masters.now) (locations c.args.masters.now) c.args.rows.items c.loop-name.name-index c.name-item.result ≡ Ok tt =
    subst (λ (outlines : List Outline). fits_or c.name-item.result (delta_fault (regions c.args.masters.now) (locations c.args.masters.now) outlines) ≡ Ok tt) are c.in_ok-model_of.ensures.fits in
    let model : IsModelOf (regions c.args.masters.now) (locations c.args.masters.now) (column c.args.rows.items c.loop-name.name-index) c.in_ok-model_of.field-0 =
    subst (λ (outlines : List Outline). IsModelOf (regions c.args.masters.now) (locations c.args.masters.now) outlines c.in_ok-model_of.field-0) are c.in_ok-model_of.ensures.model in
    let modelled : AllZip (IsModelOf (regions c.args.masters.now) (locations c.args.masters.now)) (columns c.args.rows.items c.loop-name.name-index ++ column c.args.rows.items c.loop-name.name-index ∷ []) (c.loop-name.models ++ c.in_ok-model_of.field-0 ∷ []) =
    zip_push (IsModelOf (regions c.args.masters.now) (locations c.args.masters.now)) (columns c.args.rows.items c.loop-name.name-index) c.loop-name.models (column c.args.rows.items c.loop-name.name-index) c.in_ok-model_of.field-0 c.loop-name.invariant.modelled model in
    record {
      walked = c.in_ok-outlines.ensures.rest ∙ (ap (map rest_of) c.loop-name.invariant.walked ∙ rests_now c.args.rows.items c.loop-name.name-index);
      fitting = fit_step (fits (regions c.args.masters.now) (locations c.args.masters.now) c.args.rows.items) c.loop-name.name-index c.args.names.now c.name-item.result _ c.loop-name-test.true c.name-item.is passes c.loop-name.invariant.fitting;
      modelled = subst (λ (list : List (List Outline)). AllZip (IsModelOf (regions c.args.masters.now) (locations c.args.masters.now)) list c.push.new.self) (sym (columns_more c.args.rows.items c.loop-name.name-index))
          (subst (λ (list : List GlyphModel). AllZip (IsModelOf (regions c.args.masters.now) (locations c.args.masters.now)) (columns c.args.rows.items c.loop-name.name-index ++ column c.args.rows.items c.loop-name.name-index ∷ []) list) (sym c.in_ok-push.ensures.ok) modelled);
      within = subst (All AreTuplesWithin) (sym c.in_ok-push.ensures.ok) (All-push AreTuplesWithin c.loop-name.models c.in_ok-model_of.field-0 c.loop-name.invariant.within c.in_ok-model_of.ensures.within);
    }
