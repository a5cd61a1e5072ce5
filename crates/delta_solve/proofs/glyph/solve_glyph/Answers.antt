use Rattle.std.proofs.Common.{◌≡◌, ℤ, List, None, sym, ◌∙◌, subst}
use Rattle.std.proofs.lemmas.Result.{IfOk-weaker, IfErr-weaker}
use Rattle.variation_rules.specs.declared.region.Triple.{Triple}
use Rattle.delta_solve.specs.Deltas.{rows_of}
use Rattle.delta_solve.specs.GlyphModels.{IsModelBy, IsModelOf, IsStopOf, delta_fault, fault_by}
use Rattle.delta_solve.proofs.OfRegions.{fault_of_regions, model_of_regions}
use Rattle.delta_solve.proofs.glyph.solve_glyph.Goals as goal

pub returns-clause-of_regions : goal.returns-clause-of_regions
returns-clause-of_regions c =
    let rows = c.args.table.now in
    let outlines = c.args.outlines.now in
    IfOk-weaker c.model_by.result (IsModelBy rows outlines)
    (λ model. (regions : List (List Triple)) (locations : List (List ℤ)) → rows ≡ rows_of regions locations → IsModelOf regions locations outlines model)
    (λ model made regions locations is. model_of_regions rows outlines model regions locations c.requires.one_each is made)
    (rw (c.rows.ensures.value, c.as_slice.ensures) at c.model_by.ensures.model)

pub returns-clause-fits_regions : goal.returns-clause-fits_regions
returns-clause-fits_regions c =
    let rows = c.args.table.now in
    let outlines = c.args.outlines.now in
    IfOk-weaker c.model_by.result (λ model. fault_by rows outlines ≡ None)
    (λ model. (regions : List (List Triple)) (locations : List (List ℤ)) → rows ≡ rows_of regions locations → delta_fault regions locations outlines ≡ None)
    (λ model fits regions locations is. sym (fault_of_regions rows outlines regions locations c.requires.one_each is) ∙ fits)
    (rw (c.rows.ensures.value, c.as_slice.ensures) at c.model_by.ensures.fits)

pub returns-clause-stops_regions : goal.returns-clause-stops_regions
returns-clause-stops_regions c =
    let rows = c.args.table.now in
    let outlines = c.args.outlines.now in
    IfErr-weaker c.model_by.result (IsStopOf (fault_by rows outlines))
    (λ stop. (regions : List (List Triple)) (locations : List (List ℤ)) → rows ≡ rows_of regions locations → IsStopOf (delta_fault regions locations outlines) stop)
    (λ stop stops regions locations is. subst (λ fault. IsStopOf fault stop) (fault_of_regions rows outlines regions locations c.requires.one_each is) stops)
    (rw (c.rows.ensures.value, c.as_slice.ensures) at c.model_by.ensures.stops)
