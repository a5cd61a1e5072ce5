use Rattle.std.proofs.Common.{◌≡◌, ◌≢◌, ◌<◌, ℕ, List, All, Result, Ok, rules, sym, subst, ap, ◌∙◌, length}
use Rattle.std.specs.List.{AllPairs, AllZip}
use Rattle.std.proofs.lemmas.List.{length-map}
use Rattle.basics.specs.declared.fault.Fault.{Fault}
use Rattle.source_files.specs.Stops.{StopsBy}
use Rattle.glif.specs.declared.shape.Outline.{Outline}
use Rattle.designspace.specs.declared.source.Source.{Source}
use Rattle.delta_solve.specs.GlyphModels.{IsModelOf}
use Rattle.font_sources.specs.Document.{locations_of}
use Rattle.font_model.specs.Fonts.{numbered}
use Rattle.font_project.specs.Columns.{columns, rows_in}
use Rattle.font_project.specs.Deltas.{all_fit}
use Rattle.font_project.specs.Fonts.{default_number, font_of, master_locations, master_regions}
use Rattle.font_project.specs.Limits.{AreAlikeWithin}
use Rattle.font_project.specs.Making.{StopsWith}
use Rattle.font_project.specs.Masters.{AreFitRows, locations, regions}
use Rattle.font_project.specs.declared.outlined.OutlinedSource.{OutlinedSource}
use Rattle.font_project.proofs.FontSteps.{fit_seen, fit_stops, font_fits, font_with, is_project, stops_right}
use Rattle.font_project.proofs.ProjectFit.{columns_within, is_fit, numbered_length}
use Rattle.font_project.proofs.Rows.{fit_rows, numbers_apart, numbers_below}
use Rattle.font_project.proofs.steps.finished.Goals as goal

pub rows_in-requires-clause-numbers : goal.rows_in-requires-clause-numbers
rows_in-requires-clause-numbers c =
    let sources = c.args.found.design.sources in
    let below : All (λ number. number < length c.args.outlined) c.args.found.order =
    numbers_below (locations_of sources) c.args.found.order (length c.args.outlined) c.requires.frame.order (c.requires.outlined.one_each ∙ sym (length-map sources (λ (source : Source). source.location.items))) in
    subst (λ (list : List OutlinedSource). All (λ number. number < length list) c.as_slice.result.now) (sym c.into_vec.ensures)
    (subst (All (λ number. number < length c.args.outlined)) (sym c.as_slice.ensures) below)

pub rows_in-requires-clause-apart : goal.rows_in-requires-clause-apart
rows_in-requires-clause-apart c = subst (AllPairs (λ first second. first ≢ second)) (sym c.as_slice.ensures) (numbers_apart (locations_of c.args.found.design.sources) c.args.found.order c.requires.frame.order)

pub models_of-requires-clause-rows : goal.models_of-requires-clause-rows
models_of-requires-clause-rows c =
    let sources = c.args.found.design.sources in
    let listed : length (locations_of sources) ≡ length sources = length-map sources (λ (source : Source). source.location.items) in
    let rows : c.in_ok-rows.rows.items ≡ rows_in c.args.outlined c.args.found.order = c.in_ok-rows.ensures ∙ (ap (λ (list : List OutlinedSource). rows_in list c.as_slice.result.now) c.into_vec.ensures ∙ ap (rows_in c.args.outlined) c.as_slice.ensures) in
    let fit : AreFitRows (length (locations_of sources)) (length c.args.found.names) (rows_in c.args.outlined c.args.found.order) =
    fit_rows c.args.found.names (locations_of sources) c.args.found.order c.args.outlined c.requires.frame.order
    (subst (λ (n : ℕ). AreAlikeWithin (length c.args.found.names) n (default_number c.args.found) c.args.outlined) (sym listed) c.requires.outlined) in
    subst (λ (n : ℕ). AreFitRows n (length c.as_slice-2.result.now) c.in_ok-rows.rows.items) (listed ∙ sym c.in_ok-masters.ensures.one_each)
    (subst (λ (list : List (List ℕ)). AreFitRows (length (locations_of sources)) (length list) c.in_ok-rows.rows.items) (sym c.as_slice-2.ensures)
    (subst (AreFitRows (length (locations_of sources)) (length c.args.found.names)) (sym rows) fit))

pub returns-in_err-models-clause-makes : goal.returns-in_err-models-clause-makes
returns-in_err-models-clause-makes c =
    let rows : c.in_ok-rows.rows.items ≡ rows_in c.args.outlined c.args.found.order = c.in_ok-rows.ensures ∙ (ap (λ (list : List OutlinedSource). rows_in list c.as_slice.result.now) c.into_vec.ensures ∙ ap (rows_in c.args.outlined) c.as_slice.ensures) in
    let fit : StopsBy c.in_err-models.field-0.0 (all_fit (master_regions c.args.found) (master_locations c.args.found) (rows_in c.args.outlined c.args.found.order) c.args.found.names) =
    fit_seen (StopsBy c.in_err-models.field-0.0) c.in_ok-masters.masters c.args.found c.in_ok-rows.rows.items (rows_in c.args.outlined c.args.found.order) c.as_slice-2.result.now c.in_ok-masters.ensures.same rows c.as_slice-2.ensures c.in_err-models.ensures.fits in
    let stops : StopsWith (λ answer. answer ≡ font_of c.args.path.now c.args.found c.args.codes c.args.outlined) c.in_err-models.field-0.0 =
    stops_right (font_of c.args.path.now c.args.found c.args.codes c.args.outlined) c.in_err-models.field-0.0 (fit_stops c.args.path.now c.args.found c.args.codes c.args.outlined c.in_ok-ruled.ruled.substitutions.subs c.in_err-models.field-0.0 c.in_ok-ruled.ensures.answers fit) in
    search rules

pub returns-clause-makes : goal.returns-clause-makes
returns-clause-makes c =
    let rows : c.in_ok-rows.rows.items ≡ rows_in c.args.outlined c.args.found.order = c.in_ok-rows.ensures ∙ (ap (λ (list : List OutlinedSource). rows_in list c.as_slice.result.now) c.into_vec.ensures ∙ ap (rows_in c.args.outlined) c.as_slice.ensures) in
    let fit : all_fit (master_regions c.args.found) (master_locations c.args.found) (rows_in c.args.outlined c.args.found.order) c.args.found.names ≡ Ok tt =
    fit_seen (λ (r : Result (Unit {0}) Fault). r ≡ Ok tt) c.in_ok-masters.masters c.args.found c.in_ok-rows.rows.items (rows_in c.args.outlined c.args.found.order) c.as_slice-2.result.now c.in_ok-masters.ensures.same rows c.as_slice-2.ensures c.in_ok-models.ensures.fits in
    let named : AllZip (IsModelOf (regions c.in_ok-masters.masters) (locations c.in_ok-masters.masters)) (columns c.in_ok-rows.rows.items (length c.args.found.names)) c.in_ok-models.models =
    subst (λ (list : List (List ℕ)). AllZip (IsModelOf (regions c.in_ok-masters.masters) (locations c.in_ok-masters.masters)) (columns c.in_ok-rows.rows.items (length list)) c.in_ok-models.models) c.as_slice-2.ensures c.in_ok-models.ensures.models in
    let are : AllZip (IsModelOf (regions c.in_ok-masters.masters) (locations c.in_ok-masters.masters)) (columns (rows_in c.args.outlined c.args.found.order) (length c.args.found.names)) c.in_ok-models.models =
    subst (λ (list : List (List Outline)). AllZip (IsModelOf (regions c.in_ok-masters.masters) (locations c.in_ok-masters.masters)) (columns list (length c.args.found.names)) c.in_ok-models.models) rows named in
    let sources = c.args.found.design.sources in
    let listed : length (locations_of sources) ≡ length sources = length-map sources (λ (source : Source). source.location.items) in
    let shaped : AreFitRows (length (locations_of sources)) (length c.args.found.names) (rows_in c.args.outlined c.args.found.order) =
    fit_rows c.args.found.names (locations_of sources) c.args.found.order c.args.outlined c.requires.frame.order
    (subst (λ (n : ℕ). AreAlikeWithin (length c.args.found.names) n (default_number c.args.found) c.args.outlined) (sym listed) c.requires.outlined) in (
      font_with c.args.found c.args.codes c.args.outlined,
      sym (font_fits c.args.path.now c.args.found c.args.codes c.args.outlined c.in_ok-ruled.ruled.substitutions.subs c.in_ok-ruled.ensures.answers fit),
      is_project c.args.found c.in_ok-ruled.ruled c.args.codes c.args.outlined c.in_ok-masters.masters c.in_ok-models.models c.joined.result c.joined.ensures c.in_ok-ruled.ensures.right c.in_ok-masters.ensures.ready c.in_ok-masters.ensures.same are,
      columns_within (rows_in c.args.outlined c.args.found.order) (length c.args.found.names) shaped.within,
    )

pub returns-clause-fit : goal.returns-clause-fit
returns-clause-fit c =
    let rows : c.in_ok-rows.rows.items ≡ rows_in c.args.outlined c.args.found.order = c.in_ok-rows.ensures ∙ (ap (λ (list : List OutlinedSource). rows_in list c.as_slice.result.now) c.into_vec.ensures ∙ ap (rows_in c.args.outlined) c.as_slice.ensures) in
    let named : AllZip (IsModelOf (regions c.in_ok-masters.masters) (locations c.in_ok-masters.masters)) (columns c.in_ok-rows.rows.items (length c.args.found.names)) c.in_ok-models.models =
    subst (λ (list : List (List ℕ)). AllZip (IsModelOf (regions c.in_ok-masters.masters) (locations c.in_ok-masters.masters)) (columns c.in_ok-rows.rows.items (length list)) c.in_ok-models.models) c.as_slice-2.ensures c.in_ok-models.ensures.models in
    let are : AllZip (IsModelOf (regions c.in_ok-masters.masters) (locations c.in_ok-masters.masters)) (columns (rows_in c.args.outlined c.args.found.order) (length c.args.found.names)) c.in_ok-models.models =
    subst (λ (list : List (List Outline)). AllZip (IsModelOf (regions c.in_ok-masters.masters) (locations c.in_ok-masters.masters)) (columns list (length c.args.found.names)) c.in_ok-models.models) rows named in
    is_fit c.args.found c.in_ok-ruled.ruled c.args.codes c.args.outlined c.in_ok-masters.masters c.in_ok-models.models c.joined.result c.requires.frame c.requires.codes c.requires.outlined c.joined.ensures c.in_ok-ruled.ensures.right
    c.in_ok-masters.ensures.ready c.in_ok-masters.ensures.same c.in_ok-masters.ensures.one_each are c.in_ok-models.ensures.within

pub returns-clause-names : goal.returns-clause-names
returns-clause-names c =
    let entries : c.joined.result.names.entries ≡ numbered 0 c.args.found.names = ap (λ (names : _). names.entries) c.joined.ensures.names ∙ c.in_ok-ruled.ensures.right.names in
    ap length entries ∙ numbered_length c.args.found.names 0
