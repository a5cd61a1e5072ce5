use Rattle.std.proofs.Common.{◌≡◌, ◌<◌, arith, ℕ, List, Ok, rules, subst, ap, ◌∙◌, length, map, get_or}
use Rattle.std.proofs.lemmas.List.{get_or_default}
use Rattle.font_project.specs.Codes.{codes_of}
use Rattle.font_project.specs.Filtering.{Image}
use Rattle.font_project.specs.Fonts.{AreOutlined, IsFontOfDrawn, default_codes, default_drawn, default_number, font_filtered}
use Rattle.font_project.specs.Making.{MakesProject, StopsWith}
use Rattle.font_project.specs.declared.drawn.DrawnSource.{DrawnSource}
use Rattle.font_project.proofs.FontSteps.{made_of_drawn, outlines_stop}
use Rattle.font_project.proofs.steps.made.Goals as goal

pub returns-in_err-outlined-clause-makes : goal.returns-in_err-outlined-clause-makes
returns-in_err-outlined-clause-makes g c =
    let images : List Image = map (λ filter. (goal.GlyphFilter-dyn g (filter.vtable, filter.value)).image filter.value ((goal.GlyphFilter-dyn g (filter.vtable, filter.value)).setting filter.value)) c.args.filters.now in
    let named : StopsWith (AreOutlined c.args.found.names (get_or c.as_slice.result.now 0 0) c.args.drawn) c.in_err-outlined.field-0.0 =
    subst (λ (names : List (List ℕ)). StopsWith (AreOutlined names (get_or c.as_slice.result.now 0 0) c.args.drawn) c.in_err-outlined.field-0.0) c.as_slice-4.ensures c.in_err-outlined.ensures.answers in
    let numbered : StopsWith (AreOutlined c.args.found.names (default_number c.args.found) c.args.drawn) c.in_err-outlined.field-0.0 =
    subst (λ (order : List ℕ). StopsWith (AreOutlined c.args.found.names (get_or order 0 0) c.args.drawn) c.in_err-outlined.field-0.0) c.as_slice.ensures named in
    let stops : StopsWith (IsFontOfDrawn c.args.path.now images c.args.found (Ok c.args.drawn)) c.in_err-outlined.field-0.0 = outlines_stop c.args.path.now images c.args.found c.args.drawn c.in_err-outlined.field-0.0 numbered in
    search rules

pub returns-clause-makes : goal.returns-clause-makes
returns-clause-makes g c =
    let images : List Image = map (λ filter. (goal.GlyphFilter-dyn g (filter.vtable, filter.value)).image filter.value ((goal.GlyphFilter-dyn g (filter.vtable, filter.value)).setting filter.value)) c.args.filters.now in
    let named : AreOutlined c.args.found.names (get_or c.as_slice.result.now 0 0) c.args.drawn (Ok c.in_ok-outlined.outlined) =
    subst (λ (names : List (List ℕ)). AreOutlined names (get_or c.as_slice.result.now 0 0) c.args.drawn (Ok c.in_ok-outlined.outlined)) c.as_slice-4.ensures c.in_ok-outlined.ensures.answers in
    let numbered : AreOutlined c.args.found.names (default_number c.args.found) c.args.drawn (Ok c.in_ok-outlined.outlined) =
    subst (λ (order : List ℕ). AreOutlined c.args.found.names (get_or order 0 0) c.args.drawn (Ok c.in_ok-outlined.outlined)) c.as_slice.ensures named in
    let there : default_number c.args.found < length c.args.drawn = omega (arith, c.requires.drawn.there, c.requires.drawn.one_each) in
    let first : get_or c.as_slice-2.result.now (get_or c.as_slice.result.now 0 0) c.index-as_slice-default.result ≡ default_drawn c.args.drawn (default_number c.args.found) =
    ap (λ (list : List DrawnSource). get_or list (get_or c.as_slice.result.now 0 0) c.index-as_slice-default.result) c.as_slice-2.ensures
    ∙ (ap (λ (order : List ℕ). get_or c.args.drawn (get_or order 0 0) c.index-as_slice-default.result) c.as_slice.ensures ∙ get_or_default c.args.drawn (default_number c.args.found) c.index-as_slice-default.result _ there) in
    let codes : c.in_ok-codes.codes ≡ default_codes c.args.found c.args.drawn = c.in_ok-codes.ensures.exact ∙ ap codes_of (c.as_slice-3.ensures ∙ ap (λ (source : DrawnSource). source.drawings) first) in
    made_of_drawn c.args.path.now images c.args.found c.args.drawn c.in_ok-outlined.outlined c.finished_filtered.result numbered
    (subst (λ (codes : List (ℕ × ℕ)). MakesProject (λ answer. answer ≡ font_filtered c.args.path.now images c.args.found codes c.in_ok-outlined.outlined) c.finished_filtered.result) codes c.finished_filtered.ensures.makes)
