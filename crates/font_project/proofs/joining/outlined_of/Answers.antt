use Rattle.std.proofs.Common.{◌≡◌, ◌<◌, List, All, Ok, rules, refl, sym, subst, ap, ◌∙◌, length, arith}
use Rattle.std.proofs.lemmas.List.Elements.{All-weaker}
use Rattle.font_project.specs.Components.{have_bases}
use Rattle.font_project.specs.Columns.{no_outlines}
use Rattle.font_project.specs.Fonts.{AreOutlined, default_drawn, default_outlined, outlined_of}
use Rattle.font_project.specs.Making.{StopsWith}
use Rattle.font_project.specs.Limits.{AreOutlinedWithin, IsOutlinedWithin}
use Rattle.font_project.specs.Numbers.{default_first}
use Rattle.font_project.specs.Outlining.{AreOutlinesWithin, are_flat, outlined_sources}
use Rattle.font_project.specs.Resolving.{are_resolved}
use Rattle.font_project.specs.Shapes.{have_shapes}
use Rattle.font_project.specs.Sizes.{are_few}
use Rattle.font_project.specs.declared.drawn.DrawnSource.{DrawnSource}
use Rattle.font_project.proofs.OutlinedSources.{all_outlined, outlined_count}
use Rattle.font_project.proofs.JoinedSteps.{all_steps, bases_stop, default_is, few_stop, flat_stop, seen_so, shapes_stop, stop_seen, stops_with}
use Rattle.font_project.proofs.joining.outlined_of.Goals as goal

pub returns-in_err-are_resolved-clause-answers : goal.returns-in_err-are_resolved-clause-answers
unfolding outlined_of
returns-in_err-are_resolved-clause-answers c =
    let stops : StopsWith (AreOutlined c.args.names.now c.args.default c.args.drawn) c.in_err-are_resolved.field-0.0 = stops_with c.args.names.now c.args.default c.args.drawn c.in_ok-flats.flats c.in_err-are_resolved.field-0.0 c.in_ok-flats.ensures (search rules) in
    search rules

pub returns-in_err-bases-clause-answers : goal.returns-in_err-bases-clause-answers
returns-in_err-bases-clause-answers c =
    let count = ap (λ (sources : List DrawnSource). default_first c.args.default (length sources)) c.as_slice-sources.ensures in
    let numbers = c.in_ok-numbers.ensures ∙ count in
    let resolved : are_resolved c.in_ok-flats.flats (default_first c.args.default (length c.args.drawn)) ≡ Ok tt =
    seen_so are_resolved c.as_slice.result.now c.in_ok-flats.flats c.deref.result.now (default_first c.args.default (length c.args.drawn)) (Ok tt) c.as_slice.ensures (c.deref.ensures.value ∙ numbers) c.in_ok-are_resolved.ensures.answers in
    let default : c.index-sources-default.result ≡ default_drawn c.args.drawn c.args.default = default_is c.as_slice-sources.result.now c.args.drawn c.args.default c.index-sources-default.result _ c.as_slice-sources.ensures c.index-sources-default.is c.requires.there in
    let stops : StopsWith (AreOutlined c.args.names.now c.args.default c.args.drawn) c.in_err-bases.field-0.0 = stops_with c.args.names.now c.args.default c.args.drawn c.in_ok-flats.flats c.in_err-bases.field-0.0 c.in_ok-flats.ensures
    (bases_stop c.args.names.now c.args.default c.args.drawn c.in_ok-flats.flats c.in_err-bases.field-0.0 resolved (stop_seen (have_bases c.args.names.now) c.index-sources-default.result (default_drawn c.args.drawn c.args.default) c.as_slice-sources.result.now c.args.drawn c.in_err-bases.field-0.0 default c.as_slice-sources.ensures c.in_err-bases.ensures.answers)) in
    search rules

pub returns-in_err-are_flat-clause-answers : goal.returns-in_err-are_flat-clause-answers
returns-in_err-are_flat-clause-answers c =
    let count = ap (λ (sources : List DrawnSource). default_first c.args.default (length sources)) c.as_slice-sources.ensures in
    let numbers = c.in_ok-numbers.ensures ∙ count in
    let resolved : are_resolved c.in_ok-flats.flats (default_first c.args.default (length c.args.drawn)) ≡ Ok tt =
    seen_so are_resolved c.as_slice.result.now c.in_ok-flats.flats c.deref.result.now (default_first c.args.default (length c.args.drawn)) (Ok tt) c.as_slice.ensures (c.deref.ensures.value ∙ numbers) c.in_ok-are_resolved.ensures.answers in
    let default : c.index-sources-default.result ≡ default_drawn c.args.drawn c.args.default = default_is c.as_slice-sources.result.now c.args.drawn c.args.default c.index-sources-default.result _ c.as_slice-sources.ensures c.index-sources-default.is c.requires.there in
    let bases : have_bases c.args.names.now (default_drawn c.args.drawn c.args.default) c.args.drawn ≡ Ok tt =
    seen_so (have_bases c.args.names.now) c.index-sources-default.result (default_drawn c.args.drawn c.args.default) c.as_slice-sources.result.now c.args.drawn (Ok tt) default c.as_slice-sources.ensures c.in_ok-bases.ensures.answers in
    let stops : StopsWith (AreOutlined c.args.names.now c.args.default c.args.drawn) c.in_err-are_flat.field-0.0 = stops_with c.args.names.now c.args.default c.args.drawn c.in_ok-flats.flats c.in_err-are_flat.field-0.0 c.in_ok-flats.ensures
    (flat_stop c.args.names.now c.args.default c.args.drawn c.in_ok-flats.flats c.in_err-are_flat.field-0.0 resolved bases (stop_seen are_flat c.as_slice-2.result.now c.in_ok-flats.flats c.deref-2.result.now (default_first c.args.default (length c.args.drawn)) c.in_err-are_flat.field-0.0 c.as_slice-2.ensures (c.deref-2.ensures.value ∙ numbers) c.in_err-are_flat.ensures.answers)) in
    search rules

pub bounds-sources-default-2 : goal.bounds-sources-default-2
bounds-sources-default-2 c =
    omega (arith, outlined_count (length c.args.names.now) (length c.args.drawn) c.args.default c.args.drawn c.in_ok-flats.flats c.requires c.in_ok-flats.ensures, ap length c.in_ok-outlined.ensures, ap length c.as_slice-sources-2.ensures, c.requires.there)

pub returns-in_err-have_shapes-clause-answers : goal.returns-in_err-have_shapes-clause-answers
returns-in_err-have_shapes-clause-answers c =
    let count = ap (λ (sources : List DrawnSource). default_first c.args.default (length sources)) c.as_slice-sources.ensures in
    let numbers = c.in_ok-numbers.ensures ∙ count in
    let resolved : are_resolved c.in_ok-flats.flats (default_first c.args.default (length c.args.drawn)) ≡ Ok tt =
    seen_so are_resolved c.as_slice.result.now c.in_ok-flats.flats c.deref.result.now (default_first c.args.default (length c.args.drawn)) (Ok tt) c.as_slice.ensures (c.deref.ensures.value ∙ numbers) c.in_ok-are_resolved.ensures.answers in
    let default : c.index-sources-default.result ≡ default_drawn c.args.drawn c.args.default = default_is c.as_slice-sources.result.now c.args.drawn c.args.default c.index-sources-default.result _ c.as_slice-sources.ensures c.index-sources-default.is c.requires.there in
    let bases : have_bases c.args.names.now (default_drawn c.args.drawn c.args.default) c.args.drawn ≡ Ok tt =
    seen_so (have_bases c.args.names.now) c.index-sources-default.result (default_drawn c.args.drawn c.args.default) c.as_slice-sources.result.now c.args.drawn (Ok tt) default c.as_slice-sources.ensures c.in_ok-bases.ensures.answers in
    let flat : are_flat c.in_ok-flats.flats (default_first c.args.default (length c.args.drawn)) ≡ Ok tt =
    seen_so are_flat c.as_slice-2.result.now c.in_ok-flats.flats c.deref-2.result.now (default_first c.args.default (length c.args.drawn)) (Ok tt) c.as_slice-2.ensures (c.deref-2.ensures.value ∙ numbers) c.in_ok-are_flat.ensures.answers in
    let shown : c.as_slice-sources-2.result.now ≡ outlined_sources c.in_ok-flats.flats = c.as_slice-sources-2.ensures ∙ c.in_ok-outlined.ensures in
    let there : c.args.default < length (outlined_sources c.in_ok-flats.flats) = omega (arith, outlined_count (length c.args.names.now) (length c.args.drawn) c.args.default c.args.drawn c.in_ok-flats.flats c.requires c.in_ok-flats.ensures, c.requires.there) in
    let first : c.index-sources-default-2.result ≡ default_outlined (outlined_sources c.in_ok-flats.flats) c.args.default = default_is c.as_slice-sources-2.result.now (outlined_sources c.in_ok-flats.flats) c.args.default c.index-sources-default-2.result no_outlines shown c.index-sources-default-2.is there in
    let stops : StopsWith (AreOutlined c.args.names.now c.args.default c.args.drawn) c.in_err-have_shapes.field-0.0 = stops_with c.args.names.now c.args.default c.args.drawn c.in_ok-flats.flats c.in_err-have_shapes.field-0.0 c.in_ok-flats.ensures
    (shapes_stop c.args.names.now c.args.default c.args.drawn c.in_ok-flats.flats c.in_err-have_shapes.field-0.0 resolved bases flat (stop_seen (have_shapes c.args.names.now) c.index-sources-default-2.result (default_outlined (outlined_sources c.in_ok-flats.flats) c.args.default) c.as_slice-sources-2.result.now (outlined_sources c.in_ok-flats.flats) c.in_err-have_shapes.field-0.0 first shown c.in_err-have_shapes.ensures.answers)) in
    search rules

pub are_few-requires : goal.are_few-requires
are_few-requires c =
    let numbers = c.deref-2.ensures.value ∙ (c.in_ok-numbers.ensures ∙ ap (λ (sources : List DrawnSource). default_first c.args.default (length sources)) c.as_slice-sources.ensures) in
    let flat : are_flat c.in_ok-flats.flats (default_first c.args.default (length c.args.drawn)) ≡ Ok tt =
    seen_so are_flat c.as_slice-2.result.now c.in_ok-flats.flats c.deref-2.result.now (default_first c.args.default (length c.args.drawn)) (Ok tt) c.as_slice-2.ensures numbers c.in_ok-are_flat.ensures.answers in
    let all = all_outlined (length c.args.names.now) (length c.args.drawn) c.args.default c.args.drawn c.in_ok-flats.flats c.requires c.in_ok-flats.ensures flat in
    let within : All AreOutlinesWithin (outlined_sources c.in_ok-flats.flats) = All-weaker (IsOutlinedWithin (length c.args.names.now)) AreOutlinesWithin (λ source is. is.within) (outlined_sources c.in_ok-flats.flats) all in
    subst (All AreOutlinesWithin) (sym (c.as_slice-sources-2.ensures ∙ c.in_ok-outlined.ensures)) within

pub returns-in_err-are_few-clause-answers : goal.returns-in_err-are_few-clause-answers
returns-in_err-are_few-clause-answers c =
    let count = ap (λ (sources : List DrawnSource). default_first c.args.default (length sources)) c.as_slice-sources.ensures in
    let numbers = c.in_ok-numbers.ensures ∙ count in
    let resolved : are_resolved c.in_ok-flats.flats (default_first c.args.default (length c.args.drawn)) ≡ Ok tt =
    seen_so are_resolved c.as_slice.result.now c.in_ok-flats.flats c.deref.result.now (default_first c.args.default (length c.args.drawn)) (Ok tt) c.as_slice.ensures (c.deref.ensures.value ∙ numbers) c.in_ok-are_resolved.ensures.answers in
    let default : c.index-sources-default.result ≡ default_drawn c.args.drawn c.args.default = default_is c.as_slice-sources.result.now c.args.drawn c.args.default c.index-sources-default.result _ c.as_slice-sources.ensures c.index-sources-default.is c.requires.there in
    let bases : have_bases c.args.names.now (default_drawn c.args.drawn c.args.default) c.args.drawn ≡ Ok tt =
    seen_so (have_bases c.args.names.now) c.index-sources-default.result (default_drawn c.args.drawn c.args.default) c.as_slice-sources.result.now c.args.drawn (Ok tt) default c.as_slice-sources.ensures c.in_ok-bases.ensures.answers in
    let flat : are_flat c.in_ok-flats.flats (default_first c.args.default (length c.args.drawn)) ≡ Ok tt =
    seen_so are_flat c.as_slice-2.result.now c.in_ok-flats.flats c.deref-2.result.now (default_first c.args.default (length c.args.drawn)) (Ok tt) c.as_slice-2.ensures (c.deref-2.ensures.value ∙ numbers) c.in_ok-are_flat.ensures.answers in
    let shown : c.as_slice-sources-2.result.now ≡ outlined_sources c.in_ok-flats.flats = c.as_slice-sources-2.ensures ∙ c.in_ok-outlined.ensures in
    let there : c.args.default < length (outlined_sources c.in_ok-flats.flats) = omega (arith, outlined_count (length c.args.names.now) (length c.args.drawn) c.args.default c.args.drawn c.in_ok-flats.flats c.requires c.in_ok-flats.ensures, c.requires.there) in
    let first : c.index-sources-default-2.result ≡ default_outlined (outlined_sources c.in_ok-flats.flats) c.args.default = default_is c.as_slice-sources-2.result.now (outlined_sources c.in_ok-flats.flats) c.args.default c.index-sources-default-2.result no_outlines shown c.index-sources-default-2.is there in
    let shapes : have_shapes c.args.names.now (default_outlined (outlined_sources c.in_ok-flats.flats) c.args.default) (outlined_sources c.in_ok-flats.flats) ≡ Ok tt =
    seen_so (have_shapes c.args.names.now) c.index-sources-default-2.result (default_outlined (outlined_sources c.in_ok-flats.flats) c.args.default) c.as_slice-sources-2.result.now (outlined_sources c.in_ok-flats.flats) (Ok tt) first shown c.in_ok-have_shapes.ensures.answers in
    let stops : StopsWith (AreOutlined c.args.names.now c.args.default c.args.drawn) c.in_err-are_few.field-0.0 = stops_with c.args.names.now c.args.default c.args.drawn c.in_ok-flats.flats c.in_err-are_few.field-0.0 c.in_ok-flats.ensures
    (few_stop c.args.names.now c.args.default c.args.drawn c.in_ok-flats.flats c.in_err-are_few.field-0.0 resolved bases flat shapes (stop_seen are_few c.as_slice-sources-2.result.now (outlined_sources c.in_ok-flats.flats) c.deref-3.result.now (default_first c.args.default (length c.args.drawn)) c.in_err-are_few.field-0.0 shown (c.deref-3.ensures.value ∙ numbers) c.in_err-are_few.ensures.answers)) in
    search rules

pub returns-clause-within : goal.returns-clause-within
returns-clause-within c =
    let count = ap (λ (sources : List DrawnSource). default_first c.args.default (length sources)) c.as_slice-sources.ensures in
    let numbers = c.in_ok-numbers.ensures ∙ count in
    let flat : are_flat c.in_ok-flats.flats (default_first c.args.default (length c.args.drawn)) ≡ Ok tt =
    seen_so are_flat c.as_slice-2.result.now c.in_ok-flats.flats c.deref-2.result.now (default_first c.args.default (length c.args.drawn)) (Ok tt) c.as_slice-2.ensures (c.deref-2.ensures.value ∙ numbers) c.in_ok-are_flat.ensures.answers in
    let shown : c.as_slice-sources-2.result.now ≡ outlined_sources c.in_ok-flats.flats = c.as_slice-sources-2.ensures ∙ c.in_ok-outlined.ensures in
    let there : c.args.default < length (outlined_sources c.in_ok-flats.flats) = omega (arith, outlined_count (length c.args.names.now) (length c.args.drawn) c.args.default c.args.drawn c.in_ok-flats.flats c.requires c.in_ok-flats.ensures, c.requires.there) in
    let first : c.index-sources-default-2.result ≡ default_outlined (outlined_sources c.in_ok-flats.flats) c.args.default = default_is c.as_slice-sources-2.result.now (outlined_sources c.in_ok-flats.flats) c.args.default c.index-sources-default-2.result no_outlines shown c.index-sources-default-2.is there in
    let shapes : have_shapes c.args.names.now (default_outlined (outlined_sources c.in_ok-flats.flats) c.args.default) (outlined_sources c.in_ok-flats.flats) ≡ Ok tt =
    seen_so (have_shapes c.args.names.now) c.index-sources-default-2.result (default_outlined (outlined_sources c.in_ok-flats.flats) c.args.default) c.as_slice-sources-2.result.now (outlined_sources c.in_ok-flats.flats) (Ok tt) first shown c.in_ok-have_shapes.ensures.answers in
    let few : are_few (outlined_sources c.in_ok-flats.flats) (default_first c.args.default (length c.args.drawn)) ≡ Ok tt =
    seen_so are_few c.as_slice-sources-2.result.now (outlined_sources c.in_ok-flats.flats) c.deref-3.result.now (default_first c.args.default (length c.args.drawn)) (Ok tt) shown (c.deref-3.ensures.value ∙ numbers) c.in_ok-are_few.ensures.answers in
    subst (AreOutlinedWithin c.args.names.now (length c.args.drawn) c.args.default) (sym c.in_ok-outlined.ensures) (record {
      one_each = outlined_count (length c.args.names.now) (length c.args.drawn) c.args.default c.args.drawn c.in_ok-flats.flats c.requires c.in_ok-flats.ensures;
      there = c.requires.there;
      each = all_outlined (length c.args.names.now) (length c.args.drawn) c.args.default c.args.drawn c.in_ok-flats.flats c.requires c.in_ok-flats.ensures flat;
      shapes = shapes;
      few = few;
    })

pub returns-clause-answers : goal.returns-clause-answers
returns-clause-answers c =
    let count = ap (λ (sources : List DrawnSource). default_first c.args.default (length sources)) c.as_slice-sources.ensures in
    let numbers = c.in_ok-numbers.ensures ∙ count in
    let resolved : are_resolved c.in_ok-flats.flats (default_first c.args.default (length c.args.drawn)) ≡ Ok tt =
    seen_so are_resolved c.as_slice.result.now c.in_ok-flats.flats c.deref.result.now (default_first c.args.default (length c.args.drawn)) (Ok tt) c.as_slice.ensures (c.deref.ensures.value ∙ numbers) c.in_ok-are_resolved.ensures.answers in
    let default : c.index-sources-default.result ≡ default_drawn c.args.drawn c.args.default = default_is c.as_slice-sources.result.now c.args.drawn c.args.default c.index-sources-default.result _ c.as_slice-sources.ensures c.index-sources-default.is c.requires.there in
    let bases : have_bases c.args.names.now (default_drawn c.args.drawn c.args.default) c.args.drawn ≡ Ok tt =
    seen_so (have_bases c.args.names.now) c.index-sources-default.result (default_drawn c.args.drawn c.args.default) c.as_slice-sources.result.now c.args.drawn (Ok tt) default c.as_slice-sources.ensures c.in_ok-bases.ensures.answers in
    let flat : are_flat c.in_ok-flats.flats (default_first c.args.default (length c.args.drawn)) ≡ Ok tt =
    seen_so are_flat c.as_slice-2.result.now c.in_ok-flats.flats c.deref-2.result.now (default_first c.args.default (length c.args.drawn)) (Ok tt) c.as_slice-2.ensures (c.deref-2.ensures.value ∙ numbers) c.in_ok-are_flat.ensures.answers in
    let shown : c.as_slice-sources-2.result.now ≡ outlined_sources c.in_ok-flats.flats = c.as_slice-sources-2.ensures ∙ c.in_ok-outlined.ensures in
    let there : c.args.default < length (outlined_sources c.in_ok-flats.flats) = omega (arith, outlined_count (length c.args.names.now) (length c.args.drawn) c.args.default c.args.drawn c.in_ok-flats.flats c.requires c.in_ok-flats.ensures, c.requires.there) in
    let first : c.index-sources-default-2.result ≡ default_outlined (outlined_sources c.in_ok-flats.flats) c.args.default = default_is c.as_slice-sources-2.result.now (outlined_sources c.in_ok-flats.flats) c.args.default c.index-sources-default-2.result no_outlines shown c.index-sources-default-2.is there in
    let shapes : have_shapes c.args.names.now (default_outlined (outlined_sources c.in_ok-flats.flats) c.args.default) (outlined_sources c.in_ok-flats.flats) ≡ Ok tt =
    seen_so (have_shapes c.args.names.now) c.index-sources-default-2.result (default_outlined (outlined_sources c.in_ok-flats.flats) c.args.default) c.as_slice-sources-2.result.now (outlined_sources c.in_ok-flats.flats) (Ok tt) first shown c.in_ok-have_shapes.ensures.answers in
    let few : are_few (outlined_sources c.in_ok-flats.flats) (default_first c.args.default (length c.args.drawn)) ≡ Ok tt =
    seen_so are_few c.as_slice-sources-2.result.now (outlined_sources c.in_ok-flats.flats) c.deref-3.result.now (default_first c.args.default (length c.args.drawn)) (Ok tt) shown (c.deref-3.ensures.value ∙ numbers) c.in_ok-are_few.ensures.answers in
    (c.in_ok-flats.flats, c.in_ok-flats.ensures, ap Ok c.in_ok-outlined.ensures ∙ sym (all_steps c.args.names.now c.args.default c.args.drawn c.in_ok-flats.flats (outlined_sources c.in_ok-flats.flats) resolved bases flat refl shapes few))
