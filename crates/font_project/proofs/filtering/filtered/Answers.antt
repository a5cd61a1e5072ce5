use Rattle.std.proofs.Common.{◌≡◌, ◌∙◌, ◌+◌, Ok, ◌<◌, ◌≤◌, List, suc, arith, rules, length, get_or, ap, sym, subst}
use Rattle.std.specs.Prelude.{remove, insert}
use Rattle.font_project.specs.Columns.{no_outlines}
use Rattle.font_project.specs.Images.{IsSourceOf}
use Rattle.font_project.specs.declared.outlined.OutlinedSource.{OutlinedSource}
use Rattle.font_project.proofs.FilterLists.{images_stay, kinds_stay}
use Rattle.font_project.proofs.FilteredSources.{all_calls, all_filtered, all_shaped, others_stop, removed_length}
use Rattle.font_project.proofs.JoinedSteps.{default_is}
use Rattle.font_project.proofs.OutlinedSources.{zip_length}
use Rattle.font_project.proofs.filtering.filtered.Goals as goal

pub returns-in_err-made-clause-answers : goal.returns-in_err-made-clause-answers
returns-in_err-made-clause-answers g c =
    let taken : c.remove-own.result ≡ get_or c.args.outlined c.args.default no_outlines = default_is c.into_vec-sources.result.items c.args.outlined c.args.default c.remove-own.result no_outlines c.into_vec-sources.ensures c.remove-own.ensures.value c.requires.there in
    let rest : c.remove-own.new.self.items ≡ remove c.args.outlined c.args.default = c.remove-own.ensures.items ∙ ap (λ (list : List OutlinedSource). remove list c.args.default) c.into_vec-sources.ensures in
    let stops = others_stop c.args.names.now c.args.default c.args.outlined c.remove-own.new.self.items c.remove-own.result c.in_ok-own.own taken rest _ _ c.in_err-made.field-0.0 c.in_ok-own.ensures.answers (images_stay _ _ _ _ _ _ _ c.in_ok-own.ensures.same) c.in_err-made.ensures.answers in
    search rules

pub insert-requires : goal.insert-requires
insert-requires g c =
    let rest : c.remove-own.new.self.items ≡ remove c.args.outlined c.args.default = c.remove-own.ensures.items ∙ ap (λ (list : List OutlinedSource). remove list c.args.default) c.into_vec-sources.ensures in
    let size : length c.in_ok-made.made.items ≡ length c.remove-own.new.self.items = zip_length (IsSourceOf _) c.remove-own.new.self.items c.in_ok-made.made.items c.in_ok-made.ensures.shape in
    omega (arith, size, removed_length c.args.outlined c.remove-own.new.self.items c.args.default c.requires.there rest, c.requires.there)

pub returns-clause-answers : goal.returns-clause-answers
returns-clause-answers g c =
    let taken : c.remove-own.result ≡ get_or c.args.outlined c.args.default no_outlines = default_is c.into_vec-sources.result.items c.args.outlined c.args.default c.remove-own.result no_outlines c.into_vec-sources.ensures c.remove-own.ensures.value c.requires.there in
    let rest : c.remove-own.new.self.items ≡ remove c.args.outlined c.args.default = c.remove-own.ensures.items ∙ ap (λ (list : List OutlinedSource). remove list c.args.default) c.into_vec-sources.ensures in
    all_filtered c.args.names.now c.args.default c.args.outlined c.remove-own.new.self.items c.remove-own.result c.in_ok-own.own taken rest _ _ c.in_ok-made.made.items c.in_ok-own.ensures.answers (images_stay _ _ _ _ _ _ _ c.in_ok-own.ensures.same) c.in_ok-made.ensures.answers
    ∙ ap Ok (sym (c.from_vec.ensures ∙ c.in_ok-insert.ensures.items))

pub returns-clause-shape : goal.returns-clause-shape
returns-clause-shape g c =
    let taken : c.remove-own.result ≡ get_or c.args.outlined c.args.default c.remove-own.result = c.remove-own.ensures.value ∙ ap (λ (list : List OutlinedSource). get_or list c.args.default c.remove-own.result) c.into_vec-sources.ensures in
    let rest : c.remove-own.new.self.items ≡ remove c.args.outlined c.args.default = c.remove-own.ensures.items ∙ ap (λ (list : List OutlinedSource). remove list c.args.default) c.into_vec-sources.ensures in
    all_shaped _ _ c.args.outlined c.remove-own.new.self.items c.in_ok-made.made.items c.from_vec.result c.args.default c.remove-own.result c.in_ok-own.own c.requires.there taken rest
    (kinds_stay _ _ _ _ _ _ _ c.in_ok-own.ensures.same) c.in_ok-own.ensures.shape c.in_ok-made.ensures.shape (c.from_vec.ensures ∙ c.in_ok-insert.ensures.items)

pub returns-clause-touched : goal.returns-clause-touched
returns-clause-touched g c =
    let rest : c.remove-own.new.self.items ≡ remove c.args.outlined c.args.default = c.remove-own.ensures.items ∙ ap (λ (list : List OutlinedSource). remove list c.args.default) c.into_vec-sources.ensures in
    all_calls (length c.args.names.now) c.args.outlined c.remove-own.new.self.items c.args.default _ _ _ c.requires.there rest c.in_ok-own.ensures.touched c.in_ok-made.ensures.touched
