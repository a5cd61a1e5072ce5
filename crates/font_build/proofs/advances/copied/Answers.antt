use Rattle.std.proofs.Common.{◌≡◌, ◌<◌, [], ◌∷◌, ◌++◌, length, take, sym, ap, ◌∙◌, arith}
use Rattle.std.proofs.lemmas.List.Elements.{same_from_all_zip}
use Rattle.font_build.proofs.ListLemmas.{taken}
use Rattle.font_build.proofs.advances.copied.Goals as goal

pub loop-support-preserved : goal.loop-support-preserved
loop-support-preserved c =
    let supports = c.args.supports.now in
    let i = c.loop-support.support-index in
    let support = c.support-item.result in
    let own = c.in_ok-own.own in
    let items : own.items ≡ support.items = same_from_all_zip _ _ _ c.in_ok-own.ensures.cases (λ x y same. same) in
    let same : own ≡ support = λ k. record { items = items k } in
    let here : i < length supports = omega arith in
    c.in_ok-push.ensures.ok ∙ ap (λ copy. copy ++ own ∷ []) c.loop-support.invariant ∙ ap (λ one. take i supports ++ one ∷ []) same ∙ sym (taken supports i support here c.support-item.is)
