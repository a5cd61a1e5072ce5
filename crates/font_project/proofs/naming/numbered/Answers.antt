use Rattle.std.proofs.Common.{◌≡◌, ◌≢◌, ◌+◌, ◌==◌, ◌∷◌, ◌++◌, [], ℕ, List, All, length, take, get_or, sym, subst, ap, ◌∙◌, arith}
use Rattle.std.specs.Cmp.Lexicographic.{pointwise, same_text}
use Rattle.std.proofs.lemmas.List.{length-take-le, take_more}
use Rattle.indexmap.specs.IndexMap.{insert_entry}
use Rattle.font_model.specs.Fonts.{numbered}
use Rattle.font_project.proofs.NameNumbers.{insert_new, none_before, numbered_push}
use Rattle.font_project.proofs.naming.numbered.Goals as goal

pub loop-number-preserved : goal.loop-number-preserved
loop-number-preserved c =
    let names = c.args.names.now in
    let i = c.loop-number.number in
    let key = c.in_ok-try_copy.field-0 in
    let name : List ℕ = c.index-names-number.result in
    let copied : key ≡ get_or names i name = c.in_ok-try_copy.ensures ∙ c.index-names-number.is in
    let apart : All (λ other. other ≢ key) (take i names) = subst (λ (n : List ℕ). All (λ other. other ≢ n) (take i names)) (sym copied) (none_before names i name c.requires.once c.loop-number-test.true) in
    let count : 0 + length (take i names) ≡ i = omega (arith, length-take-le i names (omega (arith, c.loop-number-test.true))) in
    c.in_ok-insert.ensures.entries
    ∙ (ap (λ (entries : List (List ℕ × ℕ)). insert_entry (pointwise ◌==◌) entries key i) c.loop-number.invariant
    ∙ (insert_new (pointwise ◌==◌) (λ a b same. same_text a b (sym same)) (take i names) key 0 i apart
    ∙ (ap (λ (n : ℕ). numbered 0 (take i names) ++ (key, n) ∷ []) (sym count)
    ∙ (numbered_push (take i names) key 0
    ∙ ap (numbered 0) (ap (λ (n : List ℕ). take i names ++ n ∷ []) copied ∙ sym (take_more names i name c.loop-number-test.true))))))
