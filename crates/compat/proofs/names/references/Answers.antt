use Rattle.std.proofs.Common.{◌≡◌, map, take, ◌++◌, ◌∷◌, [], sym, ap, ◌∙◌, Some}
use Rattle.std.specs.Option.{option_map}
use Rattle.compat.specs.Names.{number_in, number_of, base_numbers, dangling_in, dangling_refusal, first_dangling}
use Rattle.std.proofs.lemmas.Result.{err_from_is_err_and}
use Rattle.compat.proofs.Named.{same_numbers, refused_here, dangling_later, references_more}
use Rattle.compat.proofs.Stopping.{stops_too}
use Rattle.compat.proofs.names.references.Goals as goal

pub returns-in_err-bases : goal.returns-in_err-bases
returns-in_err-bases c =
    let p = err_from_is_err_and c.from_residual-in_err-bases.result c.from_residual-in_err-bases.ensures.1 in
    let same = same_numbers (number_in c.in_ok-numbers.numbers) (number_of c.args.drawings.now) c.in_ok-numbers.ensures in
    let drawing = c.index-drawings-number.result in
    let number = c.loop-number.number in
    rw (p.1, p.2) (stops_too (λ refusal. option_map (dangling_refusal number) (dangling_in (number_in c.in_ok-numbers.numbers) drawing) ≡ Some refusal) (λ refusal. first_dangling c.args.drawings.now ≡ Some refusal) c.in_err-bases.field-0.0
    (λ refusal some. sym c.loop-number.invariant.1
    ∙ refused_here (number_of c.args.drawings.now) c.args.drawings.now number drawing refusal (dangling_in (number_in c.in_ok-numbers.numbers) drawing) c.loop-number-test.true c.index-drawings-number.is
    (ap (λ f. dangling_in f drawing) (sym same)) some)
    c.in_err-bases.ensures)

pub loop-number-preserved : goal.loop-number-preserved
loop-number-preserved c =
    let same = same_numbers (number_in c.in_ok-numbers.numbers) (number_of c.args.drawings.now) c.in_ok-numbers.ensures in
    let found = c.in_ok-bases.ensures in
    let push = c.in_ok-push.ensures in (
      push.items
          ∙ ap (λ g. g ++ c.in_ok-bases.bases ∷ []) c.loop-number.invariant.0
          ∙ ap (λ b. map (base_numbers (number_of c.args.drawings.now)) (take c.loop-number.number c.args.drawings.now) ++ b ∷ []) (found.0 ∙ ap (λ f. base_numbers f c.index-drawings-number.result) same)
          ∙ sym (references_more (number_of c.args.drawings.now) c.args.drawings.now c.loop-number.number c.index-drawings-number.result c.loop-number-test.true c.index-drawings-number.is),
      sym (dangling_later (number_of c.args.drawings.now) c.args.drawings.now c.loop-number.number c.index-drawings-number.result c.loop-number-test.true c.index-drawings-number.is
          (ap (λ f. dangling_in f c.index-drawings-number.result) (sym same) ∙ found.1))
          ∙ c.loop-number.invariant.1,
    )
