use Rattle.std.proofs.Common.{◌≡◌, ◌<◌, ◌∙◌, ◌≤◌, sym, ap, length, rules, arith}
use Rattle.std.proofs.lemmas.Result.{err_from_is_err_and}
use Rattle.markup_rules.specs.Outcome.{initial, outcome}
use Rattle.markup_rules.proofs.Steps.{rest_from, rest_begins, rest_done}
use Rattle.markup.proofs.Loops.{goes_on, fails_so, is_shorter, ended_with, unended}
use Rattle.markup.proofs.Taking.{fails_with}
use Rattle.markup.proofs.reader.read_part.Goals as goal

pub loop-rest-init : goal.loop-rest-init
loop-rest-init g c = (
  c.after_mark-rest.ensures.within,
  (initial, ap (rest_from (length c.args.text.now) initial) c.after_mark-rest.ensures.value ∙ rest_begins c.args.text.now, (sym c.new-place.ensures, (tt, c.requires))),
)

pub loop-rest-preserved : goal.loop-rest-preserved
loop-rest-preserved g c =
    let before = c.loop-rest.rest.now in
    let after = c.in_ok-rest.rest.now in
    let some : 0 < length before = search rules in
    let total = length c.args.text.now in
    let at = c.loop-rest.invariant.1 in
    let step = c.in_ok-rest.ensures at.0 at.2 in
    let shorter = is_shorter before after some step.1.1 in
    let left : length after ≤ total = omega (arith, shorter, c.loop-rest.invariant.0) in
    (left, (step.0, goes_on total at.0 step.0 before after (outcome c.args.text.now) some step.1 at.1, step.2))

pub loop-rest-smaller : goal.loop-rest-smaller
loop-rest-smaller g c =
    let some : 0 < length c.loop-rest.rest.now = search rules in
    let at = c.loop-rest.invariant.1 in
    let step = c.in_ok-rest.ensures at.0 at.2 in
    is_shorter c.loop-rest.rest.now c.in_ok-rest.rest.now some step.1.1

pub returns-in_err-rest : goal.returns-in_err-rest
returns-in_err-rest g c =
    let some : 0 < length c.loop-rest.rest.now = search rules in
    let at = c.loop-rest.invariant.1 in
    let p = err_from_is_err_and c.from_residual.result c.from_residual.ensures.1 in
    rw (p.1, p.2) (fails_so (length c.args.text.now) at.0 c.loop-rest.rest.now (outcome c.args.text.now) _ some (c.in_err-rest.ensures at.0 at.2) at.1)

pub returns-then-is_rooted : goal.returns-then-is_rooted
returns-then-is_rooted g c =
    let none : length c.loop-rest.rest.now ≡ 0 = search rules in
    let total = length c.args.text.now in
    let at = c.loop-rest.invariant.1 in
    ended_with g.P.Part.Keeps c.loop-rest.part total at.0 _ (outcome c.args.text.now) at.2 (sym c.is_rooted.ensures ∙ c.if-is_rooted.true)
    (sym (rest_done total at.0 c.loop-rest.rest.now none) ∙ at.1)

pub returns : goal.returns
returns g c =
    let none : length c.loop-rest.rest.now ≡ 0 = search rules in
    let total = length c.args.text.now in
    let at = c.loop-rest.invariant.1 in
    fails_with c.stop.result _ _ c.stop.ensures
    (unended total at.0 _ (outcome c.args.text.now) at.2.0 (sym c.is_rooted.ensures ∙ c.if-is_rooted.false) (sym (rest_done total at.0 c.loop-rest.rest.now none) ∙ at.1))
