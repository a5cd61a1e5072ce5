use Rattle.std.proofs.Common.{◌≡◌, ◌∙◌, sym, ap, false, length, rules}
use Rattle.markup_rules.specs.Reading.{is_nil}
use Rattle.markup_rules.proofs.Contents.{content_step, content_none, content_done, content_shorter, content_after, some_left}
use Rattle.markup.specs.Views.{piece_bytes, text_bytes}
use Rattle.markup.proofs.content.content_by_pieces.Goals as goal

pub returns-in_default : goal.returns-in_default
returns-in_default c =
    let some : is_nil c.loop-rest.rest.now ≡ false = some_left c.loop-rest.rest.now (search rules) in
    sym c.loop-rest.invariant ∙ content_none (text_bytes c.loop-rest.text) c.loop-rest.rest.now some c.in_default.ensures

pub loop-rest-smaller : goal.loop-rest-smaller
loop-rest-smaller c = content_shorter c.loop-rest.rest.now (piece_bytes c.in-Some.piece) c.in-Some.after.now c.in-Some.ensures

pub loop-rest-preserved : goal.loop-rest-preserved
loop-rest-preserved c =
    let some : is_nil c.loop-rest.rest.now ≡ false = some_left c.loop-rest.rest.now (search rules) in
    ap (λ text. content_after text c.in-Some.after.now) c.in_ok-push_piece.ensures ∙
    (content_step (text_bytes c.loop-rest.text) c.loop-rest.rest.now (piece_bytes c.in-Some.piece) c.in-Some.after.now some c.in-Some.ensures ∙ c.loop-rest.invariant)

pub returns : goal.returns
returns c =
    let none : length c.loop-rest.rest.now ≡ 0 = search rules in
    sym c.loop-rest.invariant ∙ content_done (text_bytes c.loop-rest.text) c.loop-rest.rest.now none
