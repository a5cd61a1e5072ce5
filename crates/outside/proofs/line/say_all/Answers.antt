-- One piece more is gathered, and one that fails cuts the text of all pieces short.
use Rattle.std.proofs.lemmas.Result.{err_from_is_err_and}
use Rattle.outside.specs.Piece.{piece_text}
use Rattle.outside.proofs.Gathering.{gathers_more, gathers_cut_at}
use Rattle.outside.proofs.line.say_all.Goals as goal

pub loop-piece-preserved : goal.loop-piece-preserved
loop-piece-preserved g c =
    gathers_more piece_text c.args.pieces.now c.loop-piece.piece-index _ c.loop-piece-test.true c.loop-piece.invariant
    c.in_ok-push.ensures

pub returns-in_err-push : goal.returns-in_err-push
returns-in_err-push g c =
    let failed = err_from_is_err_and c.from_residual.result c.from_residual.ensures.1 in
    rw failed.1 (gathers_cut_at c.push.new.self.text.items failed.0 piece_text c.args.pieces.now c.loop-piece.piece-index _ c.loop-piece-test.true
    c.loop-piece.invariant c.in_err-push.ensures)
