use Rattle.std.proofs.Common.{[], flat_map, take, Ok}
use Rattle.outside.specs.Gathered.{Gathers}
use Rattle.outside.specs.Piece.{piece_text}
use Rattle.outside.proofs.line.say_all.Given as goal

-- the pieces up to here are gathered, and the start of them said
abbrev pub invariant-loop-piece : goal.invariant-loop-piece
invariant-loop-piece g l =
    Gathers (g.T.Say.state l.initial.say) (g.T.Say.state l.say) []
    (flat_map piece_text (take l.piece-index l.pieces)) l.line.text.items (Ok tt)
