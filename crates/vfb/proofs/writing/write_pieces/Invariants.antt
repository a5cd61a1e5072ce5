use Rattle.std.proofs.Common.{map, take}
use Rattle.std.specs.List.{concat}
use Rattle.vfb.specs.Writing.{Holds}
use Rattle.vfb.proofs.writing.write_pieces.Given as goal

abbrev pub invariant-loop-piece : goal.invariant-loop-piece
invariant-loop-piece g l =
    Holds (g.O.Outputs.state l.fn.outputs) (g.O.Outputs.state l.outputs) l.path (concat (map (λ piece. piece.items) (take l.piece-index l.pieces)))
