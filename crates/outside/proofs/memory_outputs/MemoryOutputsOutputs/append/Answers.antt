-- A chosen call adds what fits of the first half of its piece.
use Rattle.std.proofs.Common.{arith}
use Rattle.std.proofs.lemmas.Grind.{common_steps}
use Rattle.outside.specs.MemoryOutputs.{files_of, room_of, begun_of}
use Rattle.outside.specs.Stored.{fitting_at, first_half}
use Rattle.outside.proofs.Cut.{IsPrefix-half_at}
use Rattle.outside.proofs.memory_outputs.MemoryOutputsOutputs.append.Goals as goal

pub returns-then-next_fails-clause-err : goal.returns-then-next_fails-clause-err
returns-then-next_fails-clause-err c =
    let old = c.args.self.now in
    let piece = c.args.bytes.now in
    let prefix = fitting_at (room_of old) (files_of old) (begun_of old) (first_half piece) in
    (prefix, IsPrefix-half_at (room_of old) (files_of old) (begun_of old) piece, grind (arith, common_steps))
