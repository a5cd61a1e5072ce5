-- A piece that doesn't fit is cut to the prefix that does.
use Rattle.outside.specs.Stored.{fitting_at}
use Rattle.outside.specs.SureOutputs.{files_of, room_of, begun_of}
use Rattle.outside.proofs.Cut.{IsPrefix-fitting_at}
use Rattle.outside.proofs.sure_outputs.SureOutputsOutputs.append.Goals as goal

pub returns-clause-err : goal.returns-clause-err
returns-clause-err c =
    let old = c.args.self.now in
    let piece = c.args.bytes.now in
    (fitting_at (room_of old) (files_of old) (begun_of old) piece, IsPrefix-fitting_at (room_of old) (files_of old) (begun_of old) piece, c.add.ensures.added)
