-- A text that doesn't fit is cut to the prefix that does.
use Rattle.std.proofs.Common.{ap}
use Rattle.outside.specs.Stored.{fitting}
use Rattle.outside.proofs.Cut.{IsPrefix-fitting}
use Rattle.outside.proofs.sure_say.SureSaySay.say.Goals as goal

pub returns-clause-err : goal.returns-clause-err
returns-clause-err c =
    let room = c.args.self.now.room in
    let piece = c.args.bytes.now in
    (fitting room.size room.bytes piece, IsPrefix-fitting room.size room.bytes piece, ap (λ stored. stored.bytes) c.add.ensures.added)
