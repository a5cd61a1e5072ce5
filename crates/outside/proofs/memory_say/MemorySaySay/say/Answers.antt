-- A chosen call adds what fits of the first half of its text.
use Rattle.std.proofs.Common.{arith}
use Rattle.std.proofs.lemmas.Grind.{common_steps}
use Rattle.outside.specs.Stored.{fitting, first_half}
use Rattle.outside.proofs.Cut.{IsPrefix-half}
use Rattle.outside.proofs.memory_say.MemorySaySay.say.Goals as goal

pub returns-then-next_fails-clause-err : goal.returns-then-next_fails-clause-err
returns-then-next_fails-clause-err c =
    let room = c.args.self.now.inner.room in
    let piece = c.args.bytes.now in
    (fitting room.size room.bytes (first_half piece), IsPrefix-half room.size room.bytes piece, grind (arith, common_steps))
