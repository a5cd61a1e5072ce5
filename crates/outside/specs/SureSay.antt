-- What a bounded text in memory shows.
use Rattle.std.specs.Prelude.{ℕ, List}
use Rattle.outside.specs.declared.sure_say.SureSay.{SureSay}

-- all that was said
abbrev pub said_of : SureSay → List ℕ
said_of say = say.room.bytes

-- the most bytes that may be said
abbrev pub room_of : SureSay → ℕ
room_of say = say.room.size

-- the count of faults
abbrev pub faults_of : SureSay → ℕ
faults_of say = say.faults
