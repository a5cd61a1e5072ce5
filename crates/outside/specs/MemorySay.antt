-- What a bounded text in memory shows of which some calls fail.
use Rattle.std.specs.Prelude.{ℕ, List}
use Rattle.outside.specs.SureSay as sure
use Rattle.outside.specs.declared.memory_say.MemorySay.{MemorySay}

-- all that was said
abbrev pub said_of : MemorySay → List ℕ
said_of say = sure.said_of say.inner

-- the most bytes that may be said
abbrev pub room_of : MemorySay → ℕ
room_of say = sure.room_of say.inner

-- the numbers of the calls that fail
abbrev pub failing_of : MemorySay → List ℕ
failing_of say = say.failures.failing

-- the number of the next call
abbrev pub next_of : MemorySay → ℕ
next_of say = say.failures.next

-- the count of faults
abbrev pub faults_of : MemorySay → ℕ
faults_of say = sure.faults_of say.inner
