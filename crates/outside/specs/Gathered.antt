-- What a call makes of a text that is gathered before it is said.
use Rattle.std.specs.Prelude.{◌≡◌, List, ℕ, ◌++◌, Result, Ok, Err}
use Rattle.outside.specs.Said.{Says}
use Rattle.outside.specs.States.{SayState}
use Rattle.outside.specs.declared.traits.Failed.{Failed}

-- A text follows what was held: the start of both is said, and the rest is held then. At an error both are cut short.
abbrev pub Gathers : SayState → SayState → List ℕ → List ℕ → List ℕ → Result (Unit {0}) Failed → Type 0
Gathers old new held text held' (Ok done) = (said : List ℕ) × Says {E = Failed} old new said (Ok done) × (said ++ held' ≡ held ++ text)
Gathers old new held text held' (Err failed) = Says {V = Unit {0}} old new (held ++ text) (Err failed)
