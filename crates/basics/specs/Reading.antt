-- The value of a source or its first fault, and what it means that a call gives it.
-- A is a value, F a fault, and S the stop of a call, which may also be want of memory.
use Rattle.std.specs.Prelude.{◌≡◌, ℕ, ◌+◌, ℤ, pos, List, [], ◌∷◌, ◌++◌, Result, Ok, Err}
use Rattle.basics.specs.declared.kinds.Kind.{Kind}
use Rattle.basics.specs.declared.fault.Spot.{Spot}
use Rattle.basics.specs.declared.fault.Stop.{Stop}
use Rattle.basics.specs.declared.fault.Stop.TheVariants.{At, NoMemory}

-- the first fault, or what the second step makes of the first one's value
infixl 10 ◌>>=◌
abbrev pub ◌>>=◌ : {A B F : Type 0} → Result A F → (A → Result B F) → Result B F
(Ok x) >>= f = f x
(Err e) >>= f = Err e

-- what each of a list gives, in order, or the first fault
abbrev pub each : {A B F : Type 0} → (A → Result B F) → List A → Result (List B) F
each f [] = Ok []
each f (t ∷ ts) = f t >>= λ x. each f ts >>= λ xs. Ok (x ∷ xs)

-- what each of a list gives with its number, counted on from one, in order, or the first fault
abbrev pub each_numbered : {A B F : Type 0} → (ℕ → A → Result B F) → ℕ → List A → Result (List B) F
each_numbered f i [] = Ok []
each_numbered f i (t ∷ ts) = f i t >>= λ x. each_numbered f (i + 1) ts >>= λ xs. Ok (x ∷ xs)

-- each of a list passes the test with its number, in order, or the first fault
abbrev pub all_pass : {A F : Type 0} → (ℕ → A → Result (Unit {0}) F) → ℕ → List A → Result (Unit {0}) F
all_pass test i [] = Ok tt
all_pass test i (t ∷ ts) = test i t >>= λ _. all_pass test (i + 1) ts

-- a state that each of a list changes, in order, or the first fault
abbrev pub in_turn : {A S F : Type 0} → (S → A → Result S F) → S → List A → Result S F
in_turn step state [] = Ok state
in_turn step state (t ∷ ts) = step state t >>= λ next. in_turn step next ts

-- what is read already, before what is still to be read
abbrev pub with_prefix : {A F : Type 0} → List A → Result (List A) F → Result (List A) F
with_prefix prefix read = read >>= λ xs. Ok (prefix ++ xs)

-- a call answered the value that reading gives, seen by view, or a stop that fits the reading
abbrev pub GivesBy : {X Y S F : Type 0} → (S → Result Y F → Type 0) → (X → Y) → Result X S → Result Y F → Type 0
GivesBy fails view (Ok x) reading = reading ≡ Ok (view x)
GivesBy fails view (Err e) reading = fails e reading

-- want of memory is free, and a fault is the one of the reading
abbrev pub Fails : {Y : Type 0} → Stop → Result Y Spot → Type 0
Fails NoMemory reading = Unit {0}
Fails (At spot) reading = reading ≡ Err spot

-- a call that answers a Stop gives this reading
abbrev pub Gives : {X Y : Type 0} → (X → Y) → Result X Stop → Result Y Spot → Type 0
Gives view result reading = GivesBy Fails view result reading

-- a fault with an item, an offset and a value; the other fields are 0
abbrev pub spot_of : Kind → List ℕ → ℕ → ℤ → Spot
spot_of kind item at first = record { kind = kind; item = item; at = at; also = 0; first = first; second = pos 0 }

-- a stop at this fault, or for want of memory
abbrev pub IsStop : Stop → Spot → Type 0
IsStop NoMemory spot = Unit {0}
IsStop (At found) spot = found ≡ spot
