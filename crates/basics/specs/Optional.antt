-- A reading that gives a value or nothing, and what it means that a call agrees with it.
use Rattle.std.specs.Prelude.{◌≡◌, List, [], ◌∷◌, ◌++◌, Option, Some, None}

-- nothing, or what the second step makes of the first one's value
infixl 10 ◌>>=◌
abbrev pub ◌>>=◌ : {A B : Type 0} → Option A → (A → Option B) → Option B
(Some x) >>= f = f x
None >>= f = None

-- what each of a list gives, in order, or nothing where one gives nothing
abbrev pub each : {A B : Type 0} → (A → Option B) → List A → Option (List B)
each f [] = Some []
each f (x ∷ xs) = f x >>= λ y. each f xs >>= λ ys. Some (y ∷ ys)

-- what is read already, before what is still to be read
abbrev pub with_prefix : {A : Type 0} → List A → Option (List A) → Option (List A)
with_prefix prefix read = read >>= λ xs. Some (prefix ++ xs)

-- a call agrees with the reading: it found the same, seen by view, or nothing as well
abbrev pub Agrees : {X Y : Type 0} → (X → Y) → Option X → Option Y → Type 0
Agrees view (Some x) reading = reading ≡ Some (view x)
Agrees view None reading = reading ≡ None
