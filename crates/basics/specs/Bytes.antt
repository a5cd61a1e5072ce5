-- Runs of bytes of one class, and where something first stands in them. A class says of each byte whether it is one of it.
use Rattle.std.specs.Prelude.{ℕ, Bool, true, false, not, ◌&&◌, ◌||◌, List, [], ◌∷◌, Option, Some, None, ◌==◌, option_map, ◌+◌, if◌then◌else◌}

-- a space, tab, line feed or carriage return
abbrev pub is_blank : ℕ → Bool
is_blank byte = (byte == 32) || ((byte == 9) || ((byte == 10) || (byte == 13)))

-- the bytes of one class at the start, and what follows them
abbrev pub run_at : (ℕ → Bool) → List ℕ → List ℕ
run_at class [] = []
run_at class (b ∷ bytes) = if class b then b ∷ run_at class bytes else []

abbrev pub after_run : (ℕ → Bool) → List ℕ → List ℕ
after_run class [] = []
after_run class (b ∷ bytes) = if class b then after_run class bytes else b ∷ bytes

-- no byte of the class stands at the start
abbrev pub stops : (ℕ → Bool) → List ℕ → Bool
stops class [] = true
stops class (b ∷ bytes) = not (class b)

-- whether the mark stands at the start
abbrev pub begins : List ℕ → List ℕ → Bool
begins [] bytes = true
begins (m ∷ mark) [] = false
begins (m ∷ mark) (b ∷ bytes) = (m == b) && begins mark bytes

-- the first index from which on the bytes pass
abbrev pub first_index : (List ℕ → Bool) → List ℕ → Option ℕ
first_index test [] = None
first_index test (b ∷ bytes) = if test (b ∷ bytes) then Some 0 else option_map (λ n. n + 1) (first_index test bytes)

-- the first index of a byte
abbrev pub index_of : ℕ → List ℕ → Option ℕ
index_of byte [] = None
index_of byte (b ∷ bytes) = if b == byte then Some 0 else option_map (λ n. n + 1) (index_of byte bytes)
