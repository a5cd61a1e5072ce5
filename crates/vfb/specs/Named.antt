-- One of a list that is taken out of it.
use Rattle.std.specs.Prelude.{Bool, List, [], ◌∷◌, if◌then◌else◌}

-- the others, where the first that passes the test is taken out
abbrev pub without : {A : Type 0} → (A → Bool) → List A → List A
without test [] = []
without test (x ∷ xs) = if test x then xs else x ∷ without test xs
