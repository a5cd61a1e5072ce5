-- How the cuts of an axis are counted: by a mark for each value above the least.
use Rattle.std.specs.Prelude.{ℤ, pos, ◌+ℤ◌, Bool, ◌||◌, List, [], ◌∷◌}

-- the marks of the values after this one, with those that pass the test marked too
abbrev pub marked_by : (ℤ → Bool) → ℤ → List Bool → List Bool
marked_by test from [] = []
marked_by test from (mark ∷ marks) = (mark || test (from +ℤ pos 1)) ∷ marked_by test (from +ℤ pos 1) marks
