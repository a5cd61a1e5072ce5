-- What a table of scalars holds: one row a master, with a scalar for each master before it.
use Rattle.std.specs.Prelude.{◌≡◌, ℕ, ℤ, pos, ◌<◌, ◌≤◌, ◌≤ℤ◌, List, [], length, All, slice_index_or}

-- a scalar in 65536ths: 0 to 1
pub record IsScalar (scalar : ℤ) : Type 0 where
  pub low : pos 0 ≤ℤ scalar
  pub high : scalar ≤ℤ pos 65536

-- so many scalars
pub record IsRow (masters : ℕ) (row : List ℤ) : Type 0 where
  pub one_each : length row ≡ masters
  pub scalars : All IsScalar row

-- the row of each master has as many scalars as masters come before it
abbrev pub AreRows : List (List ℤ) → Type 0
AreRows rows = (master : ℕ) → master < length rows → IsRow master (slice_index_or rows master [])

-- the rows of at most 128 masters
pub record IsTable (rows : List (List ℤ)) : Type 0 where
  pub few : length rows ≤ 128
  pub rows_are : AreRows rows
