-- The arcs of a table's contour as steps round it.
use Rattle.std.specs.Prelude.{ℕ, length}
use Rattle.iup.specs.Bounds.{Reaches}
use Rattle.iup_optimal.specs.declared.table.Table.{Table}

abbrev pub Steps : Table → ℕ → ℕ → Type 0
Steps table = Reaches table.points.now table.deltas.now

-- how many points the contour has
abbrev pub count : Table → ℕ
count table = length table.points.now
