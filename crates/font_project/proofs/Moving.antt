-- Outlines that are moved out of their sources.
use Rattle.std.proofs.Common.{◌≡◌, ℕ, ◌<◌, ◌≤◌, List, length, get_or}
use Rattle.glif.specs.declared.shape.Outline.{Outline}
use Rattle.font_project.specs.Columns.{no_outlines}
use Rattle.font_project.specs.declared.outlined.OutlinedSource.{OutlinedSource}

abbrev pub outlines_of : List OutlinedSource → ℕ → List Outline
outlines_of sources number = (get_or sources number no_outlines).outlines

-- the sources whose numbers come from this place on have their outlines still
abbrev pub AreLeft : List OutlinedSource → List OutlinedSource → List ℕ → ℕ → Type 0
AreLeft old new order i = (k : ℕ) → i ≤ k → k < length order → outlines_of new (get_or order k 0) ≡ outlines_of old (get_or order k 0)
