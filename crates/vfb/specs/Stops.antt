-- Which path a read fault of a command's drawings names.
use Rattle.std.specs.Prelude.{◌≡◌, ℕ, ◌⊎◌, List, [], ◌∷◌, IsOk}
use Rattle.outside.specs.Files.{Files}
use Rattle.commands.specs.Command.{Located}
use Rattle.vfb.specs.Faults.{drawing_at}

-- The path is that of one of these drawings, and where the sources tell their files, every earlier one's file is a
-- drawing.
abbrev pub StopsAt : Type 0 → Files → List Located → List ℕ → Type 0
StopsAt told files [] path = ⊥
StopsAt told files (located ∷ later) path =
    (path ≡ located.path) ⊎ ((told → IsOk (drawing_at files located)) × StopsAt told files later path)
