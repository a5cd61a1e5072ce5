-- A piece that is cut short leaves a prefix of itself.
use Rattle.std.proofs.Common.{ℕ, ◌-◌, ◌/◌, List, length, Option, Some, None}
use Rattle.outside.specs.Files.{Files, content, IsPrefix}
use Rattle.outside.specs.Stored.{fitting, fitting_in, fitting_at, first_half}
use Rattle.outside.proofs.Puts.{IsPrefix-empty, IsPrefix-take, IsPrefix-trans}

-- what fits of a piece is a prefix of it
pub IsPrefix-fitting : (size : ℕ) (held piece : List ℕ) → IsPrefix (fitting size held piece) piece
IsPrefix-fitting size held piece = IsPrefix-take (size - length held) piece

-- what fits of the first half of a piece is a prefix of the piece
pub IsPrefix-half : (size : ℕ) (held piece : List ℕ) → IsPrefix (fitting size held (first_half piece)) piece
IsPrefix-half size held piece =
    IsPrefix-trans _ _ _ (IsPrefix-fitting size held (first_half piece)) (IsPrefix-take (length piece / 2) piece)

pub IsPrefix-fitting_in : (room : Option ℕ) (held piece : List ℕ) → IsPrefix (fitting_in room held piece) piece
IsPrefix-fitting_in None held piece = IsPrefix-empty piece
IsPrefix-fitting_in (Some size) held piece = IsPrefix-fitting size held piece

pub IsPrefix-fitting_at : (room : List ℕ → Option ℕ) (files : Files) (begun : Option (List ℕ)) (piece : List ℕ) →
    IsPrefix (fitting_at room files begun piece) piece
IsPrefix-fitting_at room files None piece = IsPrefix-empty piece
IsPrefix-fitting_at room files (Some path) piece = IsPrefix-fitting_in (room path) (content files path) piece

-- what fits of the first half of a piece at the path that is begun is a prefix of the piece
pub IsPrefix-half_at : (room : List ℕ → Option ℕ) (files : Files) (begun : Option (List ℕ)) (piece : List ℕ) →
    IsPrefix (fitting_at room files begun (first_half piece)) piece
IsPrefix-half_at room files begun piece =
    IsPrefix-trans _ _ _ (IsPrefix-fitting_at room files begun (first_half piece)) (IsPrefix-take (length piece / 2) piece)
