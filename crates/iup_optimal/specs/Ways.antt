-- The way round the contour of the fewest steps that comes first.
use Rattle.std.specs.Prelude.{◌≡◌, ℕ, ◌+◌, ◌-◌, ◌<◌, ◌≤◌, List, [], ◌∷◌, slice_index}
use Rattle.iup.specs.Bounds.{Path}

-- the fewest steps that lead round the cycle of n places
pub record IsFewest (E : ℕ → ℕ → Type 0) (n m : ℕ) : Type 0 where
  pub reached : (w : ℕ) × (w < n) × Path E w (w + n) m
  pub least : (w k : ℕ) → w < n → Path E w (w + n) k → m ≤ k

-- the first place from which so many steps lead round
pub record IsFirstMember (E : ℕ → ℕ → Type 0) (n m f : ℕ) : Type 0 where
  pub inside : f < n
  pub round : Path E f (f + n) m
  pub none_before : (w : ℕ) → w < f → Path E w (w + n) m → ⊥

-- the nearest place from which the rest of the way to the end is one step shorter; the numbers of steps that are left
-- stand by the distance from the end
pub record IsNext (E : ℕ → ℕ → Type 0) (left : List ℕ) (end x y : ℕ) : Type 0 where
  pub inside : y ≤ end
  pub edge : E x y
  pub shorter : slice_index left (end - y) + 1 ≡ slice_index left (end - x)
  pub nearest : (z : ℕ) → z < y → E x z → slice_index left (end - z) + 1 ≡ slice_index left (end - x) → ⊥

-- the places of such steps from one on, up to the end
abbrev pub Walks : (ℕ → ℕ → Type 0) → List ℕ → ℕ → ℕ → List ℕ → Type 0
Walks E left end x [] = x ≡ end
Walks E left end x (z ∷ zs) = (z ≡ x) × (x < end) × ((y : ℕ) × IsNext E left end x y × Walks E left end y zs)
