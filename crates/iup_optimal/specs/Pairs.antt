-- Ways of two steps round a cycle of n places.
use Rattle.std.specs.Prelude.{◌≡◌, ℕ, ◌+◌, ◌<◌, ◌≤◌, ◌⊎◌}

pub record IsPair (E : ℕ → ℕ → Type 0) (n w v : ℕ) : Type 0 where
  pub order : w < v
  pub inside : v < n
  pub first : E w v
  pub second : E v (w + n)

-- the nearest second place
pub record IsNearestPair (E : ℕ → ℕ → Type 0) (n w v : ℕ) : Type 0 where
  pub pair : IsPair E n w v
  pub nearest : (y : ℕ) → IsPair E n w y → v ≤ y

-- the first way of two steps in lexicographic order
pub record IsFirstPair (E : ℕ → ℕ → Type 0) (n w v : ℕ) : Type 0 where
  pub pair : IsPair E n w v
  pub first : (x y : ℕ) → IsPair E n x y → (w < x) ⊎ ((w ≡ x) × (v ≤ y))
