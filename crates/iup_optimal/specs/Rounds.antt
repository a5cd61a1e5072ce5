-- The shortest ways round the contour, and the first point that they pass.
use Rattle.std.specs.Prelude.{◌≡◌, ℕ, ◌+◌, ◌<◌, ◌≤◌, ◌⊎◌, List, length}
use Rattle.fixpoint.specs.declared.plane.Pair.{Pair}
use Rattle.iup.specs.Bounds.{Path, Reaches, IsStartPoint}
use Rattle.iup_optimal.specs.declared.rounds.Rounds.{Rounds}
use Rattle.iup_optimal.specs.Ways.{IsFewest, IsFirstMember}

-- a way of m steps round the cycle of n places from s passes the place w, in its first round or the next
pub record Passes (E : ℕ → ℕ → Type 0) (n s m w : ℕ) : Type 0 where
  pub place : ℕ
  pub here : (place ≡ w) ⊎ (place ≡ w + n)
  pub before : ℕ
  pub after : ℕ
  pub total : before + after ≡ m
  pub first : Path E s place before
  pub rest : Path E place (s + n) after

-- no way round from s has fewer steps, and none of as many passes a point before the first
pub record Bounded (E : ℕ → ℕ → Type 0) (n s : ℕ) (rounds : Rounds) : Type 0 where
  pub least : (k : ℕ) → Path E s (s + n) k → rounds.size ≤ k
  pub none_before : (w : ℕ) → w < rounds.first → Passes E n s rounds.size w → ⊥

-- some way round from the first point has as many steps
pub record IsRound (E : ℕ → ℕ → Type 0) (n : ℕ) (rounds : Rounds) : Type 0 where
  pub inside : rounds.first < n
  pub round : Path E rounds.first (rounds.first + n) rounds.size

pub record AreRounds (E : ℕ → ℕ → Type 0) (n s : ℕ) (rounds : Rounds) : Type 0 where
  pub is_round : IsRound E n rounds
  pub bounded : Bounded E n s rounds

-- fewer steps, or as many and a first point that isn't later
abbrev pub Precedes : Rounds → Rounds → Type 0
Precedes one other = (one.size < other.size) ⊎ ((one.size ≡ other.size) × (one.first ≤ other.first))

-- Those of the starts of the pivot so far, and of the pivot itself.
pub record AreBestTo (points deltas : List Pair) (p s : ℕ) (rounds : Rounds) : Type 0 where
  pub is_round : IsRound (Reaches points deltas) (length points) rounds
  pub bounded : (x : ℕ) → (x < s) ⊎ (x ≡ p) → IsStartPoint points deltas p x → Bounded (Reaches points deltas) (length points) x rounds

-- the fewest steps round the cycle, and the first place from which so many lead round
pub record AreBest (E : ℕ → ℕ → Type 0) (n : ℕ) (rounds : Rounds) : Type 0 where
  pub fewest : IsFewest E n rounds.size
  pub first : IsFirstMember E n rounds.size rounds.first
