-- Ways of steps round a cycle that is rolled out.
use Rattle.std.proofs.Common.{◌≡◌, ℕ, zero, suc, ◌+◌, ◌-◌, ◌<◌, ◌≤◌, List, [], ◌∷◌, length, refl, sym, ap, subst, ⊎_elim, arith}
use Rattle.std.proofs.lemmas.Bool.{cases_lt}
use Rattle.iup.specs.Bounds.{Path, IsCyclic}

-- two ways, one after the other
pub path_join : (E : ℕ → ℕ → Type 0) (a b c i j k : ℕ) → i + j ≡ k → Path E a b i → Path E b c j → Path E a c k
path_join E a b c zero j k total first later =
    let steps : j ≡ k = omega arith in
    subst (λ m. Path E a c m) steps (subst (λ x. Path E x c j) (sym first) later)
path_join E a b c (suc i) j zero total first later = absurd (omega arith)
path_join E a b c (suc i) j (suc k) total first later =
    (first.0, first.1, path_join E first.0 b c i j k (omega arith) first.2 later)

-- one step alone, and one more at the end
pub path_step : (E : ℕ → ℕ → Type 0) (a b : ℕ) → E a b → Path E a b (suc zero)
path_step E a b edge = (b, edge, refl)

pub path_more : (E : ℕ → ℕ → Type 0) (a b c k : ℕ) → Path E a b k → E b c → Path E a c (suc k)
path_more E a b c k path edge = path_join E a b c k (suc zero) (suc k) (omega arith) path (path_step E b c edge)

-- the last step of a way
pub path_last : (E : ℕ → ℕ → Type 0) (a b k : ℕ) → Path E a b (suc k) → (c : ℕ) × Path E a c k × E c b
path_last E a b zero path = (a, refl, subst (λ x. E a x) path.2 path.1)
path_last E a b (suc k) path =
    let later = path_last E path.0 b k path.2 in
    (later.0, (path.0, path.1, later.1), later.2)

-- a way between places that are told otherwise
pub path_at : (E : ℕ → ℕ → Type 0) (a b c d k : ℕ) → a ≡ c → b ≡ d → Path E a b k → Path E c d k
path_at E a b c d k first second path = subst (λ x. Path E c x k) second (subst (λ x. Path E x b k) first path)

-- a way leads ahead, by one step at least where it has one
pub path_ahead : (E : ℕ → ℕ → Type 0) (n : ℕ) → IsCyclic E n → (a b k : ℕ) → Path E a b k → a + k ≤ b
path_ahead E n cyclic a b zero path = omega (arith, path)
path_ahead E n cyclic a b (suc k) path =
    omega (arith, cyclic.ahead a path.0 path.1, path_ahead E n cyclic path.0 b k path.2)

-- a way one round on, and back
pub path_up : (E : ℕ → ℕ → Type 0) (n : ℕ) → IsCyclic E n → (a b k : ℕ) → Path E a b k → Path E (a + n) (b + n) k
path_up E n cyclic a b zero path = ap (λ x. x + n) path
path_up E n cyclic a b (suc k) path =
    (path.0 + n, cyclic.up a path.0 path.1, path_up E n cyclic path.0 b k path.2)

pub path_down : (E : ℕ → ℕ → Type 0) (n : ℕ) → IsCyclic E n → (a b k : ℕ) → Path E (a + n) (b + n) k → Path E a b k
path_down E n cyclic a b zero path = omega (arith, path)
path_down E n cyclic a b (suc k) path =
    let ahead = cyclic.ahead (a + n) path.0 path.1 in
    let round : path.0 ≡ path.0 - n + n = omega arith in (
      path.0 - n,
      cyclic.down a (path.0 - n) (subst (λ x. E (a + n) x) round path.1),
      path_down E n cyclic (path.0 - n) b k (subst (λ x. Path E x (b + n) k) round path.2),
    )

-- a step of a way that leads over a place, or begins there
pub record Meets (E : ℕ → ℕ → Type 0) (a b k q : ℕ) : Type 0 where
  pub from : ℕ
  pub to : ℕ
  pub before : ℕ
  pub after : ℕ
  pub total : before + suc after ≡ k
  pub low : from ≤ q
  pub high : q < to
  pub first : Path E a from before
  pub edge : E from to
  pub later : Path E to b after

pub path_meets : (E : ℕ → ℕ → Type 0) (a b k q : ℕ) → a ≤ q → q < b → Path E a b k → Meets E a b k q
path_meets E a b zero q low high path = absurd (omega (arith, path))
path_meets E a b (suc k) q low high path =
    ⊎_elim
    (λ (over : q < path.0). record {
      from = a;
      to = path.0;
      before = zero;
      after = k;
      total = omega arith;
      low = low;
      high = over;
      first = refl;
      edge = path.1;
      later = path.2;
    })
    (λ (not_over : path.0 ≤ q).
    let met = path_meets E path.0 b k q not_over high path.2 in
    record {
      from = met.from;
      to = met.to;
      before = suc met.before;
      after = met.after;
      total = omega (arith, met.total);
      low = met.low;
      high = met.high;
      first = (path.0, path.1, met.first);
      edge = met.edge;
      later = met.later;
    })
    (cases_lt q path.0)

-- a way round the cycle of as many steps, from where one of its steps leads over a place or begins there
pub record Turned (E : ℕ → ℕ → Type 0) (n k q : ℕ) : Type 0 where
  pub from : ℕ
  pub to : ℕ
  pub low : from ≤ q
  pub high : q < to
  pub edge : E from to
  pub round : Path E from (from + n) k

pub path_turns : (E : ℕ → ℕ → Type 0) (n : ℕ) → IsCyclic E n → (a k q : ℕ) → a ≤ q → q < a + n → Path E a (a + n) k → Turned E n k q
path_turns E n cyclic a k q low high path =
    let met = path_meets E a (a + n) k q low high path in
    record {
      from = met.from;
      to = met.to;
      low = met.low;
      high = met.high;
      edge = met.edge;
      round = path_join E met.from (a + n) (met.from + n) (suc met.after) met.before k (omega (arith, met.total))
          (met.to, met.edge, met.later)
          (path_up E n cyclic a met.from met.before met.first);
    }

-- a list of places each of which is a step from the one before, and the end from the last
abbrev pub Round : (ℕ → ℕ → Type 0) → ℕ → List ℕ → ℕ → Type 0
Round E a [] end = E a end
Round E a (x ∷ xs) end = E a x × Round E x xs end

pub path_from_round : (E : ℕ → ℕ → Type 0) (a : ℕ) (xs : List ℕ) (end : ℕ) → Round E a xs end → Path E a end (suc (length xs))
path_from_round E a [] end round = path_step E a end round
path_from_round E a (x ∷ xs) end round = (x, round.0, path_from_round E x xs end round.1)

-- numbers that no step raises by more than 1 are at most the numbers of steps
pub row_bounds : (E : ℕ → ℕ → Type 0) (n : ℕ) → IsCyclic E n → (s : ℕ) (row : ℕ → ℕ) → row 0 ≡ 0 → ((a b : ℕ) → a < b → b ≤ n → E (s + a) (s + b) → row b ≤ row a + 1) → (b k : ℕ) → b ≤ n → Path E s (s + b) k → row b ≤ k
row_bounds E n cyclic s row zero_first steps b zero inside path =
    let here : b ≡ 0 = omega (arith, path) in
    omega (arith, zero_first, ap row here)
row_bounds E n cyclic s row zero_first steps b (suc k) inside path =
    let last = path_last E s (s + b) k path in
    let ahead = path_ahead E n cyclic s last.0 k last.1 in
    let before = cyclic.ahead last.0 (s + b) last.2 in
    let place : last.0 ≡ s + (last.0 - s) = omega arith in
    let earlier = row_bounds E n cyclic s row zero_first steps (last.0 - s) k (omega arith) (subst (λ x. Path E s x k) place last.1) in
    let more = steps (last.0 - s) b (omega arith) inside (subst (λ x. E x (s + b)) place last.2) in
    omega arith
