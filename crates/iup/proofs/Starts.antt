-- Each way round the cycle can be turned so that it begins at the pivot, or at a place from which one step leads
-- strictly over the pivot.
use Rattle.std.proofs.Common.{◌≡◌, ℕ, ◌+◌, ◌-◌, ◌%◌, ◌<◌, ◌≤◌, ◌⊎◌, inl, inr, refl, ◌∙◌, subst, ⊎_elim, arith}
use Rattle.std.proofs.Math.Nat.{add-mod_right, mod-eq_of_lt}
use Rattle.std.proofs.lemmas.Bool.{cases_lt}
use Rattle.iup.specs.Bounds.{Path, IsCyclic}
use Rattle.iup.proofs.Paths.{Turned, path_turns, path_at, path_down}

-- a step from s leads strictly over a place that is p on the cycle
pub record StepsOver (E : ℕ → ℕ → Type 0) (n p s : ℕ) : Type 0 where
  pub place : ℕ
  pub to : ℕ
  pub after : s < place
  pub before : place < to
  pub edge : E s to
  pub is : place % n ≡ p

-- the starts of a pivot
abbrev pub IsStart : (ℕ → ℕ → Type 0) → ℕ → ℕ → ℕ → Type 0
IsStart E n p s = (s ≡ p) ⊎ StepsOver E n p s

-- a way round the cycle of so many steps from some start
pub record FromStart (E : ℕ → ℕ → Type 0) (n p k : ℕ) : Type 0 where
  pub start : ℕ
  pub inside : start < n
  pub is_start : IsStart E n p start
  pub round : Path E start (start + n) k

-- a place of the first two rounds that is p on the cycle
record Placed (n p q : ℕ) : Type 0 where
  within : q < n + n
  is : q % n ≡ p
  low : q < n → q ≡ p
  high : n ≤ q → q ≡ p + n

first_round : (n p : ℕ) → p < n → Placed n p p
first_round n p inside = record {
  within = omega arith;
  is = mod-eq_of_lt inside;
  low = λ _. refl;
  high = λ above. absurd (omega arith);
}

second_round : (n p : ℕ) → p < n → Placed n p (p + n)
second_round n p inside = record {
  within = omega arith;
  is = add-mod_right p n ∙ mod-eq_of_lt inside;
  low = λ below. absurd (omega arith);
  high = λ _. refl;
}

-- the turned way begins at the pivot, in the first round or the second
at_pivot : (E : ℕ → ℕ → Type 0) (n : ℕ) → IsCyclic E n → (p k q u : ℕ) → p < n → Placed n p q → u ≡ q → Path E u (u + n) k → FromStart E n p k
at_pivot E n cyclic p k q u inside placed here round =
    ⊎_elim
    (λ (below : q < n).
    let is : u ≡ p = here ∙ placed.low below in
    record { start = p; inside = inside; is_start = inl refl; round = subst (λ x. Path E x (x + n) k) is round })
    (λ (above : n ≤ q).
    let is : u ≡ p + n = here ∙ placed.high above in
    record {
      start = p;
      inside = inside;
      is_start = inl refl;
      round = path_down E n cyclic p (p + n) k (subst (λ x. Path E x (x + n) k) is round);
    })
    (cases_lt q n)

-- or with a step over it
over_pivot : (E : ℕ → ℕ → Type 0) (n : ℕ) → IsCyclic E n → (p k q u v : ℕ) → p < n → Placed n p q → u < q → q < v → E u v → Path E u (u + n) k → FromStart E n p k
over_pivot E n cyclic p k q u v inside placed low high edge round =
    ⊎_elim
    (λ (below : u < n). record {
      start = u;
      inside = below;
      is_start = inr (record { place = q; to = v; after = low; before = high; edge = edge; is = placed.is });
      round = round;
    })
    (λ (above : n ≤ u).
    let is = placed.high (omega arith) in
    let from : u ≡ u - n + n = omega arith in
    let to : v ≡ v - n + n = omega arith in
    let end : u + n ≡ u - n + n + n = omega arith in
    record {
      start = u - n;
      inside = omega (arith, placed.within);
      is_start = inr (record {
        place = p;
        to = v - n;
        after = omega arith;
        before = omega arith;
        edge = cyclic.down (u - n) (v - n) (subst (λ x. E x (v - n + n)) from (subst (λ x. E u x) to edge));
        is = mod-eq_of_lt inside;
      });
      round = path_down E n cyclic (u - n) (u - n + n) k (path_at E u (u + n) (u - n + n) (u - n + n + n) k from end round);
    })
    (cases_lt u n)

from_turned : (E : ℕ → ℕ → Type 0) (n : ℕ) → IsCyclic E n → (p k q : ℕ) → p < n → Placed n p q → Turned E n k q → FromStart E n p k
from_turned E n cyclic p k q inside placed turned =
    ⊎_elim
    (λ (low : turned.from < q). over_pivot E n cyclic p k q turned.from turned.to inside placed low turned.high turned.edge turned.round)
    (λ (not_low : q ≤ turned.from). at_pivot E n cyclic p k q turned.from inside placed (omega (arith, turned.low)) turned.round)
    (cases_lt turned.from q)

-- each way round the cycle has one of as many steps from a start
pub closed_start : (E : ℕ → ℕ → Type 0) (n : ℕ) → IsCyclic E n → (p a k : ℕ) → p < n → a < n → Path E a (a + n) k → FromStart E n p k
closed_start E n cyclic p a k inside from path =
    ⊎_elim
    (λ (later : p < a). from_turned E n cyclic p k (p + n) inside (second_round n p inside) (path_turns E n cyclic a k (p + n) (omega arith) (omega arith) path))
    (λ (not_later : a ≤ p). from_turned E n cyclic p k p inside (first_round n p inside) (path_turns E n cyclic a k p not_later (omega arith) path))
    (cases_lt p a)

-- a bound of the ways round from each start is a bound of all ways round
pub closed_least : (E : ℕ → ℕ → Type 0) (n : ℕ) → IsCyclic E n → (p m : ℕ) → p < n → ((s k : ℕ) → s < n → IsStart E n p s → Path E s (s + n) k → m ≤ k) → (a k : ℕ) → a < n → Path E a (a + n) k → m ≤ k
closed_least E n cyclic p m inside bound a k from path =
    let start = closed_start E n cyclic p a k inside from path in
    bound start.start k start.inside start.is_start start.round
