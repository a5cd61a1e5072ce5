-- What one more point leaves open for the second reference of an arc.
-- `omega` reads a signed number z as `up z - down z`.
use Rattle.std.proofs.Common.{FitsSigned, to_z-of_z, to_z, of_z, IsTrue, eqb, eqb-true, eq-eqb, ◌≡◌, ◌↔◌, ℕ, ℤ, pos, negsuc, ◌+◌, ◌*◌, ◌<◌, ◌*ℤ◌, ◌<ℤ◌, ◌≤ℤ◌, inl, inr, sym, ◌∙◌, ap, ⊎_elim, arith}
use Rattle.std.specs.Int.{w64}
use Rattle.std.proofs.lemmas.Int.{ints, by_lt_z}
use Rattle.std.proofs.Math.IntN.{*ℤ_comm}
use Rattle.std.proofs.Math.Nat.{eq_of_mul-eq-mul_right}
use borrow.Author.Differences.{up, down, same_in}
use Rattle.iup_optimal.specs.declared.side.Relative.{Relative}
use Rattle.iup_optimal.specs.declared.side.Nearest.{Nearest}
use Rattle.iup_optimal.specs.declared.side.Farthest.{Farthest}
use Rattle.iup_optimal.specs.Sides.{Collinear, IsNearest, AllowsNear, IsFarthest, AllowsFar}

-- numbers with the same bits are the same, and so the test of bits tells
pub same_number : (a b : ℤ) → FitsSigned w64 a → FitsSigned w64 b → of_z w64 a ≡ of_z w64 b → a ≡ b
same_number a b fits also same = sym (to_z-of_z fits) ∙ (ap (λ n. to_z w64 n) same ∙ to_z-of_z also)

pub tests_same : (a b : ℤ) → FitsSigned w64 a → FitsSigned w64 b → IsTrue (eqb (of_z w64 a) (of_z w64 b)) ↔ (a ≡ b)
tests_same a b fits also = (
  λ tested. same_number a b fits also (eqb-true (of_z w64 a) (of_z w64 b) tested),
  λ same. eq-eqb (of_z w64 a) (of_z w64 b) (ap (λ z. of_z w64 z) same),
)

-- a product by a number that is not negative, in parts
pub times_pos : (z : ℤ) (k : ℕ) → (up (z *ℤ pos k) ≡ up z * k) × (down (z *ℤ pos k) ≡ down z * k)
times_pos (pos a) k = omega (arith, ints)
times_pos (negsuc a) k = omega (arith, ints)

pub pos_times : (z : ℤ) (k : ℕ) → (up (pos k *ℤ z) ≡ up z * k) × (down (pos k *ℤ z) ≡ down z * k)
pos_times (pos a) k = omega (arith, ints)
pos_times (negsuc a) k = omega (arith, ints)

-- two points on one line with a third are on one line
line_of : (p q r : ℤ) (a b c : ℕ) → 0 < c → p *ℤ pos c ≡ pos a *ℤ r → q *ℤ pos c ≡ pos b *ℤ r → p *ℤ pos b ≡ pos a *ℤ q
line_of p q r a b c some first second =
    let one : up p * c + down r * a ≡ down p * c + up r * a = omega (arith, ints, times_pos p c, pos_times r a) in
    let other : up q * c + down r * b ≡ down q * c + up r * b = omega (arith, ints, times_pos q c, pos_times r b) in
    let level : (up p * b + down q * a) * c ≡ (down p * b + up q * a) * c = omega (arith, ap (λ x. x * b) one, ap (λ x. x * a) other) in
    let same : up p * b + down q * a ≡ down p * b + up q * a = eq_of_mul-eq-mul_right c some (up p * b + down q * a) (down p * b + up q * a) level in
    same_in (p *ℤ pos b) (pos a *ℤ q) (omega (arith, times_pos p b, pos_times q a))

-- the same for points on the side of positive ways
pub collinear_through : (point other third : Relative) → pos 0 <ℤ point.way → pos 0 <ℤ other.way → pos 0 <ℤ third.way → Collinear point third → Collinear other third → Collinear point other
collinear_through point other third = through point.step other.step third.step point.way other.way third.way
  where
    through : (p q r a b c : ℤ) → pos 0 <ℤ a → pos 0 <ℤ b → pos 0 <ℤ c → p *ℤ c ≡ a *ℤ r → q *ℤ c ≡ b *ℤ r → p *ℤ b ≡ a *ℤ q
    through p q r (pos a) (pos b) (pos c) first second third one two = line_of p q r a b c (omega (arith, ints)) one two
    through p q r (negsuc a) b c first second third one two = absurd (omega (arith, ints))
    through p q r (pos a) (negsuc b) c first second third one two = absurd (omega (arith, ints))
    through p q r (pos a) (pos b) (negsuc c) first second third one two = absurd (omega (arith, ints))

pub collinear_turned : (point other : Relative) → Collinear point other → Collinear other point
collinear_turned point other line =
    *ℤ_comm other.step point.way ∙ (sym line ∙ *ℤ_comm point.step other.way)

-- what a nearest point that allows an end comes to
abbrev pub TakesNear : Nearest → Nearest → Relative → Relative → Type 0
TakesNear new old point end = AllowsNear new end ↔ (AllowsNear old end × (point.way <ℤ end.way → Collinear point end))

-- a nearer point on the line of the nearest
pub nearer_on_line : (nearest : Nearest) (point end : Relative) → IsNearest nearest → pos 0 <ℤ point.way → pos 0 <ℤ end.way → Collinear point nearest.at → point.way <ℤ nearest.at.way → TakesNear (record { at = point; off = nearest.off }) nearest point end
nearer_on_line nearest point end is ahead some line nearer =
    let beyond = is.beyond in
    let first = is.some in (
      λ allowed. ⊎_elim
          (λ (low : end.way ≤ℤ point.way). (inl (omega (arith, ints)), λ (less : point.way <ℤ end.way). absurd (omega (arith, ints))))
          (λ (on : Collinear point end × (end.way ≤ℤ nearest.off)). (
            by_lt_z nearest.at.way end.way
                (λ less. inr (collinear_through nearest.at end point first some ahead (collinear_turned point nearest.at line) (collinear_turned point end on.0), on.1))
                (λ not_less. inl not_less),
            λ _. on.0,
          ))
          allowed,
      λ both. by_lt_z point.way end.way
          (λ less. inr (
            both.1 less,
            ⊎_elim
                (λ (low : end.way ≤ℤ nearest.at.way). omega (arith, ints))
                (λ (on : Collinear nearest.at end × (end.way ≤ℤ nearest.off)). on.1)
                both.0,
          ))
          (λ not_less. inl not_less),
    )

-- a nearer point that isn't
pub nearer_off_line : (nearest : Nearest) (point end : Relative) → IsNearest nearest → pos 0 <ℤ point.way → pos 0 <ℤ end.way → (Collinear point nearest.at → ⊥) → point.way <ℤ nearest.at.way → TakesNear (record { at = point; off = nearest.at.way }) nearest point end
nearer_off_line nearest point end is ahead some off nearer = (
  λ allowed. ⊎_elim
      (λ (low : end.way ≤ℤ point.way). (inl (omega (arith, ints)), λ (less : point.way <ℤ end.way). absurd (omega (arith, ints))))
      (λ (on : Collinear point end × (end.way ≤ℤ nearest.at.way)). (inl on.1, λ _. on.0))
      allowed,
  λ both. by_lt_z point.way end.way
      (λ less. inr (
        both.1 less,
        ⊎_elim
            (λ (low : end.way ≤ℤ nearest.at.way). low)
            (λ (on : Collinear nearest.at end × (end.way ≤ℤ nearest.off)). absurd (off (collinear_through point nearest.at end ahead is.some some (both.1 less) on.0)))
            both.0,
      ))
      (λ not_less. inl not_less),
)

-- a farther point on the line
pub farther_on_line : (nearest : Nearest) (point end : Relative) → IsNearest nearest → pos 0 <ℤ point.way → pos 0 <ℤ end.way → Collinear point nearest.at → nearest.at.way ≤ℤ point.way → TakesNear nearest nearest point end
farther_on_line nearest point end is ahead some line farther = (
  λ allowed. (
    allowed,
    λ less. ⊎_elim
        (λ (low : end.way ≤ℤ nearest.at.way). absurd (omega (arith, ints)))
        (λ (on : Collinear nearest.at end × (end.way ≤ℤ nearest.off)). collinear_through point end nearest.at ahead some is.some line (collinear_turned nearest.at end on.0))
        allowed,
  ),
  λ both. both.0,
)

-- a farther point that isn't, nearer than any such so far
pub farther_off_line : (nearest : Nearest) (point end : Relative) → IsNearest nearest → pos 0 <ℤ point.way → pos 0 <ℤ end.way → (Collinear point nearest.at → ⊥) → nearest.at.way ≤ℤ point.way → point.way <ℤ nearest.off → TakesNear (record { at = nearest.at; off = point.way }) nearest point end
farther_off_line nearest point end is ahead some off farther before = (
  λ allowed. ⊎_elim
      (λ (low : end.way ≤ℤ nearest.at.way). (inl low, λ (less : point.way <ℤ end.way). absurd (omega (arith, ints))))
      (λ (on : Collinear nearest.at end × (end.way ≤ℤ point.way)). (inr (on.0, omega (arith, ints, on.1)), λ (less : point.way <ℤ end.way). absurd (omega (arith, ints, on.1))))
      allowed,
  λ both. ⊎_elim
      (λ (low : end.way ≤ℤ nearest.at.way). inl low)
      (λ (on : Collinear nearest.at end × (end.way ≤ℤ nearest.off)). inr (
        on.0,
        by_lt_z point.way end.way
            (λ less. absurd (off (collinear_through point nearest.at end ahead is.some some (both.1 less) on.0)))
            (λ not_less. not_less),
      ))
      both.0,
)

-- and one that is farther than such a one
pub beyond_off_line : (nearest : Nearest) (point end : Relative) → nearest.at.way ≤ℤ point.way → nearest.off ≤ℤ point.way → TakesNear nearest nearest point end
beyond_off_line nearest point end farther after = (
  λ allowed. (
    allowed,
    λ less. ⊎_elim
        (λ (low : end.way ≤ℤ nearest.at.way). absurd (omega (arith, ints)))
        (λ (on : Collinear nearest.at end × (end.way ≤ℤ nearest.off)). absurd (omega (arith, ints, on.1)))
        allowed,
  ),
  λ both. both.0,
)

-- what a farthest point that allows an end comes to
abbrev pub TakesFar : Farthest → Farthest → Relative → Relative → Type 0
TakesFar new old point end = AllowsFar new end ↔ (AllowsFar old end × (end.way ≤ℤ point.way → point.step ≡ end.step))

-- a farther point with the same step
pub beyond_same : (farthest : Farthest) (point end : Relative) → IsFarthest farthest → point.step ≡ farthest.at.step → farthest.at.way <ℤ point.way → TakesFar (record { at = point; torn = farthest.torn }) farthest point end
beyond_same farthest point end is same farther =
    let within = is.within in (
      λ allowed. ⊎_elim
          (λ (past : point.way <ℤ end.way). (inl (omega (arith, ints)), λ (low : end.way ≤ℤ point.way). absurd (omega (arith, ints))))
          (λ (on : (point.step ≡ end.step) × (farthest.torn <ℤ end.way)). (inr (sym same ∙ on.0, on.1), λ _. on.0))
          allowed,
      λ both. by_lt_z point.way end.way
          (λ past. inl past)
          (λ not_past. inr (
            both.1 not_past,
            ⊎_elim
                (λ (past : farthest.at.way <ℤ end.way). omega (arith, ints))
                (λ (on : (farthest.at.step ≡ end.step) × (farthest.torn <ℤ end.way)). on.1)
                both.0,
          )),
    )

-- one that isn't farther
pub within_same : (farthest : Farthest) (point end : Relative) → point.step ≡ farthest.at.step → point.way ≤ℤ farthest.at.way → TakesFar farthest farthest point end
within_same farthest point end same nearer = (
  λ allowed. (
    allowed,
    λ low. ⊎_elim
        (λ (past : farthest.at.way <ℤ end.way). absurd (omega (arith, ints)))
        (λ (on : (farthest.at.step ≡ end.step) × (farthest.torn <ℤ end.way)). same ∙ on.0)
        allowed,
  ),
  λ both. both.0,
)

-- a farther point with another step
pub beyond_other : (farthest : Farthest) (point end : Relative) → (point.step ≡ farthest.at.step → ⊥) → farthest.at.way <ℤ point.way → TakesFar (record { at = point; torn = farthest.at.way }) farthest point end
beyond_other farthest point end other farther = (
  λ allowed. ⊎_elim
      (λ (past : point.way <ℤ end.way). (inl (omega (arith, ints)), λ (low : end.way ≤ℤ point.way). absurd (omega (arith, ints))))
      (λ (on : (point.step ≡ end.step) × (farthest.at.way <ℤ end.way)). (inl on.1, λ _. on.0))
      allowed,
  λ both. by_lt_z point.way end.way
      (λ past. inl past)
      (λ not_past. inr (
        both.1 not_past,
        ⊎_elim
            (λ (past : farthest.at.way <ℤ end.way). past)
            (λ (on : (farthest.at.step ≡ end.step) × (farthest.torn <ℤ end.way)). absurd (other (both.1 not_past ∙ sym on.0)))
            both.0,
      )),
)

-- one that isn't farther, beyond any with another step so far
pub within_other : (farthest : Farthest) (point end : Relative) → (point.step ≡ farthest.at.step → ⊥) → point.way ≤ℤ farthest.at.way → farthest.torn <ℤ point.way → TakesFar (record { at = farthest.at; torn = point.way }) farthest point end
within_other farthest point end other nearer after = (
  λ allowed. ⊎_elim
      (λ (past : farthest.at.way <ℤ end.way). (inl past, λ (low : end.way ≤ℤ point.way). absurd (omega (arith, ints))))
      (λ (on : (farthest.at.step ≡ end.step) × (point.way <ℤ end.way)). (inr (on.0, omega (arith, ints, on.1)), λ (low : end.way ≤ℤ point.way). absurd (omega (arith, ints, on.1))))
      allowed,
  λ both. ⊎_elim
      (λ (past : farthest.at.way <ℤ end.way). inl past)
      (λ (on : (farthest.at.step ≡ end.step) × (farthest.torn <ℤ end.way)). inr (
        on.0,
        by_lt_z point.way end.way
            (λ past. past)
            (λ not_past. absurd (other (both.1 not_past ∙ sym on.0))),
      ))
      both.0,
)

-- and one before such a one
pub before_other : (farthest : Farthest) (point end : Relative) → point.way ≤ℤ farthest.at.way → point.way ≤ℤ farthest.torn → TakesFar farthest farthest point end
before_other farthest point end nearer before = (
  λ allowed. (
    allowed,
    λ low. ⊎_elim
        (λ (past : farthest.at.way <ℤ end.way). absurd (omega (arith, ints)))
        (λ (on : (farthest.at.step ≡ end.step) × (farthest.torn <ℤ end.way)). absurd (omega (arith, ints, on.1)))
        allowed,
  ),
  λ both. both.0,
)
