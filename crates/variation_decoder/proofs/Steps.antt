-- What follows of a reading that came to an end, step by step.
use Rattle.std.proofs.Common.{◌≡◌, Bool, true, false, cond, Option, Some, None, refl, ◌⊎◌, inl, inr}
use Rattle.basics.specs.Optional.{◌>>=◌}

-- a test that lets nothing through where it holds
pub unless_some : {A : Type 0} (b : Bool) (r : Option A) (y : A) → cond b None r ≡ Some y → (b ≡ false) × (r ≡ Some y)
unless_some true r y e = absurd cc
unless_some false r y e = (refl, e)

-- a test that lets nothing through where it fails
pub when_some : {A : Type 0} (b : Bool) (r : Option A) (y : A) → cond b r None ≡ Some y → (b ≡ true) × (r ≡ Some y)
when_some true r y e = (refl, e)
when_some false r y e = absurd cc

-- a test that chooses
pub either_some : {A : Type 0} (b : Bool) (r s : Option A) (y : A) → cond b r s ≡ Some y → ((b ≡ true) × (r ≡ Some y)) ⊎ ((b ≡ false) × (s ≡ Some y))
either_some true r s y e = inl (refl, e)
either_some false r s y e = inr (refl, e)
