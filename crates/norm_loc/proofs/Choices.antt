-- Tests of numbers, and what they choose.
use Rattle.std.proofs.Common.{◌≡◌, ℤ, ◌≤ℤ◌, ◌<ℤ◌, Bool, true, false, Option, Some, None, refl, arith, rules}
use Rattle.std.proofs.lemmas.Int.{ints}
use Rattle.std.specs.Prelude.{int_lt, int_le, ◌&&◌, ◌||◌, if◌then◌else◌, option_map}
use Rattle.std.specs.Ordering.{int_eq}
use Rattle.norm_loc.specs.MapFaults.{or_else}

pub no : (b : Bool) → (b ≡ true → ⊥) → b ≡ false
no true never = absurd (never refl)
no false never = refl

pub yes : (b : Bool) → (b ≡ false → ⊥) → b ≡ true
yes true never = refl
yes false never = absurd (never refl)

pub lt_true : (a b : ℤ) → a <ℤ b → int_lt a b ≡ true
lt_true a b less = yes (int_lt a b) (λ (e : int_lt a b ≡ false). omega (arith, ints))

pub lt_false : (a b : ℤ) → b ≤ℤ a → int_lt a b ≡ false
lt_false a b more = no (int_lt a b) (λ (e : int_lt a b ≡ true). omega (arith, ints))

pub lt_of : (a b : ℤ) → int_lt a b ≡ true → a <ℤ b
lt_of a b e = omega (arith, ints)

pub le_of : (a b : ℤ) → int_lt a b ≡ false → b ≤ℤ a
le_of a b e = omega (arith, ints)

pub at_most : (a b : ℤ) → int_le a b ≡ true → a ≤ℤ b
at_most a b e = omega (arith, ints)

pub eq_of : (a b : ℤ) → int_eq a b ≡ true → a ≡ b
eq_of a b e = search rules

pub eq_false : (a b : ℤ) → (a ≡ b → ⊥) → int_eq a b ≡ false
eq_false a b apart = no (int_eq a b) (λ (e : int_eq a b ≡ true). apart (eq_of a b e))

pub eq_true : (a b : ℤ) → a ≡ b → int_eq a b ≡ true
eq_true a b e = yes (int_eq a b) (λ (f : int_eq a b ≡ false). search rules)

pub both : (a b : Bool) → (a && b) ≡ true → (a ≡ true) × (b ≡ true)
both true true e = (refl, refl)
both true false e = absurd cc
both false b e = absurd cc

pub neither : (a b : Bool) → (a || b) ≡ false → (a ≡ false) × (b ≡ false)
neither true b e = absurd cc
neither false b e = (refl, e)

pub then_none : {A : Type 0} (b : Bool) (o : Option A) (x : A) → (if b then o else Some x) ≡ None → (b ≡ true) × (o ≡ None)
then_none true o x e = (refl, e)
then_none false o x e = absurd cc

pub else_none : {A : Type 0} (b : Bool) (o : Option A) (x : A) → (if b then Some x else o) ≡ None → (b ≡ false) × (o ≡ None)
else_none true o x e = absurd cc
else_none false o x e = (refl, e)

pub or_none : {A : Type 0} (a b : Option A) → or_else a b ≡ None → (a ≡ None) × (b ≡ None)
or_none (Some x) b e = absurd cc
or_none None b e = (refl, e)

pub map_none : {A B : Type 0} (f : A → B) (o : Option A) → option_map f o ≡ None → o ≡ None
map_none f (Some x) e = absurd cc
map_none f None e = refl

-- two numbers, each chosen by a test
pub choose_le : (a b : Bool) (p q r s : ℤ)
    → (a ≡ true → b ≡ true → p ≤ℤ r) → (a ≡ true → b ≡ false → p ≤ℤ s) → (a ≡ false → b ≡ true → q ≤ℤ r) → (a ≡ false → b ≡ false → q ≤ℤ s)
    → (if a then p else q) ≤ℤ (if b then r else s)
choose_le true true p q r s one two three four = one refl refl
choose_le true false p q r s one two three four = two refl refl
choose_le false true p q r s one two three four = three refl refl
choose_le false false p q r s one two three four = four refl refl
