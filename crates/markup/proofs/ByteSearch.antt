-- The answer of memchr is the first place of a byte.
use Rattle.std.proofs.Common.{◌≡◌, ℕ, zero, suc, ◌+◌, ◌<◌, Bool, true, false, cond, List, [], ◌∷◌, length, Option, Some, None, refl, sym, ap, arith}
use Rattle.std.specs.Prelude.{option_map, ◌==◌, IfSome}
use Rattle.memchr.specs.Find.{IsFirstByte, Passes, Nowhere, is_byte}
use Rattle.basics.specs.Bytes.{index_of}

none_cases : (byte b : ℕ) (bytes : List ℕ) (is : Bool) → (b == byte) ≡ is → Nowhere (Passes (is_byte byte) (b ∷ bytes)) 0 (suc (length bytes)) → index_of byte bytes ≡ None → cond is (Some 0) (option_map (λ n. n + 1) (index_of byte bytes)) ≡ None
none_cases byte b bytes true e nowhere later = absurd (nowhere 0 (omega arith) (omega arith) e)
none_cases byte b bytes false e nowhere later = ap (option_map (λ (n : ℕ). n + 1)) later

index_none : (byte : ℕ) (bytes : List ℕ) → Nowhere (Passes (is_byte byte) bytes) 0 (length bytes) → index_of byte bytes ≡ None
index_none byte [] nowhere = refl
index_none byte (b ∷ bytes) nowhere =
    none_cases byte b bytes (b == byte) refl nowhere (index_none byte bytes (λ k low high. nowhere (suc k) (omega arith) (omega arith)))

some_cases : (byte b k : ℕ) (bytes : List ℕ) (is : Bool) → (b == byte) ≡ is → ((b == byte) ≡ true → ⊥) → index_of byte bytes ≡ Some k → cond is (Some 0) (option_map (λ n. n + 1) (index_of byte bytes)) ≡ Some (suc k)
some_cases byte b k bytes true e apart later = absurd (apart e)
some_cases byte b k bytes false e apart later = rw later (let one : k + 1 ≡ suc k = omega arith in ap (λ (n : ℕ). Some n) one)

first_cases : (byte b : ℕ) (bytes : List ℕ) → (b == byte) ≡ true → index_of byte (b ∷ bytes) ≡ Some 0
first_cases byte b bytes e = rw e refl

index_some : (byte : ℕ) (bytes : List ℕ) (k : ℕ) → k < length bytes → Nowhere (Passes (is_byte byte) bytes) 0 k → Passes (is_byte byte) bytes k → index_of byte bytes ≡ Some k
index_some byte [] k within before here = absurd (omega arith)
index_some byte (b ∷ bytes) zero within before here = first_cases byte b bytes here
index_some byte (b ∷ bytes) (suc k) within before here =
    some_cases byte b k bytes (b == byte) refl (before 0 (omega arith) (omega arith))
    (index_some byte bytes k (omega arith) (λ j low high. before (suc j) (omega arith) (omega arith)) here)

pub index_is : (byte : ℕ) (bytes : List ℕ) (found : Option ℕ) → IsFirstByte (is_byte byte) bytes found → found ≡ index_of byte bytes
index_is byte bytes None nowhere = sym (index_none byte bytes nowhere)
index_is byte bytes (Some k) first = sym (index_some byte bytes k first.0.high first.0.before first.1)

pub index_within : (byte : ℕ) (bytes : List ℕ) (found : Option ℕ) → IsFirstByte (is_byte byte) bytes found → IfSome found (λ k. k < length bytes)
index_within byte bytes None nowhere = tt
index_within byte bytes (Some k) first = first.0.high
