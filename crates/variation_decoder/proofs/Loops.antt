-- Loops that read: what was read before, before what is still read, is what reading gives from the start.
use Rattle.std.proofs.Common.{◌≡◌, ℕ, zero, suc, ◌-◌, ◌+◌, ◌≤◌, ◌<◌, List, [], ◌∷◌, ◌++◌, length, Option, Some, None, refl, sym, ap, ◌∙◌, append_assoc, length-append, arith}
use Rattle.std.proofs.lemmas.List.{append-nil}
use Rattle.std.proofs.lemmas.Option.{same_Some}
use Rattle.variation_decoder.specs.declared.refusal.Refusal.{Refusal}
use Rattle.variation_decoder.specs.declared.refusal.Refusal.TheVariants.{NoReading, NoMemory}
use Rattle.variation_decoder.specs.Reading.{Fails, many, filled_by, filled}
use Rattle.basics.specs.Optional.{◌>>=◌}
use Rattle.basics.proofs.Optional.{bind_some, bind_same}

-- what was read before, before what is still read
abbrev pub with_prefix : {A : Type 0} → List A → Option (List A × List ℕ) → Option (List A × List ℕ)
with_prefix prefix read = read >>= λ x. Some (prefix ++ x.0, x.1)

pub regroup : {A : Type 0} (prefix next : List A) (read : Option (List A × List ℕ)) → with_prefix prefix (read >>= λ x. Some (next ++ x.0, x.1)) ≡ with_prefix (prefix ++ next) read
regroup prefix next (Some x) = ap (λ xs. Some (xs, x.1)) (sym (append_assoc prefix next x.0))
regroup prefix next None = refl

module _ {A : Type 0} (at : List ℕ → Option (A × List ℕ)) where
  pub many_goes_on : (prefix : List A) (count i : ℕ) (bytes : List ℕ) (x : A) (after : List ℕ) (total : Option (List A × List ℕ)) → i < count → at bytes ≡ Some (x, after)
      → with_prefix prefix (many at (count - i) bytes) ≡ total → with_prefix (prefix ++ x ∷ []) (many at (count - (i + 1)) after) ≡ total
  unfolding many
  many_goes_on prefix count i bytes x after total lt h so_far =
      let k : count - i ≡ suc (count - (i + 1)) = omega arith in
      let one : with_prefix prefix (many at (count - i) bytes) ≡ with_prefix (prefix ++ x ∷ []) (many at (count - (i + 1)) after) = rw (k, h) (regroup prefix (x ∷ []) (many at (count - (i + 1)) after)) in
      sym one ∙ so_far

  pub many_ends : (e : Refusal) (prefix : List A) (count i : ℕ) (bytes : List ℕ) (total : Option (List A × List ℕ)) → i < count → Fails e (at bytes)
      → with_prefix prefix (many at (count - i) bytes) ≡ total → Fails e total
  unfolding many
  many_ends NoMemory prefix count i bytes total lt h so_far = tt
  many_ends NoReading prefix count i bytes total lt h so_far =
      let k : count - i ≡ suc (count - (i + 1)) = omega arith in
      let one : with_prefix prefix (many at (count - i) bytes) ≡ None = rw (k, h) refl in
      sym so_far ∙ one

  pub many_is_done : (prefix : List A) (count i : ℕ) (bytes : List ℕ) (total : Option (List A × List ℕ)) → count ≤ i
      → with_prefix prefix (many at (count - i) bytes) ≡ total → total ≡ Some (prefix, bytes)
  unfolding many
  many_is_done prefix count i bytes total le so_far =
      let k : count - i ≡ 0 = omega arith in
      let one : with_prefix prefix (many at (count - i) bytes) ≡ Some (prefix, bytes) = rw k (ap (λ (xs : List A). Some (xs, bytes)) (append-nil prefix)) in
      sym so_far ∙ one

-- so many values are read as so many
pub many_length : {A : Type 0} (at : List ℕ → Option (A × List ℕ)) (n : ℕ) (bytes : List ℕ) (read : List A × List ℕ) → many at n bytes ≡ Some read → length read.0 ≡ n
unfolding many
many_length {A} at zero bytes read e =
    let same : ([], bytes) ≡ read = same_Some ([], bytes) read e in
    ap (λ (x : List A × List ℕ). length x.0) (sym same)
many_length {A} at (suc n) bytes read e =
    let first = bind_some (at bytes) (λ first. many at n first.1 >>= λ more. Some (first.0 ∷ more.0, more.1)) read e in
    let more = bind_some (many at n first.0.1) (λ more. Some (first.0.0 ∷ more.0, more.1)) read first.2 in
    let same : (first.0.0 ∷ more.0.0, more.0.1) ≡ read = same_Some (first.0.0 ∷ more.0.0, more.0.1) read more.2 in
    ap (λ (x : List A × List ℕ). length x.0) (sym same) ∙ ap suc (many_length at n first.0.1 more.0 more.1)

-- ---- runs

-- each run holds some values
abbrev pub HoldSome : {A : Type 0} → (ℕ → List ℕ → Option (List A × List ℕ)) → Type 0
HoldSome {A} run_at = (n : ℕ) (bytes : List ℕ) (run : List A × List ℕ) → run_at n bytes ≡ Some run → 0 < length run.0

module _ {A : Type 0} (run_at : ℕ → List ℕ → Option (List A × List ℕ)) (some : HoldSome run_at) where
  -- as many runs as values are enough
  enough : (f g n : ℕ) (bytes : List ℕ) → n ≤ f → n ≤ g → filled_by run_at f n bytes ≡ filled_by run_at g n bytes
  unfolding filled_by
  enough f g zero bytes p q = refl
  enough zero g (suc n) bytes p q = absurd (omega arith)
  enough (suc f) zero (suc n) bytes p q = absurd (omega arith)
  enough (suc f) (suc g) (suc n) bytes p q =
      bind_same (run_at (suc n) bytes)
      (λ run. filled_by run_at f (suc n - length run.0) run.1 >>= λ more. Some (run.0 ++ more.0, more.1))
      (λ run. filled_by run_at g (suc n - length run.0) run.1 >>= λ more. Some (run.0 ++ more.0, more.1))
      (λ run e. ap (λ read. read >>= λ more. Some (run.0 ++ more.0, more.1))
      (enough f g (suc n - length run.0) run.1 (omega (arith, some (suc n) bytes run e)) (omega (arith, some (suc n) bytes run e))))

  -- a run, and what is wanted after it
  filled_step : (n : ℕ) (bytes : List ℕ) → filled run_at (suc n) bytes ≡ (run_at (suc n) bytes >>= λ run. filled run_at (suc n - length run.0) run.1 >>= λ more. Some (run.0 ++ more.0, more.1))
  unfolding filled_by
  filled_step n bytes =
      bind_same (run_at (suc n) bytes)
      (λ run. filled_by run_at n (suc n - length run.0) run.1 >>= λ more. Some (run.0 ++ more.0, more.1))
      (λ run. filled run_at (suc n - length run.0) run.1 >>= λ more. Some (run.0 ++ more.0, more.1))
      (λ run e. ap (λ read. read >>= λ more. Some (run.0 ++ more.0, more.1))
      (enough n (suc n - length run.0) (suc n - length run.0) run.1 (omega (arith, some (suc n) bytes run e)) (omega arith)))

  pub runs_go_on : (prefix : List A) (wanted : ℕ) (bytes : List ℕ) (run : List A) (after : List ℕ) (total : Option (List A × List ℕ)) → length prefix < wanted → run_at (wanted - length prefix) bytes ≡ Some (run, after)
      → with_prefix prefix (filled run_at (wanted - length prefix) bytes) ≡ total → with_prefix (prefix ++ run) (filled run_at (wanted - length (prefix ++ run)) after) ≡ total
  runs_go_on prefix wanted bytes run after total lt h so_far =
      let n = wanted - length prefix - 1 in
      let k : wanted - length prefix ≡ suc n = omega arith in
      let left : wanted - length (prefix ++ run) ≡ suc n - length run = omega (arith, length-append prefix run) in
      let read : run_at (suc n) bytes ≡ Some (run, after) = rw k at h in
      let one : with_prefix prefix (filled run_at (wanted - length prefix) bytes) ≡ with_prefix (prefix ++ run) (filled run_at (wanted - length (prefix ++ run)) after) = rw (k, filled_step n bytes, read, left) (regroup prefix run (filled run_at (suc n - length run) after)) in
      sym one ∙ so_far

  pub runs_end : (e : Refusal) (prefix : List A) (wanted : ℕ) (bytes : List ℕ) (total : Option (List A × List ℕ)) → length prefix < wanted → Fails e (run_at (wanted - length prefix) bytes)
      → with_prefix prefix (filled run_at (wanted - length prefix) bytes) ≡ total → Fails e total
  runs_end NoMemory prefix wanted bytes total lt h so_far = tt
  runs_end NoReading prefix wanted bytes total lt h so_far =
      let n = wanted - length prefix - 1 in
      let k : wanted - length prefix ≡ suc n = omega arith in
      let none : run_at (suc n) bytes ≡ None = rw k at h in
      let one : with_prefix prefix (filled run_at (wanted - length prefix) bytes) ≡ None = rw (k, filled_step n bytes, none) refl in
      sym so_far ∙ one

  pub runs_are_done : (prefix : List A) (wanted : ℕ) (bytes : List ℕ) (total : Option (List A × List ℕ)) → wanted ≤ length prefix
      → with_prefix prefix (filled run_at (wanted - length prefix) bytes) ≡ total → total ≡ Some (prefix, bytes)
  unfolding filled_by
  runs_are_done prefix wanted bytes total le so_far =
      let k : wanted - length prefix ≡ 0 = omega arith in
      let one : with_prefix prefix (filled run_at (wanted - length prefix) bytes) ≡ Some (prefix, bytes) = rw k (ap (λ (xs : List A). Some (xs, bytes)) (append-nil prefix)) in
      sym so_far ∙ one
