-- The loop over the packed parts, one for each header.
use Rattle.std.proofs.Common.{◌≡◌, ℕ, ◌+◌, ◌≤◌, ◌<◌, List, [], ◌∷◌, ◌++◌, length, get_or, drop, Option, Some, None, refl, sym, ap, ◌∙◌}
use Rattle.std.proofs.lemmas.List.{append-nil, at_drop_more, at_drop_all}
use Rattle.variation_decoder.specs.declared.header.Head.{Head}
use Rattle.variation_decoder.specs.declared.refusal.Refusal.{Refusal}
use Rattle.variation_decoder.specs.declared.refusal.Refusal.TheVariants.{NoReading, NoMemory}
use Rattle.variation_rules.specs.declared.tuple.TupleVariation.{TupleVariation}
use Rattle.variation_decoder.specs.Reading.{Fails}
use Rattle.variation_decoder.specs.Tuples.{tuple_at, tuples_at}
use Rattle.variation_decoder.proofs.Loops.{with_prefix, regroup}
use Rattle.basics.specs.Optional.{◌>>=◌}

module _ (total : ℕ) (shared : Option (List ℕ)) (heads : List Head) where
  step : (i : ℕ) (head : Head) (bytes : List ℕ) → i < length heads → head ≡ get_or heads i head
      → tuples_at total shared (drop i heads) bytes ≡ (tuple_at total shared head bytes >>= λ tuple. tuples_at total shared (drop (i + 1) heads) tuple.1 >>= λ more. Some (tuple.0 ∷ more.0, more.1))
  unfolding tuples_at
  step i head bytes lt is =
      at_drop_more (λ heads. tuples_at total shared heads bytes) heads i head lt
      ∙ ap (λ (h : Head). tuple_at total shared h bytes >>= λ tuple. tuples_at total shared (drop (i + 1) heads) tuple.1 >>= λ more. Some (tuple.0 ∷ more.0, more.1)) (sym is)

  pub tuples_go_on : (prefix : List TupleVariation) (i : ℕ) (head : Head) (bytes : List ℕ) (tuple : TupleVariation) (after : List ℕ) (whole : Option (List TupleVariation × List ℕ)) → i < length heads → head ≡ get_or heads i head
      → tuple_at total shared head bytes ≡ Some (tuple, after)
      → with_prefix prefix (tuples_at total shared (drop i heads) bytes) ≡ whole → with_prefix (prefix ++ tuple ∷ []) (tuples_at total shared (drop (i + 1) heads) after) ≡ whole
  tuples_go_on prefix i head bytes tuple after whole lt is h so_far =
      let one : with_prefix prefix (tuples_at total shared (drop i heads) bytes) ≡ with_prefix (prefix ++ tuple ∷ []) (tuples_at total shared (drop (i + 1) heads) after) =
      rw (step i head bytes lt is, h) (regroup prefix (tuple ∷ []) (tuples_at total shared (drop (i + 1) heads) after)) in
      sym one ∙ so_far

  pub tuples_end : (e : Refusal) (prefix : List TupleVariation) (i : ℕ) (head : Head) (bytes : List ℕ) (whole : Option (List TupleVariation × List ℕ)) → i < length heads → head ≡ get_or heads i head
      → Fails e (tuple_at total shared head bytes)
      → with_prefix prefix (tuples_at total shared (drop i heads) bytes) ≡ whole → Fails e whole
  tuples_end NoMemory prefix i head bytes whole lt is h so_far = tt
  tuples_end NoReading prefix i head bytes whole lt is h so_far =
      let one : with_prefix prefix (tuples_at total shared (drop i heads) bytes) ≡ None = rw (step i head bytes lt is, h) refl in
      sym so_far ∙ one

  pub tuples_are_done : (prefix : List TupleVariation) (i : ℕ) (bytes : List ℕ) (whole : Option (List TupleVariation × List ℕ)) → length heads ≤ i
      → with_prefix prefix (tuples_at total shared (drop i heads) bytes) ≡ whole → whole ≡ Some (prefix, bytes)
  unfolding tuples_at
  tuples_are_done prefix i bytes whole le so_far =
      let one : with_prefix prefix (tuples_at total shared (drop i heads) bytes) ≡ Some (prefix, bytes) = rw (at_drop_all (λ heads. tuples_at total shared heads bytes) heads i le) (ap (λ (tuples : List TupleVariation). Some (tuples, bytes)) (append-nil prefix)) in
      sym so_far ∙ one
