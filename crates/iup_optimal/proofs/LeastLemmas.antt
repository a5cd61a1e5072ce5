-- The walk from the first member is the least set.
use Rattle.std.proofs.Common.{◌≡◌, ℕ, suc, ◌+◌, ◌-◌, ◌<◌, ◌≤◌, All, List, [], ◌∷◌, length, get_or, inl, inr, refl, sym, subst, ⊎_elim, arith}
use Rattle.std.proofs.lemmas.Bool.{cases_lt}
use Rattle.fixpoint.specs.declared.plane.Pair.{Pair}
use Rattle.variation_rules.specs.InferredDelta.{still}
use Rattle.iup.specs.Arcs.{RisesFrom, Infers, IsFirstOf, IsLeastSet}
use Rattle.iup.specs.Bounds.{Path, Reaches}
use Rattle.iup.proofs.Paths.{Round}
use Rattle.iup.proofs.ArcLemmas.{reaches_cyclic, round_from_links, links_from_round}
use Rattle.iup.proofs.BoundLemmas.{path_of_set}
use Rattle.iup_optimal.specs.declared.row.Row.{Row}
use Rattle.iup_optimal.specs.Rows.{IsRowBack, AreRowsTo}
use Rattle.iup_optimal.specs.LeastSets.{AreRightRows, IsLeast}
use Rattle.iup_optimal.proofs.StartLemmas.{right_rows, bounds_from_rows}
use Rattle.iup_optimal.specs.Ways.{IsFewest, IsFirstMember, Walks}
use Rattle.iup_optimal.proofs.WayLemmas.{left_of, walk_round, walk_length, walk_first, walk_rises}

module _ (points deltas : List Pair) (m f : ℕ) (left : List ℕ) (same : length deltas ≡ length points) (moves : All (λ delta. delta ≡ still) deltas → ⊥) (fewest : IsFewest (Reaches points deltas) (length points) m) (first : IsFirstMember (Reaches points deltas) (length points) m f) (size : length left ≡ length points + 1) (back : IsRowBack (Reaches points deltas) (f + length points) left) where
  -- as many steps are left from the first member as lead round
  left_is : get_or left (f + length points - f) 0 ≡ m
  left_is =
      let n = length points in
      let own = left_of (Reaches points deltas) n (reaches_cyclic points deltas same) left (f + n) (omega arith) size back f (omega arith) (omega arith) in
      let at_most = own.least m first.round in
      let at_least = fewest.least f (get_or left (f + n - f) 0) first.inside own.leads in
      omega arith

  -- a set that infers the deltas and has as many points begins at the first member or later
  first_of_sets : (xs other : List ℕ) → Walks (Reaches points deltas) left (f + length points) f (f ∷ xs) → RisesFrom 0 (length points) other → Infers points deltas other → length other ≡ suc (length xs) → suc (length xs) ≡ m → IsFirstOf (f ∷ xs) other
  first_of_sets xs [] walk set infers equal total = absurd (omega arith)
  first_of_sets xs (b ∷ ys) walk set infers equal total =
      let n = length points in
      let below : b < n = set.1 in
      let round = path_of_set points deltas b ys set infers in
      ⊎_elim
      (λ (later : f < b). inl later)
      (λ (not_later : b ≤ f). ⊎_elim
      (λ (earlier : b < f).
      let steps : suc (length ys) ≡ m = omega arith in
      absurd (first.none_before b earlier (subst (λ k. Path (Reaches points deltas) b (b + n) k) steps round)))
      (λ (not_earlier : f ≤ b).
      let here : b ≡ f = omega arith in
      inr (
        sym here,
        walk_first (Reaches points deltas) n (reaches_cyclic points deltas same) left (f + n) (omega arith) size back f xs ys (omega arith) walk
            (subst (λ a. Round (Reaches points deltas) a ys (a + n)) here (round_from_links points deltas b ys (b + n) set.2 (omega arith) (omega arith) (omega arith) infers))
            (omega arith),
      ))
      (cases_lt b f))
      (cases_lt f b)

  least_walk : (xs : List ℕ) → Walks (Reaches points deltas) left (f + length points) f (f ∷ xs) → IsLeastSet points deltas (f ∷ xs) × (length (f ∷ xs) ≡ m)
  least_walk xs walk =
      let n = length points in
      let total = walk_length (Reaches points deltas) n (reaches_cyclic points deltas same) left (f + n) (omega arith) size back f (f ∷ xs) walk in
      let inside = first.inside in
      let steps : suc (length xs) ≡ m = omega (arith, left_is) in (
        record {
          is_set = walk_rises (Reaches points deltas) n (reaches_cyclic points deltas same) left (f + n) (omega arith) size back m f first refl f 0 0 xs (omega arith) (omega arith) refl (omega (arith, left_is)) (omega arith) walk;
          infers = links_from_round points deltas f xs (f + n) (walk_round (Reaches points deltas) n (reaches_cyclic points deltas same) left (f + n) (omega arith) size back f xs walk);
          fewest = λ other set infers. fewest_of_sets other set infers steps;
          first = λ other set infers equal. first_of_sets xs other walk set infers equal steps;
        },
        steps,
      )
    where
      fewest_of_sets : (other : List ℕ) → RisesFrom 0 (length points) other → Infers points deltas other → suc (length xs) ≡ m → suc (length xs) ≤ length other
      fewest_of_sets [] set infers steps = absurd (moves infers)
      fewest_of_sets (b ∷ ys) set infers steps =
          let bound = fewest.least b (suc (length ys)) set.1 (path_of_set points deltas b ys set infers) in
          omega arith

  pub least_from_walk : (set : List ℕ) → Walks (Reaches points deltas) left (f + length points) f set → IsLeastSet points deltas set × (length set ≡ m)
  least_from_walk [] walk = let inside = first.inside in absurd (omega (arith, walk))
  least_from_walk (z ∷ zs) walk =
      let here : z ≡ f = walk.0 in
      subst (λ w. IsLeastSet points deltas (w ∷ zs) × (length (w ∷ zs) ≡ m)) (sym here)
      (least_walk zs (subst (λ w. Walks (Reaches points deltas) left (f + length points) f (w ∷ zs)) here walk))

-- the answer where something moves
pub answer_is_least : (points deltas : List Pair) (set : List ℕ) (rows : List Row) → length deltas ≡ length points → (All (λ delta. delta ≡ still) deltas → ⊥) → IsLeastSet points deltas set → IsFewest (Reaches points deltas) (length points) (length set) → AreRowsTo points deltas 0 (length points) rows → IsLeast points deltas (record { points = set; pivot = 0; rows = rows })
answer_is_least points deltas set rows same moves least fewest all =
    let right : AreRightRows points deltas (length set) 0 rows = right_rows points deltas 0 (length set) rows same all fewest in
    record {
      set = least;
      pivot = refl;
      nothing = λ still_all. absurd (moves still_all);
      rows = λ _. right;
      bounds = λ _. bounds_from_rows points deltas 0 (length set) rows right;
    }
