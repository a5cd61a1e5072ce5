-- The way of the fewest steps round, each as near as it can be, is the first of all such ways.
use Rattle.std.proofs.Common.{◌≡◌, ℕ, zero, suc, ◌+◌, ◌-◌, ◌<◌, ◌≤◌, List, [], ◌∷◌, ◌++◌, length, get_or, inl, inr, refl, sym, ◌∙◌, ap, subst, ⊎_elim, append_assoc, arith}
use Rattle.std.proofs.lemmas.Bool.{cases_lt}
use Rattle.iup.specs.Arcs.{RisesFrom, IsFirstOf}
use Rattle.iup.specs.Bounds.{Path, IsCyclic}
use Rattle.iup.proofs.Paths.{Round, path_from_round, path_ahead, path_join, path_up, path_down, path_more}
use Rattle.iup_optimal.specs.Rows.{IsLeastWay, IsRowBack}
use Rattle.iup_optimal.specs.Ways.{IsFirstMember, IsNext, Walks}

-- a place more at the front of what is left to walk
pub walks_push : (E : ℕ → ℕ → Type 0) (left : List ℕ) (end first x y : ℕ) (walked : List ℕ) → x < end → IsNext E left end x y → ((zs : List ℕ) → Walks E left end x zs → Walks E left end first (walked ++ zs)) → (zs : List ℕ) → Walks E left end y zs → Walks E left end first ((walked ++ x ∷ []) ++ zs)
walks_push E left end first x y walked inside next so_far zs rest =
    subst (λ ws. Walks E left end first ws) (sym (append_assoc walked (x ∷ []) zs)) (so_far (x ∷ zs) (refl, inside, (y, next, rest)))

-- What is known of one way: the steps are cyclic, and the numbers left are the least to the end of a round of n places.
module _ (E : ℕ → ℕ → Type 0) (n : ℕ) (cyclic : IsCyclic E n) (left : List ℕ) (end : ℕ) (rounds : n ≤ end) (size : length left ≡ n + 1) (back : IsRowBack E end left) where
  -- the least number of steps from a place of the round to the end
  pub left_of : (x : ℕ) → end ≤ x + n → x ≤ end → IsLeastWay E x end (get_or left (end - x) 0)
  left_of x low high =
      let place : end - (end - x) ≡ x = omega arith in
      subst (λ y. IsLeastWay E y end (get_or left (end - x) 0)) place (back.each (end - x) (omega arith))

  none_left : get_or left (end - end) 0 ≡ 0
  none_left =
      let least = (left_of end (omega arith) (omega arith)).least 0 refl in
      omega arith

  -- the walk's places after the first are steps to the end
  pub walk_round : (x : ℕ) (zs : List ℕ) → Walks E left end x (x ∷ zs) → Round E x zs end
  walk_round x [] walk = subst (λ y. E x y) walk.2.2 walk.2.1.edge
  walk_round x (z ∷ zs) walk =
      let next = walk.2 in
      let here : z ≡ next.0 = next.2.0 in (
        subst (λ y. E x y) (sym here) next.1.edge,
        walk_round z zs (subst (λ y. Walks E left end y (z ∷ zs)) (sym here) next.2),
      )

  -- a walk has as many places as steps are left
  pub walk_length : (x : ℕ) (zs : List ℕ) → Walks E left end x zs → length zs ≡ get_or left (end - x) 0
  walk_length x [] walk = sym (ap (λ y. get_or left (end - y) 0) walk ∙ none_left)
  walk_length x (z ∷ zs) walk =
      let rest = walk_length walk.2.0 zs walk.2.2 in
      let shorter = walk.2.1.shorter in
      omega arith

  -- any step is at most one shorter
  one_shorter : (x y : ℕ) → end ≤ x + n → y ≤ end → E x y → get_or left (end - x) 0 ≤ get_or left (end - y) 0 + 1
  one_shorter x y low high edge =
      let ahead = cyclic.ahead x y edge in
      let rest = (left_of y (omega arith) high).leads in
      let bound = (left_of x low (omega arith)).least (suc (get_or left (end - y) 0)) (y, edge, rest) in
      omega arith

  -- no way of as few steps comes before it
  pub walk_first : (x : ℕ) (zs ws : List ℕ) → end ≤ x + n → Walks E left end x (x ∷ zs) → Round E x ws end → length ws ≡ length zs → IsFirstOf zs ws
  walk_first x [] ws low walk round same = tt
  walk_first x (z ∷ zs) [] low walk round same = absurd (omega arith)
  walk_first x (z ∷ zs) (w ∷ ws) low walk round same =
      let next = walk.2 in
      let here : z ≡ next.0 = next.2.0 in
      let ahead = cyclic.ahead x w round.0 in
      let rest = path_from_round E w ws end round.1 in
      let high = path_ahead E n cyclic w end (suc (length ws)) rest in
      let at_most = (left_of w (omega arith) (omega arith)).least (suc (length ws)) rest in
      let own = walk_length z (z ∷ zs) (subst (λ y. Walks E left end y (z ∷ zs)) (sym here) next.2) in
      let own_at : get_or left (end - next.0) 0 ≡ get_or left (end - z) 0 = ap (λ y. get_or left (end - y) 0) (sym here) in
      let shorter = next.1.shorter in
      let bound = one_shorter x w low (omega arith) round.0 in
      let level : get_or left (end - w) 0 + 1 ≡ get_or left (end - x) 0 = omega arith in
      ⊎_elim
      (λ (nearer : w < z). absurd (next.1.nearest w (omega arith) round.0 level))
      (λ (not_nearer : z ≤ w). ⊎_elim
      (λ (farther : z < w). inl farther)
      (λ (not_farther : w ≤ z).
      let equal : w ≡ z = omega arith in
      let low_z : end ≤ z + n = omega arith in
      inr (
        sym equal,
        walk_first z zs ws low_z
            (subst (λ y. Walks E left end y (z ∷ zs)) (sym here) next.2)
            (subst (λ y. Round E y ws end) equal round.1)
            (omega arith),
      ))
      (cases_lt z w))
      (cases_lt w z)

  -- the places of the walk from the first member are points of the contour: otherwise one of them, a round earlier,
  -- would come before the first member
  member_inside : (m f : ℕ) → IsFirstMember E n m f → end ≡ f + n → (x i : ℕ) → f ≤ x → Path E f x i → i + get_or left (end - x) 0 ≡ m → x < end → x < n
  member_inside m f first is_end x i after path total before =
      ⊎_elim
      (λ (below : x < n). below)
      (λ (not_below : n ≤ x).
      let own = left_of x (omega arith) (omega arith) in
      let up : Path E end (x + n) i = subst (λ y. Path E y (x + n) i) (sym is_end) (path_up E n cyclic f x i path) in
      let round : Path E x (x + n) m = path_join E x end (x + n) (get_or left (end - x) 0) i m (omega arith) own.leads up in
      let place : x ≡ x - n + n = omega arith in
      let down : Path E (x - n) (x - n + n) m = path_down E n cyclic (x - n) (x - n + n) m (subst (λ y. Path E y (y + n) m) place round) in
      absurd (first.none_before (x - n) (omega arith) down))
      (cases_lt x n)

  pub walk_rises : (m f : ℕ) → IsFirstMember E n m f → end ≡ f + n → (x low i : ℕ) (zs : List ℕ) → low ≤ x → f ≤ x → Path E f x i → i + get_or left (end - x) 0 ≡ m → x < end → Walks E left end x (x ∷ zs) → RisesFrom low n (x ∷ zs)
  walk_rises m f first is_end x low i [] above after path total before walk =
      (above, member_inside m f first is_end x i after path total before, tt)
  walk_rises m f first is_end x low i (y ∷ ys) above after path total before walk =
      let next = walk.2 in
      let here : y ≡ next.0 = next.2.0 in
      let ahead = cyclic.ahead x next.0 next.1.edge in
      let shorter = next.1.shorter in
      let own_at : get_or left (end - next.0) 0 ≡ get_or left (end - y) 0 = ap (λ w. get_or left (end - w) 0) (sym here) in
      let more : Path E f y (suc i) = subst (λ w. Path E f w (suc i)) (sym here) (path_more E f x next.0 i path next.1.edge) in
      let less = next.2.1 in (
        above,
        member_inside m f first is_end x i after path total before,
        walk_rises m f first is_end y (x + 1) (suc i) ys (omega arith) (omega arith) more (omega arith) (omega arith)
            (subst (λ w. Walks E left end w (y ∷ ys)) (sym here) next.2),
      )

  -- where no place before the end is the next one, the end is
  pub last_is_next : (x : ℕ) → x < end → end ≤ x + n → ((z : ℕ) → z < end → E x z → get_or left (end - z) 0 + 1 ≡ get_or left (end - x) 0 → ⊥) → IsNext E left end x end
  last_is_next x before low none = from_way (get_or left (end - x) 0) refl (left_of x low (omega arith)).leads
    where
      from_way : (k : ℕ) → k ≡ get_or left (end - x) 0 → Path E x end k → IsNext E left end x end
      from_way zero is path = absurd (omega (arith, path))
      from_way (suc k) is path =
          let y = path.0 in
          let ahead = cyclic.ahead x y path.1 in
          let high = path_ahead E n cyclic y end k path.2 in
          let at_most = (left_of y (omega arith) (omega arith)).least k path.2 in
          let bound = one_shorter x y low (omega arith) path.1 in
          let shorter : get_or left (end - y) 0 + 1 ≡ get_or left (end - x) 0 = omega arith in
          ⊎_elim
          (λ (inside : y < end). absurd (none y inside path.1 shorter))
          (λ (not_inside : end ≤ y).
          let here : y ≡ end = omega arith in
          record {
            inside = omega arith;
            edge = subst (λ z. E x z) here path.1;
            shorter = subst (λ z. get_or left (end - z) 0 + 1 ≡ get_or left (end - x) 0) here shorter;
            nearest = none;
          })
          (cases_lt y end)
