-- Contours of components are placed one component after the other.
use Rattle.std.proofs.Common.{◌≡◌, ◌<◌, ℕ, ◌+◌, List, ◌∷◌, ◌++◌, length, drop, get_or, sym, ◌∙◌, ap, subst, append_assoc}
use Rattle.std.specs.Prelude.{All}
use Rattle.std.proofs.lemmas.List.{drop_more}
use Rattle.glif.specs.declared.shape.Point.{Point}
use Rattle.glif.specs.declared.shape.Component.{Component}
use Rattle.compat.specs.Flattened.{moved_contours}
use Rattle.compat.specs.Flats.{CanMove, flat_at, flat_contours, drawn_contours, AreMovable}
use Rattle.compat.specs.declared.flat.Flat.{Flat}

components_at : (components items : List Component) (i : ℕ) (component : Component) → items ≡ components → i < length items → component ≡ get_or items i component → drop i components ≡ component ∷ drop (i + 1) components
components_at components items i component same less is =
    subst (λ c. drop i c ≡ component ∷ drop (i + 1) c) same (drop_more items i component less ∙ ap (λ c. c ∷ drop (i + 1) items) (sym is))

bases_from : (bases : List ℕ) (i base : ℕ) → i < length bases → base ≡ get_or bases i 0 → drop i bases ≡ base ∷ drop (i + 1) bases
bases_from bases i base less is = drop_more bases i 0 less ∙ ap (λ b. b ∷ drop (i + 1) bases) (sym is)

pub movable_here : (flats : List Flat) (components items : List Component) (bases : List ℕ) (i : ℕ) (component : Component) (base : ℕ) → items ≡ components → i < length items → i < length bases → component ≡ get_or items i component → base ≡ get_or bases i 0
    → AreMovable flats (drop i components) (drop i bases) → All (All (CanMove component)) (flat_contours (flat_at flats base)) × AreMovable flats (drop (i + 1) components) (drop (i + 1) bases)
movable_here flats components items bases i component base same less within is base_is movable =
    subst (λ b. AreMovable flats (component ∷ drop (i + 1) components) b) (bases_from bases i base within base_is)
    (subst (λ c. AreMovable flats c (drop i bases)) (components_at components items i component same less is) movable)

pub drawn_more : (flats : List Flat) (components items : List Component) (bases : List ℕ) (i : ℕ) (component : Component) (base : ℕ) → items ≡ components → i < length items → i < length bases → component ≡ get_or items i component → base ≡ get_or bases i 0
    → (contours new_contours whole : List (List Point)) → contours ++ drawn_contours flats (drop i components) (drop i bases) ≡ whole → new_contours ≡ contours ++ moved_contours component (flat_contours (flat_at flats base))
    → new_contours ++ drawn_contours flats (drop (i + 1) components) (drop (i + 1) bases) ≡ whole
drawn_more flats components items bases i component base same less within is base_is contours new_contours whole before longer =
    ap (λ c. c ++ drawn_contours flats (drop (i + 1) components) (drop (i + 1) bases)) longer
    ∙ rw append_assoc
    (subst (λ b. contours ++ drawn_contours flats (component ∷ drop (i + 1) components) b ≡ whole) (bases_from bases i base within base_is)
    (subst (λ c. contours ++ drawn_contours flats c (drop i bases) ≡ whole) (components_at components items i component same less is) before))
