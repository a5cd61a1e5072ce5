-- There is one list of deltas at most that fills the contours in a tuple, and so one drawing of a glyph at a location.
use Rattle.std.proofs.Common.{◌≡◌, ℕ, ℤ, zero, suc, pos, ◌+◌, ◌-◌, ◌%◌, ◌<◌, ◌≤◌, ◌+ℤ◌, ◌*ℤ◌, List, [], ◌∷◌, ◌++◌, length, take, drop, get_or, Option, Some, None, ◌⊎◌, refl, sym, ◌∙◌, ap, inl, inr, ⊎_elim, arith}
use Rattle.std.proofs.Math.Nat.{add-mod_right, mod-eq_of_lt}
use Rattle.std.proofs.lemmas.Bool.{cases_lt, cases_eq}
use Rattle.std.proofs.lemmas.List.{ext_get_or, take-append-drop}
use Rattle.fixpoint.specs.declared.plane.Pair.{Pair}
use Rattle.variation_rules.specs.InferredDelta.{still, around, AreNearest, FillsContour}
use Rattle.variation_rules.specs.PointDelta.{IsInferred, IsDeltaAt}
use Rattle.variation_rules.specs.DrawnOutline.{named_delta, FillsContours, Fills}
use Rattle.variation_rules.specs.DrawnGlyph.{IsDrawn}
use Rattle.variation_rules.specs.declared.filling.Moved.{Moved}
use Rattle.variation_rules.specs.declared.tuple.TupleVariation.{TupleVariation}
use Rattle.variation_rules.specs.declared.drawing.DrawnPoint.{DrawnPoint}
use Rattle.variation_rules.specs.declared.drawing.DrawnGlyph.{DrawnGlyph}
use Rattle.variation_rules.proofs.InferredLemmas.{between_is_one}
use Rattle.variation_rules.proofs.FillingLemmas.{some_is_some, delta_of_contour, none_from_before, none_from_after}

-- two pairs with the same numbers are one
pair_is_one : (d e : Pair) → d.x ≡ e.x → d.y ≡ e.y → d ≡ e
pair_is_one d e x y =
    let left : d ≡ record { x = e.x; y = d.y } = ap (λ (z : ℤ). record { x = z; y = d.y }) x in
    let right : record { x = e.x; y = d.y } ≡ e = ap (λ (z : ℤ). record { x = e.x; y = z }) y in
    left ∙ right

inferred_is_one : (first second : Moved) (point d e : Pair) → IsInferred first second point d → IsInferred first second point e → d ≡ e
inferred_is_one first second point d e one other =
    pair_is_one d e
    (between_is_one first.point.x first.delta.x second.point.x second.delta.x point.x d.x e.x one.x other.x)
    (between_is_one first.point.y first.delta.y second.point.y second.delta.y point.y d.y e.y one.y other.y)

-- a value is there or not
there_or_not : {X : Type 0} (x : Option X) → (x ≡ None) ⊎ ((y : X) × (x ≡ Some y))
there_or_not None = inl refl
there_or_not (Some y) = inr (y, refl)

-- the last place before r, of so many, with a value
record LastBefore (f : ℕ → Option Pair) (r : ℕ) : Type 0 where
  place : ℕ
  before : place < r
  value : Pair
  is : f place ≡ Some value
  none_between : (x : ℕ) → place < x → x < r → f x ≡ None

last_before : (f : ℕ → Option Pair) (r m : ℕ) → m ≤ r → ((x : ℕ) → r ≤ x + m → x < r → f x ≡ None) ⊎ LastBefore f r
last_before f r zero few = inl (λ x far near. absurd (omega arith))
last_before f r (suc m) few =
    ⊎_elim
    (λ (none : (x : ℕ) → r ≤ x + m → x < r → f x ≡ None). ⊎_elim
    (λ (nothing : f (r - suc m) ≡ None). inl (λ x far near. ⊎_elim
    (λ (here : x ≡ r - suc m). ap f here ∙ nothing)
    (λ (other : x ≡ r - suc m → ⊥). none x (omega arith) near)
    (cases_eq x (r - suc m))))
    (λ (some : (y : Pair) × (f (r - suc m) ≡ Some y)). inr (record {
      place = r - suc m;
      before = omega arith;
      value = some.0;
      is = some.1;
      none_between = λ x above below. none x (omega arith) below;
    }))
    (there_or_not (f (r - suc m))))
    (λ (found : LastBefore f r). inr found)
    (last_before f r m (omega arith))

-- the first place after r, of so many, with a value
record FirstAfter (f : ℕ → Option Pair) (r : ℕ) : Type 0 where
  place : ℕ
  after : r < place
  value : Pair
  is : f place ≡ Some value
  none_between : (x : ℕ) → r < x → x < place → f x ≡ None

first_after : (f : ℕ → Option Pair) (r m : ℕ) → ((x : ℕ) → r < x → x ≤ r + m → f x ≡ None) ⊎ FirstAfter f r
first_after f r zero = inl (λ x above below. absurd (omega arith))
first_after f r (suc m) =
    ⊎_elim
    (λ (none : (x : ℕ) → r < x → x ≤ r + m → f x ≡ None). ⊎_elim
    (λ (nothing : f (r + suc m) ≡ None). inl (λ x above below. ⊎_elim
    (λ (here : x ≡ r + suc m). ap f here ∙ nothing)
    (λ (other : x ≡ r + suc m → ⊥). none x above (omega arith))
    (cases_eq x (r + suc m))))
    (λ (some : (y : Pair) × (f (r + suc m) ≡ Some y)). inr (record {
      place = r + suc m;
      after = omega arith;
      value = some.0;
      is = some.1;
      none_between = λ x above below. none x above (omega arith);
    }))
    (there_or_not (f (r + suc m))))
    (λ (found : FirstAfter f r). inr found)
    (first_after f r m)

-- the places found are the nearest
nearest : (given : ℕ → Option Pair) (n i : ℕ) (first : LastBefore (λ x. given (x % n)) (i + n)) (second : FirstAfter (λ x. given (x % n)) (i + n)) → i < n → given i ≡ None → AreNearest n given first.place (i + n) second.place
nearest given n i first second inside nothing =
    let here : (i + n) % n ≡ i = add-mod_right i n ∙ mod-eq_of_lt inside in
    record {
      before = first.before;
      after = second.after;
      first = some_is_some (given (first.place % n)) first.value first.is;
      second = some_is_some (given (second.place % n)) second.value second.is;
      none_between = λ x above below. ⊎_elim
          (λ (less : x < i + n). first.none_between x above less)
          (λ (not_less : i + n ≤ x). ⊎_elim
          (λ (level : x ≡ i + n). ap (λ y. given (y % n)) level ∙ (ap given here ∙ nothing))
          (λ (other : x ≡ i + n → ⊥). second.none_between x (omega arith) below)
          (cases_eq x (i + n)))
          (cases_lt x (i + n));
    }

-- a point has one delta at most
delta_is_one : (points : List Pair) (given : ℕ → Option Pair) (i : ℕ) (d e : Pair) → i < length points → IsDeltaAt points given i d → IsDeltaAt points given i e → d ≡ e
delta_is_one points given i d e inside one other =
    let n = length points in
    let round : ℕ → Option Pair = λ x. given (x % n) in
    let here : (i + n) % n ≡ i = add-mod_right i n ∙ mod-eq_of_lt inside in
    let unmoved : ((k : ℕ) → k < n → given k ≡ None) → d ≡ e = λ none. one.unmoved none ∙ sym (other.unmoved none) in
    ⊎_elim
    (λ (nothing : given i ≡ None). ⊎_elim
    (λ (none : (x : ℕ) → i + n ≤ x + n → x < i + n → round x ≡ None). unmoved (none_from_before given n i inside (λ x far near. none x (omega arith) near)))
    (λ (first : LastBefore round (i + n)). ⊎_elim
    (λ (none : (x : ℕ) → i + n < x → x ≤ i + n + n → round x ≡ None). unmoved (none_from_after given n i inside (λ x above below. none x above (omega arith))))
    (λ (second : FirstAfter round (i + n)).
    let near = nearest given n i first second inside nothing in
    inferred_is_one (record { point = around points first.place; delta = first.value }) (record { point = around points second.place; delta = second.value }) (around points i) d e
    (one.inferred first.place (i + n) second.place first.value second.value here near first.is second.is)
    (other.inferred first.place (i + n) second.place first.value second.value here near first.is second.is))
    (first_after round (i + n) n))
    (last_before round (i + n) n (omega arith)))
    (λ (own : (y : Pair) × (given i ≡ Some y)). one.named own.0 own.1 ∙ sym (other.named own.0 own.1))
    (there_or_not (given i))

-- deltas that fill a contour are one list
contour_is_one : (points : List Pair) (given : ℕ → Option Pair) (f g : List Pair) → FillsContour points given f → FillsContour points given g → f ≡ g
contour_is_one points given f g one other =
    ext_get_or still f g (omega (arith, one.one_each, other.one_each))
    (λ i inside. delta_is_one points given i (get_or f i still) (get_or g i still) (omega (arith, one.one_each))
    (delta_of_contour points given f i one (omega (arith, one.one_each)))
    (delta_of_contour points given g i other (omega (arith, one.one_each))))

-- and so are those that fill the contours of an outline
pub contours_are_one : (lengths : List ℕ) (points : List Pair) (given : ℕ → Option Pair) (f g : List Pair) → FillsContours lengths points given f → FillsContours lengths points given g → f ≡ g
contours_are_one [] points given f g one other = one ∙ sym other
contours_are_one (n ∷ lengths) points given f g one other =
    let first = contour_is_one (take n points) given (take n f) (take n g) one.0 other.0 in
    let rest = contours_are_one lengths (drop n points) (λ i. given (n + i)) (drop n f) (drop n g) one.1 other.1 in
    sym (take-append-drop n f) ∙ (ap (λ xs. xs ++ drop n f) first ∙ (ap (λ xs. take n g ++ xs) rest ∙ take-append-drop n g))

-- and those of all tuples
pub fills_are_one : (lengths : List ℕ) (points : List Pair) (tuples : List TupleVariation) (f g : List (List Pair)) → Fills lengths points tuples f → Fills lengths points tuples g → f ≡ g
fills_are_one lengths points [] [] [] one other = refl
fills_are_one lengths points [] (x ∷ f) g one other = absurd one
fills_are_one lengths points [] f (y ∷ g) one other = absurd other
fills_are_one lengths points (t ∷ tuples) [] g one other = absurd one
fills_are_one lengths points (t ∷ tuples) f [] one other = absurd other
fills_are_one lengths points (t ∷ tuples) (x ∷ f) (y ∷ g) one other =
    ap (λ deltas. deltas ∷ f) (contours_are_one lengths points (named_delta t.points t.deltas) x y one.0 other.0)
    ∙ ap (λ fills. y ∷ fills) (fills_are_one lengths points tuples f g one.1 other.1)

-- two drawn points with the same coordinates are one
point_is_one : (p q : DrawnPoint) → p.x ≡ q.x → p.y ≡ q.y → p ≡ q
point_is_one p q x y =
    let left : p ≡ record { x = q.x; y = p.y } = ap (λ (z : ℤ). record { x = z; y = p.y }) x in
    let right : record { x = q.x; y = p.y } ≡ q = ap (λ (z : ℤ). record { x = q.x; y = z }) y in
    left ∙ right

-- a glyph has one drawing at a location
pub drawn_is_one : (lengths : List ℕ) (points : List Pair) (advance : ℤ) (tuples : List TupleVariation) (at : List ℤ) (one other : DrawnGlyph) → IsDrawn lengths points advance tuples at one → IsDrawn lengths points advance tuples at other → one ≡ other
drawn_is_one lengths points advance tuples at one other first second =
    let origin : DrawnPoint = record { x = pos 0; y = pos 0 } in
    let fills = fills_are_one lengths points tuples second.fills first.fills second.are_fills first.are_fills in
    let same : one.points ≡ other.points =
    ext_get_or origin one.points other.points (first.one_each ∙ sym second.one_each)
    (λ i inside.
    let below : i < length points = omega (arith, first.one_each) in
    point_is_one (get_or one.points i origin) (get_or other.points i origin)
    (first.x i below ∙ sym (rw fills at (second.x i below)))
    (first.y i below ∙ sym (rw fills at (second.y i below)))) in
    let left : one ≡ record { points = other.points; advance = one.advance } = ap (λ (p : List DrawnPoint). record { points = p; advance = one.advance }) same in
    let right : record { points = other.points; advance = one.advance } ≡ other = ap (λ (a : ℤ). record { points = other.points; advance = a }) (first.advance_is ∙ sym second.advance_is) in
    left ∙ right
