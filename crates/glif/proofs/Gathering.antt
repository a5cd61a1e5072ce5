-- One more element of a contour: what it adds to the points, and to what is tested of them.
use Rattle.std.proofs.Common.{◌≡◌, ℕ, suc, Bool, true, false, cond, not, ◌&&◌, List, [], ◌∷◌, ◌++◌, length, nat_eq, Option, Some, None, Ok, Err, refl, sym, ap, ◌∙◌, arith}
use Rattle.std.specs.Prelude.{Result, is_some, OnOk}
use Rattle.std.proofs.lemmas.Grind.{common_steps}
use Rattle.std.specs.Option.{option_or}
use Rattle.basics.specs.Reading.{◌>>=◌, each, in_turn}
use Rattle.basics.specs.declared.fault.Spot.{Spot}
use Rattle.basics.specs.declared.fault.NoMemory.{NoMemory}
use Rattle.markup_rules.specs.Tree.{Tree, at_of}
use Rattle.markup_rules.specs.Reading.{is_nil}
use Rattle.std.proofs.lemmas.Bool.Decides.{nat_tests}
use Rattle.glif.specs.declared.shape.Point.{Point}
use Rattle.glif.specs.declared.point.PointType.{PointType}
use Rattle.glif.specs.declared.contour.Drawn.{Drawn}
use Rattle.glif.specs.Contours.{ends_on, is_line, is_move, line_after_off, point_of, points_of, starts_with_move, type_of}
use Rattle.glif.specs.Gathered.{AreDrawn, IsDrawn, first_line, later_line}

-- ---- readings of a list with one more at its end

pub in_turn_push : {A S F : Type 0} (step : S → A → Result S F) (state : S) (ts : List A) (t : A) → in_turn step state (ts ++ t ∷ []) ≡ (in_turn step state ts >>= λ next. step next t)
in_turn_push {S = S} {F = F} step state [] t = last (step state t)
  where
    last : (r : Result S F) → (r >>= λ next. Ok next) ≡ r
    last (Ok x) = refl
    last (Err e) = refl
in_turn_push {S = S} {F = F} step state (u ∷ ts) t = on_first (λ next. in_turn_push step next ts t) (step state u)
  where
    on_first : ((next : S) → in_turn step next (ts ++ t ∷ []) ≡ (in_turn step next ts >>= λ next. step next t)) → (r : Result S F) → (r >>= λ next. in_turn step next (ts ++ t ∷ [])) ≡ ((r >>= λ next. in_turn step next ts) >>= λ next. step next t)
    on_first ih (Ok next) = ih next
    on_first ih (Err e) = refl

add_first : {A F : Type 0} (x : A) (r : Result (List A) F) (s : Result A F) → ((r >>= λ xs. s >>= λ y. Ok (xs ++ y ∷ [])) >>= λ xs. Ok (x ∷ xs)) ≡ ((r >>= λ xs. Ok (x ∷ xs)) >>= λ xs. s >>= λ y. Ok (xs ++ y ∷ []))
add_first x (Ok xs) (Ok y) = refl
add_first x (Ok xs) (Err e) = refl
add_first x (Err e) s = refl

each_push : {A B F : Type 0} (f : A → Result B F) (ts : List A) (t : A) → each f (ts ++ t ∷ []) ≡ (each f ts >>= λ xs. f t >>= λ y. Ok (xs ++ y ∷ []))
each_push f [] t = refl
each_push {B = B} {F = F} f (u ∷ ts) t = on_first (each_push f ts t) (f u)
  where
    on_first : (each f (ts ++ t ∷ []) ≡ (each f ts >>= λ xs. f t >>= λ y. Ok (xs ++ y ∷ []))) → (r : Result B F) → (r >>= λ x. each f (ts ++ t ∷ []) >>= λ xs. Ok (x ∷ xs)) ≡ ((r >>= λ x. each f ts >>= λ xs. Ok (x ∷ xs)) >>= λ xs. f t >>= λ y. Ok (xs ++ y ∷ []))
    on_first ih (Ok x) = ap (λ r. r >>= λ xs. Ok (x ∷ xs)) ih ∙ add_first x (each f ts) (f t)
    on_first ih (Err e) = refl

-- ---- points

-- a list without an item has no length
pub nil_test : {A : Type 0} (xs : List A) → nat_eq (length xs) 0 ≡ is_nil xs
nil_test [] = refl
nil_test (x ∷ xs) = grind (arith, nat_tests)

with_later : (first : Point) (later : Result (List Point) Spot) (t : Tree) → ((later >>= λ ps. point_of false t >>= λ p. Ok (ps ++ p ∷ [])) >>= λ ps. Ok (first ∷ ps)) ≡ ((later >>= λ ps. Ok (first ∷ ps)) >>= λ ps. point_of (is_nil ps) t >>= λ p. Ok (ps ++ p ∷ []))
with_later first (Ok ps) t = one (point_of false t)
  where
    one : (r : Result Point Spot) → ((r >>= λ p. Ok (ps ++ p ∷ [])) >>= λ ps. Ok (first ∷ ps)) ≡ (r >>= λ p. Ok ((first ∷ ps) ++ p ∷ []))
    one (Ok p) = refl
    one (Err e) = refl
with_later first (Err e) t = refl

points_push : (ts : List Tree) (t : Tree) → points_of (ts ++ t ∷ []) ≡ (points_of ts >>= λ ps. point_of (is_nil ps) t >>= λ p. Ok (ps ++ p ∷ []))
points_push [] t = refl
points_push (u ∷ ts) t = on_first (point_of true u)
  where
    on_first : (r : Result Point Spot) → (r >>= λ first. each (point_of false) (ts ++ t ∷ []) >>= λ ps. Ok (first ∷ ps)) ≡ ((r >>= λ first. each (point_of false) ts >>= λ ps. Ok (first ∷ ps)) >>= λ ps. point_of (is_nil ps) t >>= λ p. Ok (ps ++ p ∷ []))
    on_first (Ok first) = ap (λ r. r >>= λ ps. Ok (first ∷ ps)) (each_push (point_of false) ts t) ∙ with_later first (each (point_of false) ts) t
    on_first (Err e) = refl

-- a fault stays, and a point or a fault follows points
faulty_push : (ts : List Tree) (t : Tree) (spot : Spot) → points_of ts ≡ Err spot → points_of (ts ++ t ∷ []) ≡ Err spot
faulty_push ts t spot e = points_push ts t ∙ ap (λ r. r >>= λ ps. point_of (is_nil ps) t >>= λ p. Ok (ps ++ p ∷ [])) e

point_push : (ts : List Tree) (t : Tree) (ps : List Point) (r : Result Point Spot) → points_of ts ≡ Ok ps → point_of (is_nil ps) t ≡ r → points_of (ts ++ t ∷ []) ≡ (r >>= λ p. Ok (ps ++ p ∷ []))
point_push ts t ps r e read = points_push ts t ∙ (ap (λ r. r >>= λ ps. point_of (is_nil ps) t >>= λ p. Ok (ps ++ p ∷ [])) e ∙ ap (λ r. r >>= λ p. Ok (ps ++ p ∷ [])) read)

-- there is a point for each element
same_value : {A F : Type 0} (x y : A) → (the : Result A F) → the ≡ Ok x → the ≡ Ok y → x ≡ y
same_value x y the e f = cc

longer : (a b c : ℕ) → a ≡ b → suc b ≡ c → suc a ≡ c
longer a b c e f = omega (arith, e, f)

each_length : {A B F : Type 0} (f : A → Result B F) (ts : List A) (xs : List B) → each f ts ≡ Ok xs → length ts ≡ length xs
each_length f [] xs e = grind (arith, common_steps)
each_length {B = B} {F = F} f (u ∷ ts) xs e = on_first (f u) (each f ts) (each_length f ts) e
  where
    on_first : (r : Result B F) (rest : Result (List B) F) → ((ys : List B) → rest ≡ Ok ys → length ts ≡ length ys) → (r >>= λ x. rest >>= λ ys. Ok (x ∷ ys)) ≡ Ok xs → length (u ∷ ts) ≡ length xs
    on_first (Ok x) (Ok ys) shorter is = longer (length ts) (length ys) (length xs) (shorter ys refl) (ap length (same_value _ _ _ refl is))
    on_first (Ok x) (Err e) shorter is = cc
    on_first (Err e) rest shorter is = cc

pub points_length : (ts : List Tree) (ps : List Point) → points_of ts ≡ Ok ps → length ts ≡ length ps
points_length [] ps e = grind (arith, common_steps)
points_length (u ∷ ts) ps e = on_first (point_of true u) (each (point_of false) ts) (each_length (point_of false) ts) e
  where
    on_first : (r : Result Point Spot) (rest : Result (List Point) Spot) → ((qs : List Point) → rest ≡ Ok qs → length ts ≡ length qs) → (r >>= λ p. rest >>= λ qs. Ok (p ∷ qs)) ≡ Ok ps → length (u ∷ ts) ≡ length ps
    on_first (Ok p) (Ok qs) shorter is = longer (length ts) (length qs) (length ps) (shorter qs refl) (ap length (same_value _ _ _ refl is))
    on_first (Ok p) (Err e) shorter is = cc
    on_first (Err e) rest shorter is = cc

-- ---- what is tested after the points

open_push : (ts : List Tree) (t : Tree) → starts_with_move (ts ++ t ∷ []) ≡ cond (is_nil ts) (is_move (type_of t)) (starts_with_move ts)
open_push [] t = refl
open_push (u ∷ ts) t = refl

first_push : (ts : List Tree) (t : Tree) → first_line (ts ++ t ∷ []) ≡ cond (is_nil ts) (cond (is_line (type_of t)) (Some (at_of t)) None) (first_line ts)
first_push [] t = refl
first_push (u ∷ ts) t = refl

-- whether the last point is on the curve, or else what holds before the first
abbrev last_on : Bool → List Point → Bool
last_on on [] = on
last_on on (p ∷ ps) = last_on p.on ps

ends_last : (p : Point) (ps : List Point) → ends_on (p ∷ ps) ≡ last_on p.on ps
ends_last p [] = refl
ends_last p (q ∷ ps) = later (length ps) refl ∙ ends_last q ps
  where
    later : (n : ℕ) → n ≡ length ps → ends_on (p ∷ q ∷ ps) ≡ ends_on (q ∷ ps)
    later n e = grind (arith, common_steps)

walk_push : (on : Bool) (ts : List Tree) (t : Tree) (ps : List Point) (p : Point) → length ts ≡ length ps
    → line_after_off on (ts ++ t ∷ []) (ps ++ p ∷ []) ≡ option_or (line_after_off on ts ps) (cond (is_line (type_of t) && not (last_on on ps)) (Some (at_of t)) None)
walk_push on [] t [] p same = refl
walk_push on [] t (q ∷ ps) p same = absurd (omega (arith, same))
walk_push on (u ∷ ts) t [] p same = absurd (omega (arith, same))
walk_push on (u ∷ ts) t (q ∷ ps) p same = found (walk_push q.on ts t ps p (omega (arith, same))) (is_line (type_of u) && not on)
  where
    later : Option ℕ
    later = cond (is_line (type_of t) && not (last_on q.on ps)) (Some (at_of t)) None

    found : line_after_off q.on (ts ++ t ∷ []) (ps ++ p ∷ []) ≡ option_or (line_after_off q.on ts ps) later → (b : Bool) → cond b (Some (at_of u)) (line_after_off q.on (ts ++ t ∷ []) (ps ++ p ∷ [])) ≡ option_or (cond b (Some (at_of u)) (line_after_off q.on ts ps)) later
    found ih true = refl
    found ih false = ih

apart : (e l : Bool) (at : ℕ) (found : Option ℕ) → option_or found (cond (l && not e) (Some at) None) ≡ cond e found (option_or found (cond l (Some at) None))
apart true true at None = refl
apart true true at (Some n) = refl
apart true false at None = refl
apart true false at (Some n) = refl
apart false true at found = refl
apart false false at found = refl

later_push : (ts : List Tree) (t : Tree) (ps : List Point) (p : Point) → length ts ≡ length ps
    → later_line (ts ++ t ∷ []) (ps ++ p ∷ []) ≡ cond (is_nil ps) None (cond (ends_on ps) (later_line ts ps) (option_or (later_line ts ps) (cond (is_line (type_of t)) (Some (at_of t)) None)))
later_push [] t [] p same = refl
later_push [] t (q ∷ ps) p same = absurd (omega (arith, same))
later_push (u ∷ ts) t [] p same = absurd (omega (arith, same))
later_push (u ∷ ts) t (q ∷ ps) p same =
    walk_push q.on ts t ps p (omega (arith, same)) ∙
    (ap (λ on. option_or (line_after_off q.on ts ps) (cond (is_line (type_of t) && not on) (Some (at_of t)) None)) (sym (ends_last q ps)) ∙
    apart (ends_on (q ∷ ps)) (is_line (type_of t)) (at_of t) (line_after_off q.on ts ps))

-- a later element
pub later_drawn : (ts : List Tree) (t : Tree) (old new : Drawn) (kind : PointType) (at : ℕ) (p : Point) → IsDrawn old ts → kind ≡ type_of t → at ≡ at_of t → points_of (ts ++ t ∷ []) ≡ Ok (old.points ++ p ∷ [])
    → is_nil old.points ≡ false → new.points ≡ old.points ++ p ∷ [] → new.is_open ≡ old.is_open → new.first_line ≡ old.first_line
    → new.later_line ≡ cond (ends_on old.points) old.later_line (option_or old.later_line (cond (is_line kind) (Some at) None)) → IsDrawn new (ts ++ t ∷ [])
later_drawn ts t old new kind at p before k a points some now opened first later =
    let same : length ts ≡ length old.points = points_length ts old.points before.points in
    let several : is_nil ts ≡ false = sym (nil_test ts) ∙ (ap (λ n. nat_eq n 0) same ∙ (nil_test old.points ∙ some)) in
    let line : cond (is_line kind) (Some at) None ≡ cond (is_line (type_of t)) (Some (at_of t)) None = rw (k, a) refl in
    record {
      points = points ∙ ap (λ (ps : List Point). Ok ps) (sym now);
      is_open = opened ∙ (before.is_open ∙ sym (open_push ts t ∙ ap (λ b. cond b (is_move (type_of t)) (starts_with_move ts)) several));
      first_line = first ∙ (before.first_line ∙ sym (first_push ts t ∙ ap (λ b. cond b (cond (is_line (type_of t)) (Some (at_of t)) None) (first_line ts)) several));
      later_line =
          later ∙ (ap (λ found. cond (ends_on old.points) old.later_line (option_or old.later_line found)) line ∙
          (ap (λ found. cond (ends_on old.points) found (option_or found (cond (is_line (type_of t)) (Some (at_of t)) None))) before.later_line ∙
          (sym (later_push ts t old.points p same ∙ ap (λ b. cond b None (cond (ends_on old.points) (later_line ts old.points) (option_or (later_line ts old.points) (cond (is_line (type_of t)) (Some (at_of t)) None)))) some) ∙
          ap (later_line (ts ++ t ∷ [])) (sym now))));
    }

-- ---- elements that draw, or the first fault

pub faulty_drawn : (fault : Option Spot) (drawn : Drawn) (ts : List Tree) (t : Tree) → is_some fault ≡ true → AreDrawn fault drawn ts → AreDrawn fault drawn (ts ++ t ∷ [])
faulty_drawn None drawn ts t some before = cc
faulty_drawn (Some spot) drawn ts t some before = faulty_push ts t spot before

pub point_drawn : (fault : Option Spot) (old new : Drawn) (pushed : Result (Unit {0}) NoMemory) (ts : List Tree) (t : Tree) (p : Point) → is_some fault ≡ false → AreDrawn fault old ts → point_of (is_nil old.points) t ≡ Ok p
    → (IsDrawn old ts → points_of (ts ++ t ∷ []) ≡ Ok (old.points ++ p ∷ []) → OnOk pushed (IsDrawn new (ts ++ t ∷ []))) → OnOk pushed (AreDrawn fault new (ts ++ t ∷ []))
point_drawn None old new pushed ts t p none before read next = next before (point_push ts t old.points (Ok p) before.points read)
point_drawn (Some spot) old new pushed ts t p none before read next = cc

pub fault_drawn : (fault : Option Spot) (old : Drawn) (ts : List Tree) (t : Tree) (spot : Spot) → is_some fault ≡ false → AreDrawn fault old ts → point_of (is_nil old.points) t ≡ Err spot → points_of (ts ++ t ∷ []) ≡ Err spot
fault_drawn None old ts t spot none before read = point_push ts t old.points (Err spot) before.points read
fault_drawn (Some other) old ts t spot none before read = cc
