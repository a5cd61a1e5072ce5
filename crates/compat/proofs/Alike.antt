-- Two outlines differ nowhere exactly where their kinds are equal, and two drawings have no unlike bases exactly where
-- their bases are equal.
use Rattle.std.proofs.Common.{◌≡◌, ℕ, suc, ◌+◌, Bool, true, false, List, [], ◌∷◌, length, map, Option, Some, None, refl, sym, ap, subst, arith, cond, ◌==◌, ◌&&◌}
use Rattle.std.proofs.Math.Bool.{beq}
use Rattle.std.specs.Prelude.{nat_eq}
use Rattle.std.specs.Option.{option_or}
use Rattle.std.specs.List.{common_prefix_len}
use Rattle.std.specs.Cmp.Lexicographic.{pointwise, same_text}
use Rattle.std.proofs.lemmas.Bool.{eqb-true, eq-eqb}
use Rattle.std.proofs.lemmas.List.{length-map}
use Rattle.std.proofs.lemmas.Cmp.{nat_list_eq_equiv}
use Rattle.glif.specs.declared.shape.Point.{Point}
use Rattle.glif.specs.declared.shape.Outline.{Outline}
use Rattle.glif.specs.declared.shape.Component.{Component}
use Rattle.glif.specs.declared.shape.Drawing.{Drawing}
use Rattle.glif.specs.Shapes.{contour_kinds}
use Rattle.compat.specs.Differences.{kind_difference, contour_difference, contours_difference, outline_difference, have_one_base, bases, base_difference}
use Rattle.compat.specs.declared.compared.Difference.{Difference}

-- ---- kinds

abbrev kinds_of : List Point → List Bool
kinds_of points = map (λ (point : Point). point.on) points

or_none_left : {A : Type 0} (a b : Option A) → option_or a b ≡ None → a ≡ None
or_none_left None b none = refl
or_none_left (Some x) b none = cc

or_none_right : {A : Type 0} (a b : Option A) → option_or a b ≡ None → b ≡ None
or_none_right None b none = none
or_none_right (Some x) b none = cc

both_none : {A : Type 0} (a b : Option A) → a ≡ None → b ≡ None → option_or a b ≡ None
both_none None b first second = second
both_none (Some x) b first second = cc

-- a choice of something or a difference that is nothing chose the first
none_then : {A : Type 0} (test : Bool) (chosen : Option A) (a : A) → cond test chosen (Some a) ≡ None → (test ≡ true) × (chosen ≡ None)
none_then true chosen a none = (refl, none)
none_then false chosen a none = cc

then_none : {A : Type 0} (test : Bool) (chosen other : Option A) → test ≡ true → chosen ≡ None → cond test chosen other ≡ None
then_none true chosen other holds none = none
then_none false chosen other holds none = cc

beq_same : (a b : Bool) → beq a b ≡ true → a ≡ b
beq_same true true same = refl
beq_same false false same = refl
beq_same true false same = cc
beq_same false true same = cc

same_beq : (a b : Bool) → a ≡ b → beq a b ≡ true
same_beq true true same = refl
same_beq false false same = refl
same_beq true false same = cc
same_beq false true same = cc

alike_kinds : (contour number : ℕ) (points others : List Point) → length points ≡ length others → kind_difference contour number points others ≡ None → kinds_of points ≡ kinds_of others
alike_kinds contour number [] [] same none = refl
alike_kinds contour number [] (other ∷ others) same none = cc
alike_kinds contour number (point ∷ points) [] same none = cc
alike_kinds contour number (point ∷ points) (other ∷ others) same none =
    let first = none_then (beq point.on other.on) (kind_difference contour (number + 1) points others) _ none in
    let on : point.on ≡ other.on = beq_same point.on other.on first.0 in
    let more = alike_kinds contour (number + 1) points others (omega (arith, same)) first.1 in
    cc (on, more)

same_length : {A B : Type 0} (f : A → B) (xs ys : List A) → map f xs ≡ map f ys → length xs ≡ length ys
same_length f xs ys same = simp length-map at (ap length same)

kinds_alike : (contour number : ℕ) (points others : List Point) → kinds_of points ≡ kinds_of others → kind_difference contour number points others ≡ None
kinds_alike contour number [] others same = refl
kinds_alike contour number (point ∷ points) [] same = refl
kinds_alike contour number (point ∷ points) (other ∷ others) same =
    let on : point.on ≡ other.on = cc in
    let more : kinds_of points ≡ kinds_of others = cc in
    then_none (beq point.on other.on) _ _ (same_beq point.on other.on on) (kinds_alike contour (number + 1) points others more)

alike_contour : (number : ℕ) (points others : List Point) → contour_difference number points others ≡ None → kinds_of points ≡ kinds_of others
alike_contour number points others none =
    let parts = none_then (nat_eq (length points) (length others)) (kind_difference number 0 points others) _ none in
    alike_kinds number 0 points others (eqb-true _ _ parts.0) parts.1

contour_alike : (number : ℕ) (points others : List Point) → kinds_of points ≡ kinds_of others → contour_difference number points others ≡ None
contour_alike number points others same =
    then_none (nat_eq (length points) (length others)) _ _ (eq-eqb _ _ (same_length (λ (point : Point). point.on) points others same)) (kinds_alike number 0 points others same)

alike_contours : (number : ℕ) (contours others : List (List Point)) → length contours ≡ length others → contours_difference number contours others ≡ None → map kinds_of contours ≡ map kinds_of others
alike_contours number [] [] same none = refl
alike_contours number [] (other ∷ others) same none = cc
alike_contours number (points ∷ contours) [] same none = cc
alike_contours number (points ∷ contours) (other ∷ others) same none =
    let first : kinds_of points ≡ kinds_of other = alike_contour number points other (or_none_left _ _ none) in
    let more : map kinds_of contours ≡ map kinds_of others = alike_contours (number + 1) contours others (omega (arith, same)) (or_none_right _ _ none) in
    cc (first, more)

contours_alike : (number : ℕ) (contours others : List (List Point)) → map kinds_of contours ≡ map kinds_of others → contours_difference number contours others ≡ None
contours_alike number [] others same = refl
contours_alike number (points ∷ contours) [] same = refl
contours_alike number (points ∷ contours) (other ∷ others) same =
    let first : kinds_of points ≡ kinds_of other = cc in
    let more : map kinds_of contours ≡ map kinds_of others = cc in
    both_none _ _ (contour_alike number points other first) (contours_alike (number + 1) contours others more)

pub none_alike : (a b : Outline) → outline_difference a b ≡ None → contour_kinds a ≡ contour_kinds b
none_alike a b none =
    let parts = none_then (nat_eq (length a.contours) (length b.contours)) (contours_difference 0 a.contours b.contours) _ none in
    alike_contours 0 a.contours b.contours (eqb-true _ _ parts.0) parts.1

pub alike_none : (a b : Outline) → contour_kinds a ≡ contour_kinds b → outline_difference a b ≡ None
alike_none a b same =
    then_none (nat_eq (length a.contours) (length b.contours)) _ _ (eq-eqb _ _ (same_length kinds_of a.contours b.contours same)) (contours_alike 0 a.contours b.contours same)

-- ---- bases

abbrev names : List Component → List (List ℕ)
names components = map (λ (component : Component). component.base) components

same_base : (a b : Component) → have_one_base a b ≡ true → a.base ≡ b.base
same_base a b same = same_text a.base b.base (sym same)

base_same : (a b : Component) → a.base ≡ b.base → have_one_base a b ≡ true
base_same a b same = subst (λ name. pointwise ◌==◌ a.base name ≡ true) same (nat_list_eq_equiv.refl a.base)

common_step : (e : Bool) (rest n : ℕ) → cond e (1 + rest) 0 ≡ suc n → (e ≡ true) × (rest ≡ n)
common_step true rest n same = (refl, omega (arith, same))
common_step false rest n same = absurd (omega (arith, same))

all_common : (first second : List Component) → common_prefix_len have_one_base first second ≡ length first → common_prefix_len have_one_base first second ≡ length second → names first ≡ names second
all_common [] [] ends meets = refl
all_common [] (b ∷ more) ends meets = cc
all_common (a ∷ more) [] ends meets = cc
all_common (a ∷ first) (b ∷ second) ends meets =
    let head = common_step (have_one_base a b) (common_prefix_len have_one_base first second) (length first) ends in
    let tail = common_step (have_one_base a b) (common_prefix_len have_one_base first second) (length second) meets in
    let one = same_base a b head.0 in
    let more = all_common first second head.1 tail.1 in
    cc (one, more)

common_all : (first second : List Component) → names first ≡ names second → (common_prefix_len have_one_base first second ≡ length first) × (common_prefix_len have_one_base first second ≡ length second)
common_all [] [] same = (refl, refl)
common_all [] (b ∷ second) same = cc
common_all (a ∷ first) [] same = cc
common_all (a ∷ first) (b ∷ second) same =
    let one : a.base ≡ b.base = cc in
    let more = common_all first second cc in
    rw (base_same a b one) (omega (arith, more.0), omega (arith, more.1))

none_both : (p q : Bool) (d : Difference) → cond (p && q) None (Some d) ≡ None → (p ≡ true) × (q ≡ true)
none_both true true d none = (refl, refl)
none_both true false d none = cc
none_both false q d none = cc

pub none_common : (a b : Drawing) → base_difference a b ≡ None → bases a ≡ bases b
none_common a b none =
    let parts = none_both (nat_eq (common_prefix_len have_one_base a.components b.components) (length a.components)) (nat_eq (common_prefix_len have_one_base a.components b.components) (length b.components)) _ none in
    all_common a.components b.components (eqb-true _ _ parts.0) (eqb-true _ _ parts.1)

pub common_none : (a b : Drawing) → bases a ≡ bases b → base_difference a b ≡ None
common_none a b same =
    let all = common_all a.components b.components same in
    rw (eq-eqb _ _ all.0, eq-eqb _ _ all.1) refl
