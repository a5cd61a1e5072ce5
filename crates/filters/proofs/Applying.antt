-- Filters in order, of which some were applied.
use Rattle.std.proofs.Common.{◌≡◌, ◌<◌, ℕ, zero, suc, ◌+◌, ℤ, Bool, List, [], ◌∷◌, ◌++◌, length, map, take, drop, set, get_or, Option, None, Ok, Err, refl, sym, ◌∙◌, ap, subst, arith, add-one}
use Rattle.std.specs.Prelude.{sum_by, fold}
use Rattle.std.proofs.lemmas.List.{drop_more, length-set, length-map, drop-set-lt, map-set}
use Rattle.std.proofs.lemmas.Grind.{drop_more_same}
use Rattle.std.proofs.Math.ListN.{get_or-map}
use Rattle.basics.specs.Reading.{◌>>=◌}
use Rattle.glif.specs.declared.shape.Outline.{Outline}
use Rattle.glif.specs.FirstOutside.{first_outside}
use Rattle.glif.specs.Limits.{IsWithinLimits}
use Rattle.glif.specs.Shapes.{contour_kinds}
use Rattle.filters.specs.declared.refusal.FilterRefusal.{FilterRefusal}
use Rattle.filters.specs.declared.refusal.FilterRefusal.TheVariants.{NoMemory, Range}
use Rattle.filters.specs.Applied.{Applies, counted}
use Rattle.filters.specs.InOrder.{unless_outside, through, AppliesAll}

-- what contracts see of filters
pub record Members (A : Type 0) : Type 0 where
  pub called : A → List ℕ
  pub setting : A → List ℤ
  pub setting_of : A → List ℕ → Option (List ℤ)
  pub image : A → List ℤ → Outline → Outline
  pub kinds : A → List ℤ → List (List Bool) → List (List Bool)
  pub touches : A → ℕ

-- a filter before a call that applies it and after that
pub record IsTouched {A : Type 0} (m : Members A) (old new : A) : Type 0 where
  pub touches : m.touches new ≡ counted (m.touches old)
  pub setting : m.setting new ≡ m.setting old
  pub name : m.called new ≡ m.called old
  pub texts : m.setting_of new ≡ m.setting_of old
  pub image : m.image new ≡ m.image old
  pub kinds : m.kinds new ≡ m.kinds old

abbrev pub counts : {A : Type 0} → Members A → ℕ → List A → List ℕ
counts m n filters = map counted (take n (map m.touches filters)) ++ drop n (map m.touches filters)

-- the first n of the filters were applied once
pub record AreTouched {A : Type 0} (old new : List A) (m : Members A) (n : ℕ) : Type 0 where
  pub sizes : length new ≡ length old
  pub rest : drop n new ≡ drop n old
  pub touches : map m.touches new ≡ counts m n old
  pub settings : map m.setting new ≡ map m.setting old
  pub names : map m.called new ≡ map m.called old
  pub texts : map m.setting_of new ≡ map m.setting_of old
  pub images : map m.image new ≡ map m.image old
  pub kinds : map m.kinds new ≡ map m.kinds old

pub none_touched : {A : Type 0} (filters : List A) (m : Members A) → AreTouched filters filters m 0
none_touched filters m = record {
  sizes = refl;
  rest = refl;
  touches = refl;
  settings = refl;
  names = refl;
  texts = refl;
  images = refl;
  kinds = refl;
}

-- ---- one of a list is replaced

map-set_same : {A B : Type 0} (f : A → B) (xs : List A) (n : ℕ) (x y : A) → x ≡ get_or xs n x → f y ≡ f x → map f (set xs n y) ≡ map f xs
map-set_same f [] n x y is same = refl
map-set_same f (first ∷ xs) zero x y is same = ap (λ z. z ∷ map f xs) (same ∙ ap f is)
map-set_same f (first ∷ xs) (suc n) x y is same = ap (λ zs. f first ∷ zs) (map-set_same f xs n x y is same)

-- what is left of a list from one of it on
drop-map_at : {A B : Type 0} (f : A → B) (xs : List A) (n : ℕ) (x : A) → n < length xs → x ≡ get_or xs n x → drop n (map f xs) ≡ f x ∷ drop (n + 1) (map f xs)
drop-map_at f xs n x less is =
    let sizes : length (map f xs) ≡ length xs = simp length-map in
    drop_more (map f xs) n (f x) (omega (arith, sizes, less)) ∙ ap (λ y. y ∷ drop (n + 1) (map f xs)) (get_or-map f xs n x ∙ ap f (sym is))

-- one that is left of two lists alike
at_rest : {A : Type 0} (old new : List A) (n : ℕ) (x : A) → drop n new ≡ drop n old → n < length new → n < length old → x ≡ get_or new n x → x ≡ get_or old n x
at_rest old new n x rest less within is =
    let a = drop_more new n x less in
    let b = drop_more old n x within in
    let same : get_or new n x ≡ get_or old n x = cc in is ∙ same

map-set_next : (f : ℕ → ℕ) (xs : List ℕ) (n d : ℕ) → n < length xs → set (map f (take n xs) ++ drop n xs) n (f (get_or xs n d)) ≡ map f (take (suc n) xs) ++ drop (suc n) xs
map-set_next f [] n d less = absurd (omega (arith, less))
map-set_next f (x ∷ xs) zero d less = refl
map-set_next f (x ∷ xs) (suc n) d less = ap (λ ys. f x ∷ ys) (map-set_next f xs n d (omega (arith, less)))

counts_more : {A : Type 0} (m : Members A) (old new : List A) (n : ℕ) (x y : A) → n < length old → x ≡ get_or old n x → m.touches y ≡ counted (m.touches x) → map m.touches new ≡ counts m n old → map m.touches (set new n y) ≡ counts m (n + 1) old
counts_more m old new n x y less is rises before =
    let sizes : length (map m.touches old) ≡ length old = simp length-map in
    let here : m.touches y ≡ counted (get_or (map m.touches old) n (m.touches x)) = rises ∙ ap counted (ap m.touches is ∙ sym (get_or-map m.touches old n x)) in
    map-set m.touches new n y ∙ (ap (λ ts. set ts n (m.touches y)) before ∙ (ap (set (counts m n old) n) here
    ∙ (map-set_next counted (map m.touches old) n (m.touches x) (omega (arith, sizes, less)) ∙ ap (λ k. counts m k old) (sym (add-one n)))))

pub touched_more : {A : Type 0} (old new : List A) (m : Members A) (n : ℕ) (x y : A) → AreTouched old new m n → n < length new → x ≡ get_or new n x → IsTouched m x y → AreTouched old (set new n y) m (n + 1)
touched_more old new m n x y before less is one =
    let within : n < length old = omega (arith, before.sizes) in
    record {
      sizes = length-set new n y ∙ before.sizes;
      rest = drop-set-lt (n + 1) new n y (omega arith) ∙ drop_more_same new old n before.rest;
      touches = counts_more m old new n x y within (at_rest old new n x before.rest less within is) one.touches before.touches;
      settings = map-set_same m.setting new n x y is one.setting ∙ before.settings;
      names = map-set_same m.called new n x y is one.name ∙ before.names;
      texts = map-set_same m.setting_of new n x y is one.texts ∙ before.texts;
      images = map-set_same m.image new n x y is one.image ∙ before.images;
      kinds = map-set_same m.kinds new n x y is one.kinds ∙ before.kinds;
    }

-- ---- the outline so far

abbrev pub images_of : {A : Type 0} → Members A → List A → List (Outline → Outline)
images_of m filters = map (λ x. m.image x (m.setting x)) filters

abbrev pub kinds_of : {A : Type 0} → Members A → List A → List (List (List Bool) → List (List Bool))
kinds_of m filters = map (λ x. m.kinds x (m.setting x)) filters

abbrev pub follow_all : List (List (List Bool) → List (List Bool)) → List (List Bool) → List (List Bool)
follow_all steps kinds = fold (λ kinds follow. follow kinds) kinds steps

-- the outline, after the first n filters of an outline at the start
pub record IsImageSoFar {A : Type 0} (filters : List A) (m : Members A) (n : ℕ) (start outline : Outline) : Type 0 where
  pub within : IsWithinLimits outline
  pub answer : through n (drop n (images_of m filters)) outline ≡ through 0 (images_of m filters) start
  pub kinds : follow_all (drop n (kinds_of m filters)) (contour_kinds outline) ≡ follow_all (kinds_of m filters) (contour_kinds start)
  pub points : sum_by length outline.contours ≡ sum_by length start.contours

next_through : (n : ℕ) (image : Outline → Outline) (images : List (Outline → Outline)) (outline made : Outline) → made ≡ image outline → first_outside (image outline) ≡ None → through (n + 1) images made ≡ through n (image ∷ images) outline
next_through n image images outline made same none =
    ap (through (n + 1) images) same ∙ sym (ap (λ o. unless_outside n (image outline) o >>= through (n + 1) images) none)

pub at_start : {A : Type 0} (filters : List A) (m : Members A) (start : Outline) → IsWithinLimits start → IsImageSoFar filters m 0 start start
at_start filters m start within = record { within = within; answer = refl; kinds = refl; points = refl }

pub image_more : {A : Type 0} (filters : List A) (m : Members A) (n : ℕ) (start outline made : Outline) (x : A) → IsImageSoFar filters m n start outline → n < length filters → x ≡ get_or filters n x
    → Applies (m.image x (m.setting x) outline) (Ok made) → contour_kinds made ≡ m.kinds x (m.setting x) (contour_kinds outline) → sum_by length made.contours ≡ sum_by length outline.contours
    → IsImageSoFar filters m (n + 1) start made
image_more filters m n start outline made x so_far less is answer follows counts =
    let images = drop-map_at (λ x. m.image x (m.setting x)) filters n x less is in
    let kinds = drop-map_at (λ x. m.kinds x (m.setting x)) filters n x less is in
    let none = answer.2 in
    let same = answer.0 in
    record {
      within = subst IsWithinLimits (sym answer.0) answer.1;
      answer = next_through n (m.image x (m.setting x)) (drop (n + 1) (images_of m filters)) outline made same none ∙ (ap (λ images. through n images outline) (sym images) ∙ so_far.answer);
      kinds = ap (follow_all (drop (n + 1) (kinds_of m filters))) follows ∙ (ap (λ steps. follow_all steps (contour_kinds outline)) (sym kinds) ∙ so_far.kinds);
      points = counts ∙ so_far.points;
    }

-- a filter refused
pub stopped : {A : Type 0} (filters : List A) (m : Members A) (n : ℕ) (start outline : Outline) (x : A) (refusal : FilterRefusal) → IsImageSoFar filters m n start outline → n < length filters → x ≡ get_or filters n x
    → Applies (m.image x (m.setting x) outline) (Err refusal) → AppliesAll (through 0 (images_of m filters) start) (Err (n, refusal))
stopped filters m n start outline x (Range value) so_far less is outside =
    let images = drop-map_at (λ x. m.image x (m.setting x)) filters n x less is in
    sym so_far.answer ∙ (ap (λ images. through n images outline) images ∙ ap (λ o. unless_outside n (m.image x (m.setting x) outline) o >>= through (n + 1) (drop (n + 1) (images_of m filters))) outside)
stopped filters m n start outline x NoMemory so_far less is outside = tt

-- the first n filters were applied, and this is the outline so far
pub record AreApplying {A : Type 0} (old new : List A) (n : ℕ) (start outline : Outline) (m : Members A) : Type 0 where
  pub touched : AreTouched old new m n
  pub image : IsImageSoFar old m n start outline

pub at_first : {A : Type 0} (filters : List A) (start : Outline) (m : Members A) → IsWithinLimits start → AreApplying filters filters 0 start start m
at_first filters start m within = record { touched = none_touched filters m; image = at_start filters m start within }

pub one_more : {A : Type 0} (old new : List A) (n : ℕ) (start outline made : Outline) (m : Members A) (x y : A) → AreApplying old new n start outline m → n < length new → x ≡ get_or new n x → IsTouched m x y
    → Applies (m.image x (m.setting x) outline) (Ok made) → contour_kinds made ≡ m.kinds x (m.setting x) (contour_kinds outline) → sum_by length made.contours ≡ sum_by length outline.contours
    → AreApplying old (set new n y) (n + 1) start made m
one_more old new n start outline made m x y before less is one answer follows counts =
    let within : n < length old = omega (arith, before.touched.sizes) in
    let was = at_rest old new n x before.touched.rest less within is in
    record {
      touched = touched_more old new m n x y before.touched less is one;
      image = image_more old m n start outline made x before.image within was answer follows counts;
    }

-- one filter more is touched, whatever it answers
pub also_touched : {A : Type 0} (old new : List A) (n : ℕ) (start outline : Outline) (m : Members A) (x y : A) → AreApplying old new n start outline m → n < length new → x ≡ get_or new n x → IsTouched m x y → AreTouched old (set new n y) m (n + 1)
also_touched old new n start outline m x y before less is one = touched_more old new m n x y before.touched less is one

pub refused : {A : Type 0} (old new : List A) (n : ℕ) (start outline : Outline) (m : Members A) (x : A) (refusal : FilterRefusal) → AreApplying old new n start outline m → n < length new → x ≡ get_or new n x
    → Applies (m.image x (m.setting x) outline) (Err refusal) → AppliesAll (through 0 (images_of m old) start) (Err (n, refusal))
refused old new n start outline m x refusal before less is answer =
    let within : n < length old = omega (arith, before.touched.sizes) in
    stopped old m n start outline x refusal before.image within (at_rest old new n x before.touched.rest less within is) answer
