-- Lists of filters of which nothing changes but their counts.
use Rattle.std.proofs.Common.{◌≡◌, ℕ, zero, suc, ◌+◌, ℤ, Bool, List, [], ◌∷◌, ◌++◌, length, map, take, drop, get_or, Option, refl, sym, ◌∙◌, ap, arith, append-nil, take_all}
use Rattle.std.proofs.lemmas.List.{length-map, drop_all}
use Rattle.filters.specs.Applied.{counted}
use Rattle.glif.specs.declared.shape.Outline.{Outline}
use Rattle.font_project.specs.Filtering.{Image, Seen, image_under, kinds_under, raised, seen}
use Rattle.font_project.specs.Images.{Kinds}

-- what contracts see of filters
pub record Members (A : Type 0) : Type 0 where
  pub called : A → List ℕ
  pub setting : A → List ℤ
  pub setting_of : A → List ℕ → Option (List ℤ)
  pub image : A → List ℤ → Outline → Outline
  pub kinds : A → List ℤ → List (List Bool) → List (List Bool)
  pub touches : A → ℕ

abbrev pub seen_by : {A : Type 0} → Members A → List A → List Seen
seen_by m filters = map (seen m.called m.setting m.setting_of m.image m.kinds) filters

abbrev pub images_by : {A : Type 0} → Members A → List A → List Image
images_by m filters = map (λ filter. m.image filter (m.setting filter)) filters

abbrev pub kinds_by : {A : Type 0} → Members A → List A → List Kinds
kinds_by m filters = map (λ filter. m.kinds filter (m.setting filter)) filters

first_same : {A : Type 0} (x y : A) (xs ys : List A) → x ∷ xs ≡ y ∷ ys → x ≡ y
first_same x y xs ys same = ap (λ zs. get_or zs 0 x) same

rest_same : {A : Type 0} (x y : A) (xs ys : List A) → x ∷ xs ≡ y ∷ ys → xs ≡ ys
rest_same x y xs ys same = ap (drop 1) same

module _ {A : Type 0} (called : A → List ℕ) (setting : A → List ℤ) (setting_of : A → List ℕ → Option (List ℤ)) (image : A → List ℤ → Outline → Outline)
    (kinds : A → List ℤ → List (List Bool) → List (List Bool)) where
  -- what is seen of filters is the same where each part is
  pub all_same : (new old : List A) → map setting new ≡ map setting old → map called new ≡ map called old → map setting_of new ≡ map setting_of old → map image new ≡ map image old
      → map kinds new ≡ map kinds old → map (seen called setting setting_of image kinds) new ≡ map (seen called setting setting_of image kinds) old
  all_same [] [] settings names texts images followed = refl
  all_same [] (y ∷ ys) settings names texts images followed = absurd cc
  all_same (x ∷ xs) [] settings names texts images followed = absurd cc
  all_same (x ∷ xs) (y ∷ ys) settings names texts images followed =
      let rest = all_same xs ys (rest_same _ _ _ _ settings) (rest_same _ _ _ _ names) (rest_same _ _ _ _ texts) (rest_same _ _ _ _ images) (rest_same _ _ _ _ followed) in
      let first : seen called setting setting_of image kinds x ≡ seen called setting setting_of image kinds y =
      λ i. record { called = first_same _ _ _ _ names i; setting = first_same _ _ _ _ settings i; setting_of = first_same _ _ _ _ texts i; image = first_same _ _ _ _ images i; kinds = first_same _ _ _ _ followed i } in
      ap (λ z. z ∷ map (seen called setting setting_of image kinds) xs) first ∙ ap (λ zs. seen called setting setting_of image kinds y ∷ zs) rest

  seen_images : (filters : List A) → map image_under (map (seen called setting setting_of image kinds) filters) ≡ map (λ filter. image filter (setting filter)) filters
  seen_images [] = refl
  seen_images (x ∷ xs) = ap (λ zs. image x (setting x) ∷ zs) (seen_images xs)

  seen_kinds : (filters : List A) → map kinds_under (map (seen called setting setting_of image kinds) filters) ≡ map (λ filter. kinds filter (setting filter)) filters
  seen_kinds [] = refl
  seen_kinds (x ∷ xs) = ap (λ zs. kinds x (setting x) ∷ zs) (seen_kinds xs)

  -- their images, and the kinds of these, stay
  pub images_stay : (new old : List A) → map (seen called setting setting_of image kinds) new ≡ map (seen called setting setting_of image kinds) old
      → map (λ filter. image filter (setting filter)) new ≡ map (λ filter. image filter (setting filter)) old
  images_stay new old same = sym (seen_images new) ∙ (ap (map image_under) same ∙ seen_images old)

  pub kinds_stay : (new old : List A) → map (seen called setting setting_of image kinds) new ≡ map (seen called setting setting_of image kinds) old
      → map (λ filter. kinds filter (setting filter)) new ≡ map (λ filter. kinds filter (setting filter)) old
  kinds_stay new old same = sym (seen_kinds new) ∙ (ap (map kinds_under) same ∙ seen_kinds old)

-- ---- counts

-- all of so many filters were called once
pub called_once : (count : ℕ) (touches new : List ℕ) → length touches ≡ count → new ≡ map counted (take count touches) ++ drop count touches → new ≡ map (raised 1) touches
called_once count touches new sized is =
    is ∙ (ap (λ zs. map counted zs ++ drop count touches) (take_all count touches (omega (arith, sized)))
    ∙ (ap (λ zs. map counted touches ++ zs) (drop_all count touches (omega (arith, sized))) ∙ append-nil (map counted touches)))

twice : (first then touches : ℕ) → raised then (raised first touches) ≡ raised (first + then) touches
twice first zero touches =
    let same : first ≡ first + 0 = omega arith in
    ap (λ n. raised n touches) same
twice first (suc then) touches =
    let same : suc (first + then) ≡ first + suc then = omega arith in
    ap counted (twice first then touches) ∙ ap (λ n. raised n touches) same

-- calls after calls
pub raised_more : (first then : ℕ) (touches : List ℕ) → map (raised then) (map (raised first) touches) ≡ map (raised (first + then)) touches
raised_more first then [] = refl
raised_more first then (x ∷ xs) = ap (λ z. z ∷ map (raised then) (map (raised first) xs)) (twice first then x) ∙ ap (λ zs. raised (first + then) x ∷ zs) (raised_more first then xs)

pub raised_none : (touches : List ℕ) → touches ≡ map (raised 0) touches
raised_none [] = refl
raised_none (x ∷ xs) = ap (λ zs. x ∷ zs) (raised_none xs)
