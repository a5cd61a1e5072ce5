-- Filters that are taken out of those handed in.
use Rattle.std.proofs.Common.{◌≡◌, ℕ, ℤ, Bool, true, false, List, [], ◌∷◌, ◌++◌, map, Option, Some, None, Result, Ok, Err, refl, sym, ◌∙◌, ap, subst, append_assoc}
use Rattle.std.specs.Prelude.{filter, find, is_some, option_map, unwrap_or}
use Rattle.std.specs.List.{list_any}
use Rattle.std.specs.Str.{bytes_eq}
use Rattle.std.proofs.lemmas.Option.{same_Some}
use Rattle.basics.specs.Reading.{◌>>=◌, with_prefix}
use Rattle.vfb.specs.Named.{without}
use Rattle.glif.specs.declared.shape.Outline.{Outline}
use Rattle.commands.specs.Command.{FilterWord}
use Rattle.vfb.specs.Calls.{Handed, Image, Misuse, called_filter, image_by, image_of, images_of, is_called, only, seen}
use Rattle.vfb.specs.Choosing.{Configures}

-- what contracts see of filters
pub record Members (A : Type 0) : Type 0 where
  pub called : A → List ℕ
  pub setting_of : A → List ℕ → Option (List ℤ)
  pub image : A → List ℤ → Outline → Outline

abbrev pub seen_by : {A : Type 0} → Members A → A → Handed
seen_by m filter = seen m.called m.setting_of m.image filter

abbrev pub all_seen : {A : Type 0} → Members A → List A → List Handed
all_seen m filters = map (seen_by m) filters

abbrev pub image_now : {A : Type 0} → Members A → (A → List ℤ) → A → Image
image_now m setting_now filter = m.image filter (setting_now filter)

module _ {A : Type 0} (m : Members A) (name : List ℕ) where
  abbrev has_name : A → Bool
  has_name filter = bytes_eq (m.called filter) name

  abbrev named : List A → List Handed
  named xs = filter (is_called name) (all_seen m xs)

  none_step : (x : A) (xs : List A) (b : Bool) → has_name x ≡ b → None ≡ find has_name (x ∷ xs) → (None ≡ find has_name xs → named xs ≡ []) → named (x ∷ xs) ≡ []
  none_step x xs true is none more = absurd (let e : None ≡ Some x = none ∙ rw is refl in cc)
  none_step x xs false is none more = rw is (more (none ∙ rw is refl))

  named_none : (xs : List A) → None ≡ find has_name xs → named xs ≡ []
  named_none [] none = refl
  named_none (x ∷ xs) none = none_step x xs (has_name x) refl none (named_none xs)

  first_step : (x : A) (xs : List A) (f : A) (b : Bool) → has_name x ≡ b → Some f ≡ find has_name (x ∷ xs) → (Some f ≡ find has_name xs → named xs ≡ seen_by m f ∷ named (without has_name xs))
      → named (x ∷ xs) ≡ seen_by m f ∷ named (without has_name (x ∷ xs))
  first_step x xs f true is some more =
      let same : f ≡ x = same_Some f x (some ∙ rw is refl) in
      rw is (ap (λ y. seen_by m y ∷ named xs) (sym same))
  first_step x xs f false is some more = rw (is, is) (more (some ∙ rw is refl))

  named_first : (xs : List A) (f : A) → Some f ≡ find has_name xs → named xs ≡ seen_by m f ∷ named (without has_name xs)
  named_first [] f some = absurd cc
  named_first (x ∷ xs) f some = first_step x xs f (has_name x) refl some (named_first xs f)

  abbrev IsNonempty : List Handed → Type 0
  IsNonempty found = (first : Handed) × (rest : List Handed) × (found ≡ first ∷ rest)

  some_step : (x : A) (xs : List A) (b : Bool) → has_name x ≡ b → list_any has_name (x ∷ xs) ≡ true → (list_any has_name xs ≡ true → IsNonempty (named xs)) → IsNonempty (named (x ∷ xs))
  some_step x xs true is some more = (seen_by m x, named xs, rw is refl)
  some_step x xs false is some more =
      let rest : IsNonempty (named xs) = more (sym (let e : list_any has_name (x ∷ xs) ≡ list_any has_name xs = rw is refl in e) ∙ some) in
      let same : named (x ∷ xs) ≡ named xs = rw is refl in
      (rest.0, rest.1, same ∙ rest.2)

  named_some : (xs : List A) → list_any has_name xs ≡ true → IsNonempty (named xs)
  named_some [] some = absurd cc
  named_some (x ∷ xs) some = some_step x xs (has_name x) refl some (named_some xs)

  alone_step : (x : A) (xs : List A) (b : Bool) → has_name x ≡ b → list_any has_name (x ∷ xs) ≡ false → (list_any has_name xs ≡ false → named xs ≡ []) → named (x ∷ xs) ≡ []
  alone_step x xs true is none more = absurd (let e : list_any has_name (x ∷ xs) ≡ true = rw is refl in cc)
  alone_step x xs false is none more = rw is (more (sym (let e : list_any has_name (x ∷ xs) ≡ list_any has_name xs = rw is refl in e) ∙ none))

  named_alone : (xs : List A) → list_any has_name xs ≡ false → named xs ≡ []
  named_alone [] none = refl
  named_alone (x ∷ xs) none = alone_step x xs (has_name x) refl none (named_alone xs)

  -- ---- the one of a name

  pub only_none : (old : List A) → None ≡ find has_name old → None ≡ only (named old)
  only_none old none = sym (ap only (named_none old none))

  pub only_two : (old new : List A) (f : A) → Some f ≡ find has_name old → new ≡ without has_name old → list_any has_name new ≡ true → None ≡ only (named old)
  only_two old new f some is other =
      let more = named_some (without has_name old) (subst (λ xs. list_any has_name xs ≡ true) is other) in
      sym (ap only (named_first old f some ∙ ap (λ rest. seen_by m f ∷ rest) more.2))

  pub only_one : (old new : List A) (f : A) → Some f ≡ find has_name old → new ≡ without has_name old → list_any has_name new ≡ false → Some (seen_by m f) ≡ only (named old)
  only_one old new f some is none =
      sym (ap only (named_first old f some ∙ ap (λ rest. seen_by m f ∷ rest) (named_alone (without has_name old) (subst (λ xs. list_any has_name xs ≡ false) is none))))

  without_step : (x : A) (xs : List A) (b : Bool) → has_name x ≡ b → all_seen m (without has_name xs) ≡ without (is_called name) (all_seen m xs)
      → all_seen m (without has_name (x ∷ xs)) ≡ without (is_called name) (all_seen m (x ∷ xs))
  without_step x xs true is more =
      let left : all_seen m (without has_name (x ∷ xs)) ≡ all_seen m xs = rw is refl in
      let right : without (is_called name) (all_seen m (x ∷ xs)) ≡ all_seen m xs = rw is refl in
      left ∙ sym right
  without_step x xs false is more =
      let left : all_seen m (without has_name (x ∷ xs)) ≡ seen_by m x ∷ all_seen m (without has_name xs) = rw is refl in
      let right : without (is_called name) (all_seen m (x ∷ xs)) ≡ seen_by m x ∷ without (is_called name) (all_seen m xs) = rw is refl in
      left ∙ (ap (λ rest. seen_by m x ∷ rest) more ∙ sym right)

  without_seen : (xs : List A) → all_seen m (without has_name xs) ≡ without (is_called name) (all_seen m xs)
  without_seen [] = refl
  without_seen (x ∷ xs) = without_step x xs (has_name x) refl (without_seen xs)

  pub others_seen : (old new : List A) → new ≡ without has_name old → all_seen m new ≡ without (is_called name) (all_seen m old)
  others_seen old new is = ap (all_seen m) is ∙ without_seen old

-- ---- the one that a word asks for

module _ {A : Type 0} (m : Members A) (setting_now : A → List ℤ) (word : FilterWord) where
  pub not_there : (found : Option Handed) → None ≡ found → image_of word found ≡ Err (called_filter word.name)
  not_there found none = ap (image_of word) (sym none)

  taken_by : (old new : A) (found : Option (List ℤ)) → m.setting_of old word.text ≡ found → m.image new ≡ m.image old → setting_now new ≡ unwrap_or found (setting_now old) → is_some found ≡ true
      → image_by (seen_by m old) (m.setting_of old word.text) word.name ≡ Ok (image_now m setting_now new)
  taken_by old new None is image set some = absurd cc
  taken_by old new (Some setting) is image set some = rw is (ap (λ image. Ok (image setting)) (sym image) ∙ ap (λ setting. Ok (m.image new setting)) (sym set))

  pub taken : (found : Option Handed) (old new : A) → Some (seen_by m old) ≡ found → m.image new ≡ m.image old → setting_now new ≡ unwrap_or (m.setting_of old word.text) (setting_now old) → is_some (m.setting_of old word.text) ≡ true
      → image_of word found ≡ Ok (image_now m setting_now new)
  taken found old new is image set some = ap (image_of word) (sym is) ∙ taken_by old new (m.setting_of old word.text) refl image set some

  refused_by : (old : A) (found : Option (List ℤ)) → m.setting_of old word.text ≡ found → is_some found ≡ false → image_by (seen_by m old) (m.setting_of old word.text) word.name ≡ Err (called_filter word.name)
  refused_by old None is none = rw is refl
  refused_by old (Some setting) is none = absurd cc

  pub refused : (found : Option Handed) (old : A) → Some (seen_by m old) ≡ found → is_some (m.setting_of old word.text) ≡ false → image_of word found ≡ Err (called_filter word.name)
  refused found old is none = ap (image_of word) (sym is) ∙ refused_by old (m.setting_of old word.text) refl none

-- ---- word by word

one_before : {A F : Type 0} (chosen : List A) (y : A) (read : Result (List A) F) → with_prefix chosen (read >>= λ ys. Ok (y ∷ ys)) ≡ with_prefix (chosen ++ y ∷ []) read
one_before chosen y (Ok ys) = ap Ok (sym (append_assoc chosen (y ∷ []) ys))
one_before chosen y (Err misuse) = refl

pub one_more : (handed : List Handed) (word : FilterWord) (words : List FilterWord) (chosen : List Image) (image : Image) → image_of word (only (filter (is_called word.name) handed)) ≡ Ok image
    → with_prefix chosen (images_of handed (word ∷ words)) ≡ with_prefix (chosen ++ image ∷ []) (images_of (without (is_called word.name) handed) words)
one_more handed word words chosen image is = rw is (one_before chosen image (images_of (without (is_called word.name) handed) words))

pub one_wrong : (handed : List Handed) (word : FilterWord) (words : List FilterWord) (chosen : List Image) (misuse : Misuse) → image_of word (only (filter (is_called word.name) handed)) ≡ Err misuse
    → with_prefix chosen (images_of handed (word ∷ words)) ≡ Err misuse
one_wrong handed word words chosen misuse is = rw is refl

pub whole : {A F : Type 0} (read : Result (List A) F) → with_prefix [] read ≡ read
whole (Ok xs) = refl
whole (Err misuse) = refl
