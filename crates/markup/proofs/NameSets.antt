-- A set of names and one name more.
use Rattle.std.proofs.Common.{◌≡◌, ℕ, Bool, true, false, cond, ◌||◌, List, [], ◌∷◌, ◌++◌, Some, refl, sym, ap, ◌∙◌}
use Rattle.std.specs.Bool.{OnFalse}
use Rattle.std.specs.List.{list_any}
use Rattle.std.specs.Str.{bytes_eq}
use Rattle.std.specs.Ordering.{is_eq}
use Rattle.std.specs.BTreeSet.{BTreeSet, contains, Updates, IsUnchanged}
use Rattle.std.proofs.lemmas.Bool.{false_from_ne_true}
use Rattle.std.proofs.lemmas.List.Folds.{list_any-append}
use Rattle.std.proofs.lemmas.Map.Text.{is_eq-slice_cmp}
use Rattle.std.proofs.lemmas.Slice.Eq.{bytes_eq-Decides}
use Rattle.markup.specs.Names.{HasNames, text_cmp}

true_is_not_false : true ≡ false → ⊥
true_is_not_false e = absurd cc

swapped_by : (xs ys : List ℕ) (b : Bool) → bytes_eq xs ys ≡ b → bytes_eq ys xs ≡ b
swapped_by xs ys true e = (bytes_eq-Decides ys xs).1 (sym ((bytes_eq-Decides xs ys).0 e))
swapped_by xs ys false e = false_from_ne_true _ (λ d. true_is_not_false (sym ((bytes_eq-Decides xs ys).1 (sym ((bytes_eq-Decides ys xs).0 d))) ∙ e))

-- the test of two texts is the same the other way round
bytes_eq-swapped : (xs ys : List ℕ) → bytes_eq ys xs ≡ bytes_eq xs ys
bytes_eq-swapped xs ys = swapped_by xs ys (bytes_eq xs ys) refl

or_first : (a b : Bool) → cond a true b ≡ (b || a)
or_first true true = refl
or_first true false = refl
or_first false true = refl
or_first false false = refl

or_last : (a : Bool) → (a || false) ≡ a
or_last true = refl
or_last false = refl

abbrev Set : Type 0
Set = BTreeSet (List ℕ)

pub added : (old new : Set) (names : List (List ℕ)) (key : List ℕ) → HasNames (Some old) names → Updates text_cmp old new key true → HasNames (Some new) (names ++ key ∷ [])
added old new names key has updates name =
    updates.0 name
    ∙ (ap (λ same. cond same true (contains text_cmp old name)) (is_eq-slice_cmp key name ∙ bytes_eq-swapped name key)
    ∙ (or_first (bytes_eq name key) (contains text_cmp old name)
    ∙ (ap (λ b. b || bytes_eq name key) (has name)
    ∙ (ap (λ b. list_any (bytes_eq name) names || b) (sym (or_last (bytes_eq name key)))
    ∙ sym (list_any-append (bytes_eq name) names (key ∷ []))))))

pub names_after : (old new : Set) (names : List (List ℕ)) (key : List ℕ) (first : Bool) → HasNames (Some old) names
    → Updates text_cmp old new key true → OnFalse first (IsUnchanged old new) → HasNames (Some new) (cond first (names ++ key ∷ []) names)
names_after old new names key true has updates same = added old new names key has updates
names_after old new names key false has updates same = λ name. ap (λ keys. list_any (λ k. is_eq (text_cmp name k)) keys) same ∙ has name
